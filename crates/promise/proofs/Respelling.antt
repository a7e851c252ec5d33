-- What one respelling keeps, and with it a round and all rounds.
use Rattle.std.proofs.Common.{◌≡◌, ℕ, zero, suc, Bool, true, false, cond, ◌&&◌, List, [], ◌∷◌, length, get_or, is_some, Some, None, Option, sym, refl, ap, ◌∙◌, ap₂, ⊎_elim, arith}
use Rattle.std.proofs.lemmas.Bool.{cases_Bool, both_ways, false≢true, and_parts, cond-true, cond-false, cond_both}
use Rattle.std.proofs.lemmas.List.{length-map}
use Rattle.model.specs.declared.nodes.Name.{Name}
use Rattle.model.specs.declared.nodes.Node.{Node}
use Rattle.model.specs.Lists.{keep, places}
use Rattle.model.specs.Kinds.{has_name, declares}
use Rattle.model.specs.Names.{name_at, kind_at, respelled}
use Rattle.model.specs.Forest.{shape}
use Rattle.model.specs.Scopes.{Order, reach_by}
use Rattle.model.specs.declared.classes.Class.{Class}
use Rattle.model.specs.Classes.{together, is_outer}
use Rattle.model.specs.Repair.{leads, class_reached, captures, captors, fresh, respell, respell_all, round, Repairs, done, again, classes_reached}
use Rattle.model.specs.Rules.{kinds_of, numbers_of, Visible}
use Rattle.laws.proofs.Reaches.{same_kinds}
use Rattle.promise.specs.Rounds.{Classed, OneSpelling, NoOuter, RoundKeeps, Visits, here, next}
use Rattle.promise.proofs.Lists.{any_count, get_or_places}
use Rattle.promise.proofs.Reaches.{reached_declares}
use Rattle.promise.proofs.Classes.{together_is, together_some, none_is}

-- what respelling leaves alone
pub record Same (p q : List Node) : Type 0 where
  pub kinds : kinds_of q ≡ kinds_of p
  pub numbers : numbers_of q ≡ numbers_of p

pub same_trans : {p q r : List Node} → Same p q → Same q r → Same p r
same_trans s t = record { kinds = t.kinds ∙ s.kinds; numbers = t.numbers ∙ s.numbers }

pub length_kinds : (p : List Node) → length (kinds_of p) ≡ length p
length_kinds p = length-map p (λ n. n.kind)

pub same_length : (p q : List Node) → Same p q → length q ≡ length p
same_length p q s = sym (length_kinds q) ∙ ap length s.kinds ∙ length_kinds p

pub classed_same : (cs : List (Option Class)) (p q : List Node) → Classed cs p → Same p q → Classed cs q
classed_same cs p q f s = record {
  long = same_length p q s ∙ f.long;
  named_there = λ i. ap has_name (same_kinds q p s.kinds i) ∙ f.named_there i;
}

-- One respelling

respell_node : (b : Bool) (n : Node) (a : Name) → ((cond b (respelled n a) n).kind ≡ n.kind) × ((cond b (respelled n a) n).number ≡ n.number) × ((cond b (respelled n a) n).name ≡ cond b a n.name)
respell_node true n a = (refl, refl, refl)
respell_node false n a = (refl, refl, refl)

pub respell_same : (c : Option Class) (a : Name) (cs : List (Option Class)) (p : List Node) → Same p (respell c a cs p)
respell_same c a [] [] = record { kinds = refl; numbers = refl }
respell_same c a [] (n ∷ ns) = record { kinds = refl; numbers = refl }
respell_same c a (e ∷ es) [] = record { kinds = refl; numbers = refl }
respell_same c a (e ∷ es) (n ∷ ns) =
    let h = respell_same c a es ns in
    let t = respell_node (together c e) n a in
    record { kinds = ap₂ ◌∷◌ t.0 h.kinds; numbers = ap₂ ◌∷◌ t.1 h.numbers }

pub respell_at : (c : Option Class) (a : Name) (cs : List (Option Class)) (p : List Node) → length p ≡ length cs → (j : ℕ) → name_at (respell c a cs p) j ≡ cond (together c (get_or cs j None)) a (name_at p j)
respell_at None a [] [] l j = refl
respell_at (Some c) a [] [] l j = refl
respell_at c a [] (n ∷ ns) l j = absurd (omega arith)
respell_at c a (e ∷ es) [] l j = absurd (omega arith)
respell_at c a (e ∷ es) (n ∷ ns) l zero = (respell_node (together c e) n a).2
respell_at c a (e ∷ es) (n ∷ ns) l (suc j) = respell_at c a es ns (omega arith) j

abbrev pub respelled_at : List (Option Class) → ℕ → List Node → List Node
respelled_at cs e q = respell (get_or cs e None) (fresh (name_at q e) q) cs q

-- name e leads a captor
abbrev pub has_turn : (ℕ → List ℕ) → List (Option Class) → List Node → ℕ → Bool
has_turn sees cs p e = leads cs e && captures cs (classes_reached sees cs p) e

module _ (cs : List (Option Class)) where
  -- what each respelling keeps, all of them keep
  pub by_turns : (P : List Node → Type 0) (t : ℕ → Bool) → ((q : List Node) (e : ℕ) → Classed cs q → t e ≡ true → P q → P (respelled_at cs e q)) → (xs : List ℕ) (p : List Node) → Classed cs p → P p → P (respell_all (keep t xs) cs p)
  by_turns P t step [] p f h = h
  by_turns P t step (x ∷ xs) p f h =
      cond_both (t x) (x ∷ keep t xs) (keep t xs) (λ es. P (respell_all es cs p))
      (λ e. by_turns P t step xs (respelled_at cs x p) (classed_same cs p _ f (respell_same _ _ cs p)) (step p x f e h))
      (λ _. by_turns P t step xs p f h)

  one_respell : (q : List Node) (e : ℕ) → Classed cs q → OneSpelling cs q → OneSpelling cs (respelled_at cs e q)
  one_respell q e f o i j t =
      let c = together_is _ _ t in
      let a = fresh (name_at q e) q in
      respell_at (get_or cs e None) a cs q f.long i
      ∙ (λ k. cond (together (get_or cs e None) (c k)) a (o i j t k))
      ∙ sym (respell_at (get_or cs e None) a cs q f.long j)

  -- a name of another class stays
  other_respell : (q : List Node) (e : ℕ) → Classed cs q → (i : ℕ) → together (get_or cs e None) (get_or cs i None) ≡ false → name_at (respelled_at cs e q) i ≡ name_at q i
  other_respell q e f i n = respell_at (get_or cs e None) _ cs q f.long i ∙ cond-false (together (get_or cs e None) (get_or cs i None)) _ _ n

  stem_respell : (q : List Node) (e : ℕ) → Classed cs q → OneSpelling cs q → (i : ℕ) → (name_at (respelled_at cs e q) i).stem ≡ (name_at q i).stem
  stem_respell q e f o i =
      ⊎_elim
      (λ t. ap (λ n. n.stem) (respell_at (get_or cs e None) _ cs q f.long i ∙ cond-true (together (get_or cs e None) (get_or cs i None)) _ _ t) ∙ ap (λ n. n.stem) (o e i t))
      (λ t. ap (λ n. n.stem) (other_respell q e f i t))
      (cases_Bool (together (get_or cs e None) (get_or cs i None)))

  module _ (sees : ℕ → List ℕ) (p : List Node) (f : Classed cs p) where
    -- what each respelling of a captor keeps, the round keeps
    pub by_round : (P : List Node → Type 0) → ((q : List Node) (e : ℕ) → Classed cs q → has_turn sees cs p e ≡ true → P q → P (respelled_at cs e q)) → P p → P (round sees cs p)
    by_round P step h = by_turns P (has_turn sees cs p) step (places p) p f h

    pub round_same : Same p (round sees cs p)
    round_same = by_round (Same p) (λ q e _ _ s. same_trans s (respell_same _ _ cs q)) (record { kinds = refl; numbers = refl })

    pub round_nameless : (i : ℕ) → has_name (kind_at p i) ≡ false → name_at (round sees cs p) i ≡ name_at p i
    round_nameless i n =
        by_round (λ q. name_at q i ≡ name_at p i) (λ q e g _ h. other_respell q e g i (no_name e (none_is _ (sym (f.named_there i) ∙ n))) ∙ h) refl
      where
        no_name : (e : ℕ) → get_or cs i None ≡ None → together (get_or cs e None) (get_or cs i None) ≡ false
        no_name e c = go (get_or cs e None) (get_or cs i None) c
          where
            go : (a b : Option Class) → b ≡ None → together a b ≡ false
            go None b h = refl
            go (Some c) None h = refl
            go (Some c) (Some d) h = absurd (both_ways true (ap is_some h) refl)

    pub round_one : OneSpelling cs p → OneSpelling cs (round sees cs p)
    round_one o = by_round (OneSpelling cs) (λ q e g _. one_respell q e g) o

    round_stems : OneSpelling cs p → (i : ℕ) → (name_at (round sees cs p) i).stem ≡ (name_at p i).stem
    round_stems o i =
        (by_round (λ q. OneSpelling cs q × ((name_at q i).stem ≡ (name_at p i).stem)) (λ q e g _ h. (one_respell q e g h.0, stem_respell q e g h.0 i ∙ h.1)) (o, refl)).1

  -- All rounds
  module _ (sees : ℕ → List ℕ) where
    -- what each round keeps, every program has that the rounds go through
    pub by_visits : (P : List Node → Type 0) → ((q : List Node) → Classed cs q → P q → P (round sees cs q)) → {p q : List Node} → Visits sees cs p q → Classed cs p → P p → Classed cs q × P q
    by_visits P step here f h = (f, h)
    by_visits P step (next {p = p} v) f h = by_visits P step v (classed_same cs p _ f (round_same sees p f)) (step p f h)

    -- the result is one of them, and has no captor
    pub repairs_visit : {p q : List Node} {n : ℕ} → Repairs sees cs p n q → Visits sees cs p q × (captors sees cs q ≡ [])
    repairs_visit (done e) = (here, e)
    repairs_visit (again e r) = let h = repairs_visit r in (next h.0, h.1)

-- By a visible order that keeps its laws
module _ (order : Order) (V : Visible order) (cs : List (Option Class)) where
  -- a captor has a declaration
  pub captor_declares : (p q : List Node) → shape q ≡ shape p → Classed cs q → (e : ℕ) → has_turn (order (shape p)) cs q e ≡ true → (d : ℕ) × (declares (kind_at q d) ≡ true) × (together (get_or cs e None) (get_or cs d None) ≡ true)
  captor_declares p q sh f e t =
      let sees = order (shape p) in
      let (i, _, l, c) = any_count _ 0 (length cs) (and_parts (leads cs e) _ t).1 in
      let r = (and_parts (together (get_or cs e None) (get_or (classes_reached sees cs q) i None)) _ c).0 in
      go i (reach_by sees q i) refl (ap (together (get_or cs e None)) (sym (get_or_places (λ j. class_reached cs (reach_by sees q j)) q i None (omega (arith, f.long)))) ∙ r)
    where
      go : (i : ℕ) (o : Option ℕ) → reach_by (order (shape p)) q i ≡ o → together (get_or cs e None) (class_reached cs o) ≡ true → (d : ℕ) × (declares (kind_at q d) ≡ true) × (together (get_or cs e None) (get_or cs d None) ≡ true)
      go i None h r = absurd (false≢true (together_some (get_or cs e None) None r).1)
      go i (Some d) h r = (d, reached_declares order V q i d (ap (λ s. reach_by (order s) q i) sh ∙ h), r)

  pub round_outer : (p q : List Node) → shape q ≡ shape p → Classed cs q → NoOuter cs q → (i : ℕ) → is_outer (get_or cs i None) ≡ true → name_at (round (order (shape p)) cs q) i ≡ name_at q i
  round_outer p q sh f n i o =
      by_round cs (order (shape p)) q f (λ r. name_at r i ≡ name_at q i) (λ r e g t h.
      ⊎_elim
      (λ u.
      let (d, k, c) = captor_declares p q sh f e t in
      absurd (both_ways (is_outer (get_or cs d None)) (n d k) (ap is_outer (sym (together_is (get_or cs e None) (get_or cs d None) c) ∙ together_is (get_or cs e None) (get_or cs i None) u) ∙ o)))
      (λ u. other_respell cs r e g i u ∙ h)
      (cases_Bool (together (get_or cs e None) (get_or cs i None)))) refl

pub round_keeps : RoundKeeps
round_keeps order V cs p f =
    let sees = order (shape p) in
    let s = round_same cs sees p f in
    record {
      kinds = s.kinds;
      numbers = s.numbers;
      nameless = round_nameless cs sees p f;
      one_spelling = round_one cs sees p f;
      stems = round_stems cs sees p f;
      outer = round_outer order V cs p p refl f;
    }
