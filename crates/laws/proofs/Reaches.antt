-- What a name reaches: the first of its list that is spelled alike, a declaration that reaches itself.
use Rattle.std.proofs.Common.{◌≡◌, ℕ, zero, suc, ◌+◌, ◌<◌, ◌≤◌, Bool, true, false, cond, List, [], ◌∷◌, length, get_or, Some, None, Option, sym, refl, ap, ◌∙◌, subst, ap₂, inl, inr, arith}
use Rattle.std.proofs.lemmas.List.{get_or-map, get_or_past, length-map}
use Rattle.std.proofs.lemmas.Bool.{cases_lt, cond-true}
use Rattle.model.specs.declared.kinds.Kind.TheVariants.{Card}
use Rattle.model.specs.declared.nodes.Node.{Node}
use Rattle.model.specs.Lists.{first_with, counting, places}
use Rattle.model.specs.Kinds.{has_name, declares}
use Rattle.model.specs.Names.{alike, name_at, kind_at}
use Rattle.model.specs.Forest.{shape}
use Rattle.model.specs.Scopes.{Order, reach_in, reach_by, reach, reaches}
use Rattle.model.specs.Classes.{source_of, reach_at}
use Rattle.model.specs.Rules.{Visible, kind_in, kinds_of}
use Rattle.laws.proofs.NamesRead.{same_alike}
use Rattle.laws.specs.Orders.{Reached, Reach, ByLikeness, ReachesLawful}
use Rattle.laws.proofs.Forests.{pre_shape, same_shape}

kind_at_is : (p : List Node) (i : ℕ) → kind_at p i ≡ get_or (kinds_of p) i Card
kind_at_is [] i = refl
kind_at_is (n ∷ ns) zero = refl
kind_at_is (n ∷ ns) (suc i) = kind_at_is ns i

pub same_kinds : (p q : List Node) → kinds_of p ≡ kinds_of q → (i : ℕ) → kind_at p i ≡ kind_at q i
same_kinds p q e i = kind_at_is p i ∙ (ap (λ ks. get_or ks i Card) e ∙ sym (kind_at_is q i))

pub shape_kind : (p : List Node) (i : ℕ) → kind_in (shape p) i ≡ kind_at p i
shape_kind p i = ap (λ ks. get_or ks i Card) (pre_shape p) ∙ sym (kind_at_is p i)

-- The first that passes a test

module _ (t : ℕ → Bool) where
  abbrev pub NoneBefore : List ℕ → ℕ → Type 0
  NoneBefore xs k = (j : ℕ) → j < k → t (get_or xs j 0) ≡ false

  none_more : (x : ℕ) (xs : List ℕ) (k : ℕ) → t x ≡ false → NoneBefore xs k → NoneBefore (x ∷ xs) (suc k)
  none_more x xs k e h zero l = e
  none_more x xs k e h (suc j) l = h j (omega arith)

  pub record Found (xs : List ℕ) (x : ℕ) : Type 0 where
    pub place : ℕ
    pub within : place < length xs
    pub there : get_or xs place 0 ≡ x
    pub passes : t x ≡ true
    pub first : NoneBefore xs place

  abbrev pub Finding : List ℕ → Option ℕ → Type 0
  Finding xs None = NoneBefore xs (length xs)
  Finding xs (Some x) = Found xs x

  pub finding : (xs : List ℕ) → Finding xs (first_with t xs)
  finding [] = λ j l. absurd (omega arith)
  finding (x ∷ xs) = go (t x) refl (first_with t xs) (finding xs)
    where
      go : (b : Bool) → t x ≡ b → (o : Option ℕ) → Finding xs o → Finding (x ∷ xs) (cond b (Some x) o)
      go true e o f = record { place = 0; within = omega arith; there = refl; passes = e; first = λ j l. absurd (omega arith) }
      go false e None f = none_more x xs (length xs) e f
      go false e (Some y) f =
          record { place = suc f.place; within = let l = f.within in omega arith; there = f.there; passes = f.passes; first = none_more x xs f.place e f.first }

-- Reaches

pub counting_at : (at n k : ℕ) → k < n → get_or (counting at n) k 0 ≡ at + k
counting_at at zero k l = absurd (omega arith)
counting_at at (suc n) zero l = omega arith
counting_at at (suc n) (suc k) l = counting_at (at + 1) n k (omega arith) ∙ omega arith

pub length_counting : (at n : ℕ) → length (counting at n) ≡ n
length_counting at zero = refl
length_counting at (suc n) = ap suc (length_counting (at + 1) n)

pub length_reaches : (order : Order) (p : List Node) → length (reaches order p) ≡ length p
length_reaches order p = length-map (places p) (reach_by (order (shape p)) p) ∙ length_counting 0 (length p)

module _ (order : Order) (vis : Visible order) (p : List Node) where
  pub reaches_itself : (d : ℕ) → declares (kind_at p d) ≡ true → reach order p d ≡ Some d
  reaches_itself d h =
      ap (first_with (λ e. alike (name_at p d) (name_at p e))) (vis.itself (shape p) d (ap declares (shape_kind p d) ∙ h))
      ∙ cond-true (alike (name_at p d) (name_at p d)) (Some d) None (same_alike (name_at p d) (name_at p d) refl)

  reach_of : (i : ℕ) (o : Option ℕ) → Finding (λ d. alike (name_at p i) (name_at p d)) (order (shape p) i) o → Reach order p i o
  reach_of i None f = f
  reach_of i (Some d) f =
      let c : declares (kind_at p d) ≡ true = ap declares (sym (shape_kind p d)) ∙ (ap (λ e. declares (kind_in (shape p) e)) (sym f.there) ∙ vis.declarations (shape p) i f.place f.within) in
      record { declaration = c; itself = reaches_itself d c; spelled = f.passes; place = f.place; within = f.within; seen = f.there; first = f.first }

  pub reach_is : (i : ℕ) → Reach order p i (reach order p i)
  reach_is i = reach_of i (reach order p i) (finding (λ d. alike (name_at p i) (name_at p d)) (order (shape p) i))

  within_reaches : (i : ℕ) → i < length p → get_or (reaches order p) i None ≡ reach order p i
  within_reaches i l =
      get_or-map (reach_by (order (shape p)) p) (places p) i 0 None (let z = length_counting 0 (length p) in omega arith)
      ∙ ap (reach_by (order (shape p)) p) (counting_at 0 (length p) i l ∙ omega arith)

  past_reaches : (i : ℕ) → length p ≤ i → get_or (reaches order p) i None ≡ reach order p i
  past_reaches i l =
      get_or_past (reaches order p) i None (let z = length_reaches order p in omega arith)
      ∙ sym (ap (first_with (λ d. alike (name_at p i) (name_at p d))) (vis.nothing (shape p) i (ap has_name (shape_kind p i ∙ ap (λ n. n.kind) (get_or_past p i _ l)))))

  pub reaches_are : (i : ℕ) → reach_at (source_of order p) i ≡ reach order p i
  reaches_are i = elim (cases_lt i (length p)) [ inl l ↦ within_reaches i l | inr l ↦ past_reaches i l ]

  pub reached : (i d : ℕ) → reach_at (source_of order p) i ≡ Some d → Reached order p i d
  reached i d e = subst (Reach order p i) (sym (reaches_are i) ∙ e) (reach_is i)

first_same : (t u : ℕ → Bool) → ((d : ℕ) → t d ≡ u d) → (ds : List ℕ) → first_with t ds ≡ first_with u ds
first_same t u h [] = refl
first_same t u h (d ∷ ds) = ap₂ (λ b o. cond b (Some d) o) (h d) (first_same t u h ds)

pub by_likeness : (order : Order) → ByLikeness order
by_likeness order p q k n a i =
    first_same (λ d. alike (name_at p i) (name_at p d)) (λ d. alike (name_at q i) (name_at q d)) (a i) (order (shape p) i)
    ∙ ap (λ s. reach_in q (name_at q i) (order s i)) (same_shape p q k n)

pub reaches_lawful_lem : ReachesLawful
reaches_lawful_lem order vis = record { reach_is = reach_is order vis; reaches_are = reaches_are order vis }
