-- Drafts that agree, of sources that are alike: the checks answer alike, and the results are alike.
use Rattle.std.proofs.Common.{◌≡◌, ℕ, zero, suc, ◌<◌, Bool, true, false, not, ◌&&◌, ◌||◌, List, [], ◌∷◌, map, length, get_or, is_some, Some, None, Ok, Err, Option, Result, sym, refl, ap, ◌∙◌, subst, ap₂, ⊎_elim, arith}
use mathlib.Core.Path.{fun_ext}
use Rattle.std.proofs.lemmas.Bool.{cases_Bool, cases_lt, both_ways, and_parts, and_left, cond-true}
use Rattle.std.proofs.lemmas.List.{get_or_past, length-map, ext_get_or}
use Rattle.std.proofs.lemmas.Option.{none-some, same_Some}
use Rattle.model.specs.declared.nodes.Node.{Node}
use Rattle.model.specs.declared.nodes.Origin.{Origin}
use Rattle.model.specs.declared.nodes.Origin.TheVariants.{Copied, Private, Outer}
use Rattle.model.specs.declared.faults.RepairFault.{RepairFault}
use Rattle.model.specs.declared.faults.RepairFault.TheVariants.{FromNoName, SpelledApart, OuterDeclared, Lost}
use Rattle.model.specs.Lists.{first_with, counting, places, or_next, or_else, is_none}
use Rattle.model.specs.Kinds.{row, has_name, declares as kind_declares}
use Rattle.model.specs.Names.{alike, name_at, kind_at, no_name, nodes, entry_at}
use Rattle.model.specs.Fitting.{proper, number_fits, name_fits}
use Rattle.model.specs.Forest.{shape}
use Rattle.model.specs.Scopes.{Order, reach}
use Rattle.model.specs.declared.classes.Class.{Class}
use Rattle.model.specs.declared.classes.Class.TheVariants.{OfOuter}
use Rattle.model.specs.Classes.{Source, by_origin, of_copied, reach_at, class_of, classes, together, is_outer, is_inner, Draft, class_at, source_of}
use Rattle.model.specs.Checks.{unlike_free, copied_from_no_name, spelled_as, lowest_of, from_no_name, spelled_apart, outer_declared, lost, at_place, fault}
use Rattle.model.specs.Repair.{Mended, mend, repair}
use Rattle.model.specs.Rules.{Alike, Agree}
use Rattle.laws.proofs.NamesRead.{alike_same}
use Rattle.laws.proofs.Forests.{same_shape}
use Rattle.laws.proofs.Reaches.{same_kinds}
use Rattle.promise.specs.Reaching.{aim, Reaching}
use Rattle.promise.proofs.Lists.{any_count_at, first_is, first_some, first_same}
use Rattle.promise.proofs.Reaches.{named_in, reaches_at}
use Rattle.promise.proofs.Classes.{together_at, some_is, none_is, not_outer}
use Rattle.promise.proofs.Respelling.{length_kinds}
use Rattle.promise.proofs.Mending.{draft_node, named_class}
use Rattle.promise.proofs.Sources.{class_named}

-- nodes without a name have none
nameless : (x : Node) (p : List Node) → proper (x ∷ p) ≡ true → has_name x.kind ≡ false → x.name ≡ no_name
nameless x p h n =
    let t = and_parts (number_fits (row x.kind).most x.number && name_fits (has_name x.kind) x.name) _ h in
    let u = and_parts (number_fits (row x.kind).most x.number) _ t.0 in
    alike_same _ _ (subst (λ b. name_fits b x.name ≡ true) n u.1)

nameless_same : (p q : List Node) → proper p ≡ true → proper q ≡ true → length p ≡ length q → (i : ℕ) → has_name (kind_at p i) ≡ false → has_name (kind_at q i) ≡ false → name_at p i ≡ name_at q i
nameless_same [] [] P Q l i n m = refl
nameless_same [] (y ∷ q) P Q l i n m = absurd (omega arith)
nameless_same (x ∷ p) [] P Q l i n m = absurd (omega arith)
nameless_same (x ∷ p) (y ∷ q) P Q l zero n m = nameless x p P n ∙ sym (nameless y q Q m)
nameless_same (x ∷ p) (y ∷ q) P Q l (suc i) n m = nameless_same p q (and_parts _ (proper p) P).1 (and_parts _ (proper q) Q).1 (omega arith) i n m

pub origin_map : (d : Draft) (i : ℕ) → get_or (map (λ n. n.origin) d) i Outer ≡ (entry_at d i).origin
origin_map [] i = refl
origin_map (n ∷ d) zero = refl
origin_map (n ∷ d) (suc i) = origin_map d i

-- Drafts that agree
module _ (s : Source) (d e : Draft) (G : Agree s d e) where
  pub draft_long : length d ≡ length e
  draft_long = sym (length-map d (λ n. n.origin)) ∙ ap length G.origins ∙ length-map e (λ n. n.origin)

  pub node_kind : (i : ℕ) → kind_at (nodes d) i ≡ kind_at (nodes e) i
  node_kind = same_kinds (nodes d) (nodes e) G.kinds

  pub draft_kind : (i : ℕ) → (entry_at d i).node.kind ≡ (entry_at e i).node.kind
  draft_kind i = ap (λ n. n.kind) (draft_node d i) ∙ node_kind i ∙ ap (λ n. n.kind) (sym (draft_node e i))

  pub origin_same : (i : ℕ) → (entry_at d i).origin ≡ (entry_at e i).origin
  origin_same i = sym (origin_map d i) ∙ ap (λ os. get_or os i Outer) G.origins ∙ origin_map e i

  pub outer_name : (i : ℕ) → is_outer (class_at s d i) ≡ true → (entry_at d i).node.name ≡ (entry_at e i).node.name
  outer_name i h = ap (λ n. n.name) (draft_node d i) ∙ G.outer i h ∙ ap (λ n. n.name) (sym (draft_node e i))

-- refused alike, or both mended
abbrev pub BothMended : Result Mended RepairFault → Result Mended RepairFault → Type 0
BothMended (Ok m) (Ok n) = Unit {0}
BothMended (Ok m) (Err f) = ⊥
BothMended (Err f) (Ok n) = ⊥
BothMended (Err f) (Err g) = f ≡ g

-- sources whose names are alike
pub record AlikeSources (s t : Source) : Type 0 where
  pub kinds : (k : ℕ) → kind_at s.program k ≡ kind_at t.program k
  pub reached : (k : ℕ) → reach_at s k ≡ reach_at t k
  pub free : (k : ℕ) → reach_at s k ≡ None → name_at s.program k ≡ name_at t.program k

pub itself_alike : (s : Source) → AlikeSources s s
itself_alike s = record { kinds = λ k. refl; reached = λ k. refl; free = λ k h. refl }

pub sources_alike : (order : Order) (p q : List Node) → Alike order p q → proper p ≡ true → proper q ≡ true → AlikeSources (source_of order p) (source_of order q)
sources_alike order p q A P Q =
    let same = same_kinds p q A.kinds in
    record {
      kinds = same;
      reached = λ k. ap (λ r. get_or r k None) A.reached;
      free = λ k h.
          ⊎_elim
          (λ n. A.free k n (sym (reaches_at order p k (named_in p k n)) ∙ h))
          (λ n. nameless_same p q P Q (sym (length_kinds p) ∙ (ap length A.kinds ∙ length_kinds q)) k n (ap has_name (sym (same k)) ∙ n))
          (cases_Bool (has_name (kind_at p k)));
    }

module _ (order : Order) (s t : Source) (A : AlikeSources s t) (d e : Draft) (G : Agree s d e) where
  abbrev cs : List (Option Class)
  cs = classes s d

  abbrev cs' : List (Option Class)
  cs' = classes t e

  copied_same : (k : ℕ) (r : Option ℕ) → reach_at s k ≡ r → of_copied s k r ≡ of_copied t k r
  copied_same k None h = ap OfOuter (A.free k h)
  copied_same k (Some x) h = refl

  pub class_same : (i : ℕ) → class_at s d i ≡ class_at t e i
  class_same i =
      ⊎_elim
      (λ n.
      let c = class_named s d i n in
      let c' = class_named t e i (ap has_name (sym (node_kind s d e G i)) ∙ n) in
      c ∙ ap Some (go (entry_at d i).origin refl c ∙ ap (by_origin t (entry_at e i).node.name) (origin_same s d e G i)) ∙ sym c')
      (λ n. none_is _ (sym (named_class s d i) ∙ n) ∙ sym (none_is _ (sym (named_class t e i) ∙ ap has_name (sym (node_kind s d e G i)) ∙ n)))
      (cases_Bool (has_name (kind_at (nodes d) i)))
    where
      go : (o : Origin) → (entry_at d i).origin ≡ o → class_at s d i ≡ Some (by_origin s (entry_at d i).node.name o) → by_origin s (entry_at d i).node.name o ≡ by_origin t (entry_at e i).node.name o
      go (Copied k) h c = copied_same k (reach_at s k) refl ∙ ap (of_copied t k) (A.reached k)
      go (Private g) h c = refl
      go Outer h c = ap OfOuter (outer_name s d e G i (ap is_outer c))

  pub classes_same : cs ≡ cs'
  classes_same = ext_get_or None cs cs' (length-map d (class_of s) ∙ draft_long s d e G ∙ sym (length-map e (class_of t))) (λ i _. class_same i)

  pub sees_same : order (shape (nodes d)) ≡ order (shape (nodes e))
  sees_same = ap order (same_shape (nodes d) (nodes e) G.kinds G.numbers)

  abbrev sees : ℕ → List ℕ
  sees = order (shape (nodes d))

  abbrev sees' : ℕ → List ℕ
  sees' = order (shape (nodes e))

  nine_same : (i : ℕ) → from_no_name s d i ≡ from_no_name t e i
  nine_same i = ap₂ (λ k b. has_name k && b) (draft_kind s d e G i) (go (entry_at d i).origin ∙ ap (copied_from_no_name t) (origin_same s d e G i))
    where
      go : (o : Origin) → copied_from_no_name s o ≡ copied_from_no_name t o
      go (Copied k) = ap (λ x. not (has_name x)) (A.kinds k)
      go (Private g) = refl
      go Outer = refl

  lowest_together : (i : ℕ) → is_some (class_at s d i) ≡ true → together (class_at s d i) (class_at s d (lowest_of cs i)) ≡ true
  lowest_together i h =
      let (c, k) = some_is _ h in
      let f : ℕ → Bool = λ j. together (get_or cs i None) (get_or cs j None) in
      let l : i < length cs = ⊎_elim (λ l. l) (λ l. absurd (both_ways _ (ap is_some (get_or_past cs i None l)) h)) (cases_lt i (length cs)) in
      let (x, g) = first_some f (places cs) (any_count_at f 0 (length cs) i (omega arith) (omega arith) (together_at _ _ c k refl)) in
      subst (λ o. f (or_else i o) ≡ true) (sym g) (first_is f (places cs) x g).0

  ten_same : (i : ℕ) → spelled_apart s cs d i ≡ spelled_apart t cs' e i
  ten_same i =
      ⊎_elim
      (λ n.
      let x = lowest_of cs i in
      let a : spelled_as d i x ≡ spelled_as e i (lowest_of cs' i) =
      (λ j. alike (draft_node d i j).name (draft_node d x j).name)
      ∙ G.within i x (lowest_together i (sym (named_class s d i) ∙ n))
      ∙ (λ j. alike (sym (draft_node e i) j).name (sym (draft_node e x) j).name)
      ∙ ap (λ c. spelled_as e i (lowest_of c i)) classes_same in
      let u = go (entry_at d i).origin refl (class_named s d i n) ∙ ap (unlike_free t (entry_at e i)) (origin_same s d e G i) in
      λ j. has_name (draft_kind s d e G i j) && (not (a j) || u j))
      (λ n. and_left _ _ (ap (λ x. has_name x.kind) (draft_node d i) ∙ n) ∙ sym (and_left _ _ (ap has_name (sym (draft_kind s d e G i)) ∙ ap (λ x. has_name x.kind) (draft_node d i) ∙ n)))
      (cases_Bool (has_name (kind_at (nodes d) i)))
    where
      unlike : (k : ℕ) (r : Option ℕ) → reach_at s k ≡ r → class_at s d i ≡ Some (of_copied s k r) → (is_none r && not (alike (entry_at d i).node.name (name_at s.program k))) ≡ (is_none r && not (alike (entry_at e i).node.name (name_at t.program k)))
      unlike k None h c = ap₂ (λ a b. not (alike a b)) (outer_name s d e G i (ap is_outer c)) (A.free k h)
      unlike k (Some x) h c = refl

      go : (o : Origin) → (entry_at d i).origin ≡ o → class_at s d i ≡ Some (by_origin s (entry_at d i).node.name (entry_at d i).origin) → unlike_free s (entry_at d i) o ≡ unlike_free t (entry_at e i) o
      go (Copied k) h c =
          unlike k (reach_at s k) refl (c ∙ ap (λ o. Some (by_origin s (entry_at d i).node.name o)) h)
          ∙ ap (λ r. is_none r && not (alike (entry_at e i).node.name (name_at t.program k))) (A.reached k)
      go (Private g) h c = refl
      go Outer h c = refl

  eleven_same : (i : ℕ) → outer_declared cs d i ≡ outer_declared cs' e i
  eleven_same i = ap₂ (λ k c. kind_declares k && is_outer c) (draft_kind s d e G i) (class_same i)

  twelve_same : (i : ℕ) → lost sees cs i ≡ lost sees' cs' i
  twelve_same i = ap₂ (λ v c. lost v c i) sees_same classes_same

  found_same : (f : ℕ → RepairFault) (a b : ℕ → Bool) → ((i : ℕ) → a i ≡ b i) → at_place f (first_with a (places d)) ≡ at_place f (first_with b (places e))
  found_same f a b h = ap (at_place f) (first_same a b (places d) h ∙ ap (λ n. first_with b (counting 0 n)) (draft_long s d e G))

  pub fault_same : fault s sees cs d ≡ fault t sees' cs' e
  fault_same =
      let a = found_same FromNoName (from_no_name s d) (from_no_name t e) nine_same in
      let b = found_same SpelledApart (spelled_apart s cs d) (spelled_apart t cs' e) ten_same in
      let c = found_same OuterDeclared (outer_declared cs d) (outer_declared cs' e) eleven_same in
      let f = found_same Lost (lost sees cs) (lost sees' cs') twelve_same in
      λ i. or_next (a i) (or_next (b i) (or_next (c i) (f i)))

  pub results_alike : (m n : Mended) → Reaching order s d m → Reaching order t e n → Alike order m.program n.program
  results_alike m n R S =
      let ks = R.kinds ∙ G.kinds ∙ sym S.kinds in
      let l : length m.program ≡ length n.program = sym (length_kinds m.program) ∙ ap length ks ∙ length_kinds n.program in
      let same : (i : ℕ) → reach order m.program i ≡ reach order n.program i = λ i. R.reaches i ∙ (λ j. aim (sees_same j) (classes_same j) i) ∙ sym (S.reaches i) in
      record {
        kinds = ks;
        numbers = R.numbers ∙ G.numbers ∙ sym S.numbers;
        reached = ap₂ (λ f k. map f (counting 0 k)) (fun_ext same) l;
        free = λ i h r. go i (ap has_name (same_kinds (nodes d) m.program (sym R.kinds) i) ∙ h) r (is_outer (class_at s d i)) refl;
      }
    where
      go : (i : ℕ) → has_name (kind_at (nodes d) i) ≡ true → reach order m.program i ≡ None → (b : Bool) → is_outer (class_at s d i) ≡ b → name_at m.program i ≡ name_at n.program i
      go i h r true o = R.outer_kept i o ∙ G.outer i o ∙ sym (S.outer_kept i (ap is_outer (sym (class_same i)) ∙ o))
      go i h r false o =
          let k = not_outer (class_at s d i) (sym (named_class s d i) ∙ h) o in
          let (x, f) = R.found i k in
          absurd (none-some x (sym r ∙ R.reaches i ∙ cond-true (is_inner (class_at s d i)) _ _ k ∙ f))

  pub both_mended : BothMended (mend order s d) (mend order t e)
  both_mended = go (fault s sees cs d) (fault t sees' cs' e) fault_same
    where
      go : (a b : Option RepairFault) → a ≡ b → BothMended (elim a [ None ↦ Ok (repair sees cs (nodes d)) | Some f ↦ Err f ]) (elim b [ None ↦ Ok (repair sees' cs' (nodes e)) | Some f ↦ Err f ])
      go None None h = tt
      go None (Some f) h = absurd (none-some f h)
      go (Some f) None h = absurd (none-some f (sym h))
      go (Some f) (Some g) h = same_Some _ _ h
