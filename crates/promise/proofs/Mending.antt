-- The checks give what the repair's laws ask for, so an accepted draft is mended.
use Rattle.std.proofs.Common.{◌≡◌, ℕ, zero, suc, ◌<◌, ◌≤◌, Bool, true, false, cond, not, List, [], ◌∷◌, length, get_or, is_some, Some, None, Ok, Err, Option, Result, sym, refl, ap, ◌∙◌, subst, ⊎_elim, arith}
use Rattle.std.proofs.lemmas.Bool.{cases_lt, both_ways, and_parts, and_left, and_cases, or_parts, not-false, not-true, cond-true, cond-false, false_from_ne_true}
use Rattle.std.proofs.lemmas.List.{get_or_past, length-map}
use Rattle.std.proofs.lemmas.Option.{none-some}
use Rattle.model.specs.declared.nodes.Node.{Node}
use Rattle.model.specs.declared.nodes.Origin.TheVariants.{Outer}
use Rattle.model.specs.declared.faults.RepairFault.{RepairFault}
use Rattle.model.specs.declared.faults.RepairFault.TheVariants.{FromNoName, SpelledApart, OuterDeclared, Lost}
use Rattle.model.specs.Lists.{first_with, counting, places, or_next, or_else}
use Rattle.model.specs.Kinds.{has_name, declares as kind_declares}
use Rattle.model.specs.Names.{name_at, kind_at, node_at, blank, nodes, entry_at}
use Rattle.model.specs.Forest.{shape}
use Rattle.model.specs.Scopes.{Order, reach_by}
use Rattle.model.specs.declared.classes.Class.{Class}
use Rattle.model.specs.Classes.{Source, class_of, classes, together, is_outer, is_inner, Draft, class_at, source_of}
use Rattle.model.specs.Checks.{from_no_name, spelled_apart, spelled_as, outer_declared, lost, lowest_of, at_place, fault}
use Rattle.model.specs.Repair.{Mended, repair, mend}
use Rattle.model.specs.Rules.{kind_in, Visible}
use Rattle.model.specs.Promise.{Serves, PastTen, Served, RefusedExactly}
use Rattle.laws.proofs.NamesRead.{alike_same}
use Rattle.laws.proofs.RoundTrips.{length_nodes}
use Rattle.laws.proofs.Forests.{same_shape}
use Rattle.laws.proofs.Reaches.{shape_kind, same_kinds, reaches_itself}
use Rattle.promise.specs.Rounds.{Classed, OneSpelling, NoOuter, DraftsClassed}
use Rattle.promise.specs.Reaching.{home, aim, Reaching}
use Rattle.promise.proofs.Lists.{any_count_at, first_is, first_none, first_some, any_has}
use Rattle.promise.proofs.Results.{ok_inj, err_ok}
use Rattle.promise.proofs.Classes.{together_is, together_at, together_some, some_is, outer_some, not_outer}
use Rattle.promise.proofs.Respelling.{Same, same_trans, round_same, round_nameless, round_one, round_outer, by_visits, repairs_visit}
use Rattle.promise.proofs.Rounds.{repair_ends_lem, settled_reach}

-- Drafts
pub draft_node : (d : Draft) (i : ℕ) → (entry_at d i).node ≡ node_at (nodes d) i
draft_node [] i = refl
draft_node (n ∷ d) zero = refl
draft_node (n ∷ d) (suc i) = draft_node d i

some_cond : (b : Bool) (c : Class) → is_some (cond b (Some c) None) ≡ b
some_cond true c = refl
some_cond false c = refl

pub named_class : (s : Source) (d : Draft) (i : ℕ) → has_name (kind_at (nodes d) i) ≡ is_some (class_at s d i)
named_class s [] i = refl
named_class s (n ∷ d) zero = sym (some_cond (has_name n.node.kind) _)
named_class s (n ∷ d) (suc i) = named_class s d i

pub draft_classed : (s : Source) (d : Draft) → Classed (classes s d) (nodes d)
draft_classed s d = record { long = length_nodes d ∙ sym (length-map d (class_of s)); named_there = named_class s d }

-- What the checks say, place by place
pub record Checked (s : Source) (sees : ℕ → List ℕ) (d : Draft) : Type 0 where
  pub nine : (i : ℕ) → from_no_name s d i ≡ false
  pub ten : (i : ℕ) → spelled_apart s (classes s d) d i ≡ false
  pub eleven : (i : ℕ) → outer_declared (classes s d) d i ≡ false
  pub twelve : (i : ℕ) → lost sees (classes s d) i ≡ false

pub nowhere : (t : ℕ → Bool) (n : ℕ) → first_with t (counting 0 n) ≡ None → ((i : ℕ) → n ≤ i → t i ≡ false) → (i : ℕ) → t i ≡ false
nowhere t n e past i = ⊎_elim (λ l. false_from_ne_true _ (λ h. both_ways _ (first_none t (counting 0 n) e) (any_count_at t 0 n i (omega arith) (omega arith) h))) (past i) (cases_lt i n)

next_none : (a b : Option RepairFault) → or_next a b ≡ None → (a ≡ None) × (b ≡ None)
next_none None b h = (refl, h)
next_none (Some f) b h = absurd (none-some f (sym h))

place_none : (f : ℕ → RepairFault) (o : Option ℕ) → at_place f o ≡ None → o ≡ None
place_none f None h = refl
place_none f (Some i) h = absurd (none-some (f i) (sym h))

module _ (s : Source) (sees : ℕ → List ℕ) (d : Draft) where
  past_node : (i : ℕ) → length d ≤ i → entry_at d i ≡ record { node = blank; origin = Outer }
  past_node i l = get_or_past d i _ l

  pub past_nine : (i : ℕ) → length d ≤ i → from_no_name s d i ≡ false
  past_nine i l = and_left _ _ (ap (λ n. has_name n.node.kind) (past_node i l))

  pub past_ten : (i : ℕ) → length d ≤ i → spelled_apart s (classes s d) d i ≡ false
  past_ten i l = and_left _ _ (ap (λ n. has_name n.node.kind) (past_node i l))

  past_eleven : (i : ℕ) → length d ≤ i → outer_declared (classes s d) d i ≡ false
  past_eleven i l = and_left _ _ (ap (λ n. kind_declares n.node.kind) (past_node i l))

  past_twelve : (i : ℕ) → length d ≤ i → lost sees (classes s d) i ≡ false
  past_twelve i l = and_left _ _ (ap is_inner (get_or_past (classes s d) i None (omega (arith, length-map d (class_of s)))))

  pub checked : fault s sees (classes s d) d ≡ None → Checked s sees d
  checked h =
      let a = next_none (at_place FromNoName (first_with (from_no_name s d) (places d))) _ h in
      let b = next_none (at_place SpelledApart (first_with (spelled_apart s (classes s d) d) (places d))) _ a.1 in
      let c = next_none (at_place OuterDeclared (first_with (outer_declared (classes s d) d) (places d))) _ b.1 in
      record {
        nine = nowhere (from_no_name s d) (length d) (place_none _ _ a.0) past_nine;
        ten = nowhere (spelled_apart s (classes s d) d) (length d) (place_none _ _ b.0) past_ten;
        eleven = nowhere (outer_declared (classes s d) d) (length d) (place_none _ _ c.0) past_eleven;
        twelve = nowhere (lost sees (classes s d)) (length d) (place_none _ _ c.1) past_twelve;
      }

  abbrev cs : List (Option Class)
  cs = classes s d

  lowest_same : (i j : ℕ) (c : Class) → get_or cs i None ≡ Some c → get_or cs j None ≡ get_or cs i None → i < length cs → lowest_of cs i ≡ lowest_of cs j
  lowest_same i j c h e l =
      let t : ℕ → Bool = λ k. together (get_or cs i None) (get_or cs k None) in
      let (x, f) = first_some t (places cs) (any_count_at t 0 (length cs) i (omega arith) (omega arith) (together_at _ _ c h refl)) in
      ap (or_else i) f ∙ sym (ap (or_else j) (ap (λ o. first_with (λ k. together o (get_or cs k None)) (places cs)) e ∙ f))

  -- past check 10 a class has one spelling
  pub one_name : ((i : ℕ) → spelled_apart s cs d i ≡ false) → (i j : ℕ) → together (get_or cs i None) (get_or cs j None) ≡ true → name_at (nodes d) i ≡ name_at (nodes d) j
  one_name ten i j t =
      let e = together_is _ _ t in
      let u = together_some _ _ t in
      let (c, h) = some_is _ u.0 in
      let l : i < length cs = ⊎_elim (λ l. l) (λ l. absurd (both_ways _ (ap is_some (get_or_past cs i None l)) u.0)) (cases_lt i (length cs)) in
      spelled_lowest i u.0 ∙ ap (λ x. (entry_at d x).node.name) (lowest_same i j c h (sym e) l) ∙ sym (spelled_lowest j u.1)
    where
      spelled_lowest : (k : ℕ) → is_some (get_or cs k None) ≡ true → name_at (nodes d) k ≡ (entry_at d (lowest_of cs k)).node.name
      spelled_lowest k h =
          ap (λ n. n.name) (sym (draft_node d k))
          ∙ alike_same _ _ (not-false _ (or_parts (not (spelled_as d k (lowest_of cs k))) _ (⊎_elim (λ x. absurd (both_ways _ x (ap (λ n. has_name n.kind) (draft_node d k) ∙ named_class s d k ∙ h))) (λ x. x) (and_cases (has_name (entry_at d k).node.kind) _ (ten k)))).0)

  -- past check 11 no declaration is of outer class
  pub no_outer : ((i : ℕ) → outer_declared cs d i ≡ false) → NoOuter cs (nodes d)
  no_outer eleven i h = ⊎_elim
      (λ x. absurd (both_ways _ x (ap (λ n. kind_declares n.kind) (draft_node d i) ∙ h)))
      (λ x. x)
      (and_cases (kind_declares (entry_at d i).node.kind) _ (eleven i))

pub drafts_classed_lem : DraftsClassed
drafts_classed_lem s d = (draft_classed s d, λ sees h. let C = checked s sees d h in (one_name s sees d C.ten, no_outer s sees d C.eleven))

never : (t : ℕ → Bool) (xs : List ℕ) → ((i : ℕ) → t i ≡ false) → first_with t xs ≡ None
never t [] h = refl
never t (x ∷ xs) h = cond-false (t x) _ _ (h x) ∙ never t xs h

-- An accepted draft
module _ (order : Order) (V : Visible order) (s : Source) (d : Draft) where
  abbrev p : List Node
  p = nodes d

  abbrev cls : ℕ → Option Class
  cls i = class_at s d i

  abbrev sees : ℕ → List ℕ
  sees = order (shape (nodes d))

  module _ (C : Checked s (order (shape (nodes d))) d) where
    in_sight : (i : ℕ) → is_inner (cls i) ≡ true → (e : ℕ) × (home sees (classes s d) i ≡ Some e)
    in_sight i h = first_some _ (sees i) (not-false _ (⊎_elim (λ x. absurd (both_ways _ x h)) (λ x. x) (and_cases (is_inner (cls i)) _ (C.twelve i))))

    -- an outer class has no declaration, and what is no name sees nothing
    no_home : (i : ℕ) → is_inner (cls i) ≡ false → home sees (classes s d) i ≡ None
    no_home i n = go (home sees (classes s d) i) refl
      where
        go : (o : Option ℕ) → home sees (classes s d) i ≡ o → home sees (classes s d) i ≡ None
        go None h = h
        go (Some x) h =
            let (t, w) = first_is _ (sees i) x h in
            let (k, l, g) = w in
            let dx : kind_declares (kind_at p x) ≡ true = ap kind_declares (sym (shape_kind p x)) ∙ subst (λ y. kind_declares (kind_in (shape p) y) ≡ true) g (V.declarations (shape p) i k l) in
            absurd (both_ways (is_inner (cls i)) n (not_outer (cls i) (together_some (cls i) (cls x) t).0 (ap is_outer (together_is (cls i) (cls x) t) ∙ no_outer s sees d C.eleven x dx)))

    pub reaching : Reaching order s d (repair sees (classes s d) p)
    reaching =
        let cs = classes s d in
        let f = draft_classed s d in
        let m = repair sees cs p in
        let E = repair_ends_lem order V cs p f in
        let (v, e) = repairs_visit cs sees E.repairs in
        let (g, S) = by_visits cs sees (Same p) (λ q h t. same_trans t (round_same cs sees q h)) v f (record { kinds = refl; numbers = refl }) in
        let one : OneSpelling cs m.program = (by_visits cs sees (OneSpelling cs) (λ q h. round_one cs sees q h) v f (one_name s sees d C.ten)).1 in
        let sh = same_shape m.program p S.kinds S.numbers in
        record {
          kinds = S.kinds;
          numbers = S.numbers;
          shapes = sh;
          repairs = E.repairs;
          one_spelling = one;
          outer_kept = λ i o.
              (by_visits cs sees (λ q. Same p q × (name_at q i ≡ name_at p i)) (λ q h t. (same_trans t.0 (round_same cs sees q h), round_outer order V cs p q (same_shape q p t.0.kinds t.0.numbers) h (λ x k. no_outer s sees d C.eleven x (ap kind_declares (same_kinds p q (sym t.0.kinds) x) ∙ k)) i o ∙ t.1)) v f (record { kinds = refl; numbers = refl }, refl)).1.1;
          nameless = λ i n.
              (by_visits cs sees (λ q. name_at q i ≡ name_at p i) (λ q h t. round_nameless cs sees q h i (h.named_there i ∙ sym (f.named_there i) ∙ n) ∙ t) v f refl).1;
          reaches = λ i. ap (λ v. reach_by (order v) m.program i) sh ∙ settled_reach order V cs p f m.program g one e i ∙ go i (is_inner (cls i)) refl;
          found = in_sight;
        }
      where
        go : (i : ℕ) (b : Bool) → is_inner (cls i) ≡ b → home sees (classes s d) i ≡ aim sees (classes s d) i
        go i true h = sym (cond-true (is_inner (cls i)) _ _ h)
        go i false h = no_home i h ∙ sym (cond-false (is_inner (cls i)) _ _ h)

  pub mend_ok : (m : Mended) → mend order s d ≡ Ok m → (fault s (order (shape (nodes d))) (classes s d) d ≡ None) × (repair (order (shape (nodes d))) (classes s d) (nodes d) ≡ m)
  mend_ok m = go (fault s sees (classes s d) d)
    where
      go : (o : Option RepairFault) → ◌≡◌ {A = Result Mended RepairFault} (elim o [ None ↦ Ok (repair sees (classes s d) p) | Some f ↦ Err f ]) (Ok m) → (o ≡ None) × (repair sees (classes s d) p ≡ m)
      go None e = (refl, ok_inj e)
      go (Some f) e = absurd (err_ok e)

  pub mended : (m : Mended) → mend order s d ≡ Ok m → Checked s (order (shape (nodes d))) d × Reaching order s d m
  mended m e = let (h, r) = mend_ok m e in let C = checked s sees d h in (C, subst (Reaching order s d) r (reaching C))

  -- The program of an accepted draft serves
  pub serves : (m : Mended) → Reaching order s d m → Serves order s d m.program
  serves m R = record {
    respelling = record { kinds = R.kinds; numbers = R.numbers; nameless = λ i h. R.nameless i (ap has_name (same_kinds p m.program (sym R.kinds) i) ∙ h) };
    one_spelling = R.one_spelling;
    outer_kept = R.outer_kept;
    outer_free = λ i o. R.reaches i ∙ cond-false (is_inner (cls i)) _ _ (outer_some (cls i) o).1;
    others = λ i h. let (e, q) = R.found i h in (e, R.reaches i ∙ cond-true (is_inner (cls i)) _ _ h ∙ q, (first_is _ (sees i) e q).0);
  }

  -- Where a respelling serves, checks 11 and 12 pass
  module _ (q : List Node) (S : Serves order s d q) where
    shape_is : shape q ≡ shape p
    shape_is = same_shape q p S.respelling.kinds S.respelling.numbers

    serve_eleven : (i : ℕ) → outer_declared (classes s d) d i ≡ false
    serve_eleven i = false_from_ne_true _ λ h.
        let t = and_parts (kind_declares (entry_at d i).node.kind) _ h in
        let e = reaches_itself order V q i (ap kind_declares (same_kinds q p S.respelling.kinds i) ∙ ap (λ n. kind_declares n.kind) (sym (draft_node d i)) ∙ t.0) in
        none-some i (sym (S.outer_free i t.1) ∙ e)

    serve_twelve : (i : ℕ) → lost sees (classes s d) i ≡ false
    serve_twelve i = false_from_ne_true _ λ h.
        let t = and_parts (is_inner (cls i)) _ h in
        let (e, r, c) = S.others i t.0 in
        let (_, w) = first_is _ (sees i) e (ap (λ x. reach_by (order x) q i) (sym shape_is) ∙ r) in
        let (k, l, g) = w in
        both_ways _ (not-true _ t.1) (any_has _ (sees i) 0 k l (ap (λ x. together (cls i) (cls x)) g ∙ c))

  refuses : PastTen s d → (f : RepairFault) → fault s sees (classes s d) d ≡ Some f → (q : List Node) → Serves order s d q → ⊥
  refuses P f h q S =
      none-some f (sym (no_next _ _ (no_place FromNoName (from_no_name s d) (λ i. P.nine i)) (no_next _ _ (no_place SpelledApart (spelled_apart s (classes s d) d) (λ i. P.ten i)) (no_next _ _ (no_place OuterDeclared (outer_declared (classes s d) d) (serve_eleven q S)) (no_place Lost (lost sees (classes s d)) (serve_twelve q S))))) ∙ h)
    where
      no_next : (a b : Option RepairFault) → a ≡ None → b ≡ None → or_next a b ≡ None
      no_next a b e g = ap (λ x. or_next x b) e ∙ g

      no_place : (c : ℕ → RepairFault) (t : ℕ → Bool) → ((i : ℕ) → t i ≡ false) → at_place c (first_with t (places d)) ≡ None
      no_place c t a = ap (at_place c) (never t (places d) a)

  pub served : PastTen s d → Served order s d (mend order s d)
  served P = go (fault s sees (classes s d) d) refl
    where
      go : (o : Option RepairFault) → fault s sees (classes s d) d ≡ o → Served order s d (elim o [ None ↦ Ok (repair sees (classes s d) p) | Some f ↦ Err f ])
      go None h = let R = reaching (checked s sees d h) in (serves _ R, R.repairs)
      go (Some f) h = refuses P f h

pub refused_exactly : (order : Order) → Visible order → RefusedExactly order
refused_exactly order V p d P = served order V (source_of order p) d P
