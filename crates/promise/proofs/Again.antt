-- A mended program is mended to itself, and a repaired transformation is again one.
use Rattle.std.proofs.Common.{◌≡◌, ℕ, zero, suc, ◌≤◌, Bool, true, false, List, [], ◌∷◌, length, Some, None, Ok, Err, Option, Result, sym, refl, ap, ◌∙◌, subst, arith}
use Rattle.std.proofs.lemmas.Bool.{le-leb, leb-true}
use Rattle.model.specs.declared.nodes.Node.{Node}
use Rattle.model.specs.declared.faults.StageFault.TheVariants.{WrongSource, DraftTooLarge}
use Rattle.model.specs.declared.faults.RepairFault.{RepairFault}
use Rattle.model.specs.declared.faults.DraftFault.{DraftFault}
use Rattle.model.specs.declared.faults.DraftFault.TheVariants.{Stage as OfStage, Repair as OfRepair}
use Rattle.model.specs.Lists.{and_then, raised}
use Rattle.model.specs.Names.{alike, name_at, root_of, nodes}
use Rattle.model.specs.Fitting.{Of, Program}
use Rattle.model.specs.Forest.{shape}
use Rattle.model.specs.Scopes.{Order, Language}
use Rattle.model.specs.declared.classes.Class.{Class}
use Rattle.model.specs.Classes.{Draft, Source, source_of, class_at, classes, together, is_outer}
use Rattle.model.specs.Checks.{fault}
use Rattle.model.specs.Repair.{captors, respell_all, Mended, one_more, repair_within, repair, mend}
use Rattle.model.specs.Stages.{Transformation, within_limit, limited, meaning, Repaired, mended_in, with_origins, mended_draft, repaired}
use Rattle.model.specs.Book.{ran}
use Rattle.model.specs.Rules.{kinds_of, numbers_of, origins_of, Visible, Part, Alike, Agree, Agreeing, RefusesExactly, KeepsTransformation}
use Rattle.laws.proofs.NamesRead.{same_alike}
use Rattle.laws.proofs.RoundTrips.{length_nodes}
use Rattle.promise.specs.Reaching.{Reaching, MendedAgain}
use Rattle.promise.specs.Staging.{SeesAs, RepairedKeeps, ForeignAdopted}
use Rattle.promise.proofs.Results.{ok_inj, err_ok, then_ok}
use Rattle.promise.proofs.Respelling.{same_length, repairs_visit}
use Rattle.promise.proofs.Mending.{Checked, one_name, mend_ok, mended}
use Rattle.promise.proofs.Agreeing.{AlikeSources, itself_alike, sources_alike, classes_same, class_same, sees_same, fault_same, BothMended, both_mended}
use Rattle.promise.proofs.Languages.{root_allowed, mend_alike, program_mended}
use Rattle.promise.proofs.Accepting.{meaning_ok, mended_ok}

-- Nodes with origins

pub nodes_with : (d : Draft) (p : List Node) → length p ≡ length d → nodes (with_origins d p) ≡ p
nodes_with [] [] l = refl
nodes_with [] (n ∷ ns) l = absurd (omega arith)
nodes_with (e ∷ es) [] l = refl
nodes_with (e ∷ es) (n ∷ ns) l = ap (◌∷◌ n) (nodes_with es ns (omega arith))

origins_with : (d : Draft) (p : List Node) → length p ≡ length d → origins_of (with_origins d p) ≡ origins_of d
origins_with [] p l = refl
origins_with (e ∷ es) [] l = absurd (omega arith)
origins_with (e ∷ es) (n ∷ ns) l = ap (◌∷◌ e.origin) (origins_with es ns (omega arith))

length_with : (d : Draft) (p : List Node) → length (with_origins d p) ≤ length d
length_with [] p = omega arith
length_with (e ∷ es) [] = omega arith
length_with (e ∷ es) (n ∷ ns) = let h = length_with es ns in omega arith

-- An accepted draft and its program agree

module _ (order : Order) (s : Source) (d : Draft) (m : Mended) (C : Checked s (order (shape (nodes d))) d) (R : Reaching order s d m) where
  mended_long : length m.program ≡ length d
  mended_long = same_length (nodes d) m.program (record { kinds = R.kinds; numbers = R.numbers }) ∙ length_nodes d

  mended_nodes : nodes (with_origins d m.program) ≡ m.program
  mended_nodes = nodes_with d m.program mended_long

  mended_origins : origins_of (with_origins d m.program) ≡ origins_of d
  mended_origins = origins_with d m.program mended_long

  mended_agree : Agree s d (with_origins d m.program)
  mended_agree = record {
    kinds = sym (ap kinds_of mended_nodes ∙ R.kinds);
    numbers = sym (ap numbers_of mended_nodes ∙ R.numbers);
    origins = sym mended_origins;
    outer = λ i o. sym (ap (λ q. name_at q i) mended_nodes ∙ R.outer_kept i o);
    within = λ i j t.
        same_alike (name_at (nodes d) i) (name_at (nodes d) j) (one_name s (order (shape (nodes d))) d C.ten i j t)
        ∙ sym (ap (λ q. alike (name_at q i) (name_at q j)) mended_nodes ∙ same_alike (name_at m.program i) (name_at m.program j) (R.one_spelling i j t));
  }

no_captor : (k : ℕ) (sees : ℕ → List ℕ) (cs : List (Option Class)) (p : List Node) → captors sees cs p ≡ [] → repair_within k sees cs p ≡ record { program = p; rounds = 0 }
no_captor zero sees cs p e = refl
no_captor (suc k) sees cs p e = ap (λ c. elim c [ [] ↦ record { program = p; rounds = 0 } | x ∷ more ↦ one_more (repair_within k sees cs (respell_all (x ∷ more) cs p)) ]) e

pub mended_again_lem : MendedAgain
mended_again_lem order V s d m h =
    let (C, R) = mended order V s d m h in
    let d' = with_origins d m.program in
    let G = mended_agree order s d m C R in
    let A = itself_alike s in
    let sees = order (shape (nodes d)) in
    let none : fault s (order (shape (nodes d'))) (classes s d') d' ≡ None = sym (fault_same order s s A d d' G) ∙ (mend_ok order V s d m h).0 in
    ap (λ o. elim o [ None ↦ Ok (repair (order (shape (nodes d'))) (classes s d') (nodes d')) | Some f ↦ Err f ]) none
    ∙ (λ i. Ok (repair (sym (sees_same order s s A d d' G) i) (sym (classes_same order s s A d d' G) i) (mended_nodes order s d m C R i)))
    ∙ ap Ok (no_captor (length m.program) sees (classes s d) m.program (repairs_visit (classes s d) sees R.repairs).1)

-- A repaired transformation

-- a draft, mended, with its origins
abbrev as_draft : Repaired → Result Draft DraftFault
as_draft r = Ok (with_origins r.draft r.mended.program)

abbrev redrafted_by : Draft → Result Mended RepairFault → Result Draft DraftFault
redrafted_by d x = let r : Result Repaired DraftFault = and_then (raised OfRepair x) (λ m. Ok (record { draft = d; mended = m })) in and_then r as_draft

abbrev redrafted : Language → Source → Draft → Result Draft DraftFault
redrafted l s d = redrafted_by d (mend l.visible s d)

redrafted_limited : (l : Language) (s : Source) (d : Draft) → length d ≤ 1024 → and_then (redrafted l s d) limited ≡ redrafted l s d
redrafted_limited l s d few = go (mend l.visible s d)
  where
    within : (q : List Node) → within_limit (with_origins d q) ≡ true
    within q = le-leb (length (with_origins d q)) 1024 (omega (arith, length_with d q))

    go : (x : Result Mended RepairFault) → and_then (redrafted_by d x) limited ≡ redrafted_by d x
    go (Ok m) = ap (λ b. elim b [ true ↦ Ok (with_origins d m.program) | false ↦ Err (OfStage DraftTooLarge) ]) (within m.program)
    go (Err f) = refl

-- it mends the draft that the transformation means
repaired_meaning : (t : Transformation) (s : Source) → meaning (repaired t) s ≡ and_then (meaning t s) (redrafted t.target s)
repaired_meaning t s = root (t.source.grammar.roots (root_of s.program))
  where
    limit : (d : Draft) (b : Bool) → within_limit d ≡ b → and_then (elim b [ true ↦ redrafted t.target s d | false ↦ Ok d ]) limited ≡ and_then (elim b [ true ↦ Ok d | false ↦ Err (OfStage DraftTooLarge) ]) (redrafted t.target s)
    limit d true h = redrafted_limited t.target s d (leb-true (length d) 1024 h)
    limit d false h = ap (λ b. elim b [ true ↦ Ok d | false ↦ Err (OfStage DraftTooLarge) ]) h

    made : (x : Result Draft DraftFault) → and_then (and_then x (mended_draft t.target s)) limited ≡ and_then (and_then x limited) (redrafted t.target s)
    made (Ok d) = limit d (within_limit d) refl
    made (Err f) = refl

    root : (b : Bool) → ◌≡◌ {A = Result Draft DraftFault} (elim b [ true ↦ and_then (and_then (t.draft s) (mended_draft t.target s)) limited | false ↦ Err (OfStage WrongSource) ]) (and_then (elim b [ true ↦ and_then (t.draft s) limited | false ↦ Err (OfStage WrongSource) ]) (redrafted t.target s))
    root true = made (t.draft s)
    root false = refl

-- agreeing drafts are redrafted to agreeing drafts
module _ (l : Language) (V : Visible l.visible) (s t : Source) (A : AlikeSources s t) (d e : Draft) (G : Agree s d e) where
  redrafts_agree : (m n : Mended) → mend l.visible s d ≡ Ok m → mend l.visible t e ≡ Ok n → Agree s (with_origins d m.program) (with_origins e n.program)
  redrafts_agree m n h k =
      let (C, R) = mended l.visible V s d m h in
      let (D, S) = mended l.visible V t e n k in
      let d' = with_origins d m.program in
      let H = mended_agree l.visible s d m C R in
      let mn = mended_nodes l.visible s d m C R in
      let nn = mended_nodes l.visible t e n D S in
      let own : (i : ℕ) → class_at s d' i ≡ class_at s d i = λ i. sym (class_same l.visible s s (itself_alike s) d d' H i) in
      let its : (i : ℕ) → class_at s d' i ≡ class_at t e i = λ i. own i ∙ class_same l.visible s t A d e G i in
      record {
        kinds = sym H.kinds ∙ G.kinds ∙ sym (ap kinds_of nn ∙ S.kinds);
        numbers = sym H.numbers ∙ G.numbers ∙ sym (ap numbers_of nn ∙ S.numbers);
        origins = sym H.origins ∙ G.origins ∙ sym (mended_origins l.visible t e n D S);
        outer = λ i o.
            ap (λ q. name_at q i) mn
            ∙ R.outer_kept i (ap is_outer (sym (own i)) ∙ o)
            ∙ G.outer i (ap is_outer (sym (own i)) ∙ o)
            ∙ sym (ap (λ q. name_at q i) nn ∙ S.outer_kept i (ap is_outer (sym (its i)) ∙ o));
        within = λ i j c.
            ap (λ q. alike (name_at q i) (name_at q j)) mn
            ∙ same_alike _ _ (R.one_spelling i j ((λ k. together (sym (own i) k) (sym (own j) k)) ∙ c))
            ∙ sym (ap (λ q. alike (name_at q i) (name_at q j)) nn ∙ same_alike _ _ (S.one_spelling i j ((λ k. together (sym (its i) k) (sym (its j) k)) ∙ c)));
      }

  redrafted_agreeing : Agreeing s (redrafted l s d) (redrafted l t e)
  redrafted_agreeing = go (mend l.visible s d) (mend l.visible t e) refl refl (both_mended l.visible s t A d e G)
    where
      go : (x y : Result Mended RepairFault) → mend l.visible s d ≡ x → mend l.visible t e ≡ y → BothMended x y → Agreeing s (redrafted_by d x) (redrafted_by e y)
      go (Ok m) (Ok n) h k _ = redrafts_agree m n h k
      go (Ok m) (Err g) h k z = absurd z
      go (Err g) (Ok n) h k z = absurd z
      go (Err g) (Err f) h k z = ap OfRepair z

module _ (t : Transformation) (order : Order) (V : Visible order) (T : SeesAs t.target order) (K : KeepsTransformation t) where
  -- the target's grammar with that order
  abbrev whole : Language
  whole = record { grammar = t.target.grammar; visible = order }

  in_whole : Part t.target whole
  in_whole = record { roots = λ r h. h; below = λ r k h. refl; visible = T }

  redrafted_whole : (s : Source) (d : Draft) → Of t.target.grammar (nodes d) → redrafted t.target s d ≡ redrafted whole s d
  redrafted_whole s d o = ap (redrafted_by d) (mend_alike t.target whole in_whole s d o)

  repaired_made : (p : List Node) (x : Draft) → Program t.source.grammar p → meaning (repaired t) (source_of t.source.visible p) ≡ Ok x → Of t.target.grammar (nodes x)
  repaired_made p x P h =
      let s = source_of t.source.visible p in
      let (d, hd, k) = then_ok (meaning t s) (redrafted t.target s) x (sym (repaired_meaning t s) ∙ h) in
      let o = K.made p d P hd in
      let (r, hr, kr) = then_ok (mended_in whole s d) as_draft x (sym (redrafted_whole s d o) ∙ k) in
      let (hm, e) = mended_ok whole s d r hr in
      let (C, R) = mended order V s d r.mended hm in
      let same : x ≡ with_origins d r.mended.program = sym (ok_inj kr) ∙ ap (λ y. with_origins y r.mended.program) e in
      subst (Of t.target.grammar) (sym (ap nodes same ∙ mended_nodes order s d r.mended C R)) (program_mended t.target.grammar order s d r.mended R (meaning_ok t s d hd).1 o).of

  repaired_law : (p q : List Node) → Program t.source.grammar p → Program t.source.grammar q → Alike t.source.visible p q → Agreeing (source_of t.source.visible p) (meaning (repaired t) (source_of t.source.visible p)) (meaning (repaired t) (source_of t.source.visible q))
  repaired_law p q P Q A =
      subst (λ x. Agreeing (source_of t.source.visible p) x (meaning (repaired t) (source_of t.source.visible q))) (sym (repaired_meaning t (source_of t.source.visible p)))
      (subst (λ y. Agreeing (source_of t.source.visible p) (and_then (meaning t (source_of t.source.visible p)) (redrafted t.target (source_of t.source.visible p))) y) (sym (repaired_meaning t (source_of t.source.visible q)))
      (go (meaning t (source_of t.source.visible p)) (meaning t (source_of t.source.visible q)) refl refl (K.law p q P Q A)))
    where
      go : (x y : Result Draft DraftFault) → meaning t (source_of t.source.visible p) ≡ x → meaning t (source_of t.source.visible q) ≡ y → Agreeing (source_of t.source.visible p) x y → Agreeing (source_of t.source.visible p) (and_then x (redrafted t.target (source_of t.source.visible p))) (and_then y (redrafted t.target (source_of t.source.visible q)))
      go (Ok d) (Ok e) h k G =
          subst (λ x. Agreeing (source_of t.source.visible p) x (redrafted t.target (source_of t.source.visible q) e)) (sym (redrafted_whole (source_of t.source.visible p) d (K.made p d P h)))
          (subst (λ y. Agreeing (source_of t.source.visible p) (redrafted whole (source_of t.source.visible p) d) y) (sym (redrafted_whole (source_of t.source.visible q) e (K.made q e Q k)))
          (redrafted_agreeing whole V (source_of t.source.visible p) (source_of t.source.visible q) (sources_alike t.source.visible p q A P.of.proper_nodes Q.of.proper_nodes) d e G))
      go (Ok d) (Err f) h k z = absurd z
      go (Err f) (Ok e) h k z = absurd z
      go (Err f) (Err g) h k z = z

-- a repair refuses with its own faults
repaired_refuses : (t : Transformation) → RefusesExactly t → RefusesExactly (repaired t)
repaired_refuses t E p f P h = go (t.draft s) refl h
  where
    s : Source
    s = source_of t.source.visible p

    by_repair : (d : Draft) (x : Result Mended RepairFault) → ◌≡◌ {A = Result Draft DraftFault} (redrafted_by d x) (Err f) → (f ≡ OfStage WrongSource → ⊥) × (f ≡ OfStage DraftTooLarge → ⊥)
    by_repair d (Ok m) e = absurd (err_ok (sym e))
    by_repair d (Err g) e = (λ k. let z : ◌≡◌ {A = ℕ} 0 1 = cc (e, k) in omega arith, λ k. let z : ◌≡◌ {A = ℕ} 0 1 = cc (e, k) in omega arith)

    limit : (d : Draft) (b : Bool) → ◌≡◌ {A = Result Draft DraftFault} (elim b [ true ↦ redrafted t.target s d | false ↦ Ok d ]) (Err f) → (f ≡ OfStage WrongSource → ⊥) × (f ≡ OfStage DraftTooLarge → ⊥)
    limit d true e = by_repair d (mend t.target.visible s d) e
    limit d false e = absurd (err_ok (sym e))

    go : (x : Result Draft DraftFault) → t.draft s ≡ x → and_then x (mended_draft t.target s) ≡ Err f → (f ≡ OfStage WrongSource → ⊥) × (f ≡ OfStage DraftTooLarge → ⊥)
    go (Ok d) q e = limit d (within_limit d) e
    go (Err g) q e = E p f P (q ∙ e)

pub repaired_keeps_lem : RepairedKeeps
repaired_keeps_lem t = ((λ order V T K. record { made = repaired_made t order V T K; law = repaired_law t order V T K }), repaired_refuses t)

-- A given draft

pub foreign_adopted : ForeignAdopted
foreign_adopted l b d o few =
    let s = source_of l.visible b.program in
    let after : Result Draft DraftFault → _ = λ x. and_then (and_then x (mended_in l s)) (λ r. Ok (ran b r)) in
    ap (λ k. after (elim k [ true ↦ limited d | false ↦ Err (OfStage WrongSource) ])) (root_allowed l.grammar b.program o.fitting)
    ∙ ap (λ k. after (elim k [ true ↦ Ok d | false ↦ Err (OfStage DraftTooLarge) ])) (le-leb (length d) 1024 few)
