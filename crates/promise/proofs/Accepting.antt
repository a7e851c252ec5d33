-- A draft that a stage makes, or that is given, and is accepted: it is of the session's language, and mended there.
use Rattle.std.proofs.Common.{◌≡◌, ◌≤◌, Bool, true, false, List, length, Ok, Err, Result, sym, refl, ap, ◌∙◌, subst}
use Rattle.std.proofs.lemmas.Bool.{leb-true}
use Rattle.model.specs.declared.nodes.Node.{Node}
use Rattle.model.specs.declared.faults.StageFault.TheVariants.{WrongSource, DraftTooLarge}
use Rattle.model.specs.declared.faults.DraftFault.{DraftFault}
use Rattle.model.specs.declared.faults.DraftFault.TheVariants.{Stage as OfStage, Repair as OfRepair}
use Rattle.model.specs.Lists.{and_then, raised}
use Rattle.model.specs.Names.{root_of, nodes}
use Rattle.model.specs.Fitting.{Of, Program}
use Rattle.model.specs.Forest.{shape}
use Rattle.model.specs.Scopes.{Language}
use Rattle.model.specs.Classes.{Draft, Source, source_of}
use Rattle.model.specs.Repair.{mend}
use Rattle.model.specs.Stages.{Transformation, within_limit, limited, meaning, Repaired, mended_in, repairing}
use Rattle.model.specs.Rules.{Visible, Part, KeepsTransformation}
use Rattle.promise.specs.Reaching.{Reaching}
use Rattle.promise.proofs.Results.{ok_inj, err_ok, then_ok, raised_ok}
use Rattle.promise.proofs.Mending.{Checked, mended}
use Rattle.promise.proofs.Languages.{to_part, from_part, source_alike, mend_alike, program_mended}

pub record Accepted (l : Language) (p : List Node) (r : Repaired) : Type 0 where
  pub few : length r.draft ≤ 1024
  pub of : Of l.grammar (nodes r.draft)
  pub mends : mend l.visible (source_of l.visible p) r.draft ≡ Ok r.mended

pub limit_ok : (x d : Draft) → limited x ≡ Ok d → length d ≤ 1024
limit_ok x d = go (within_limit x) refl
  where
    go : (b : Bool) → within_limit x ≡ b → ◌≡◌ {A = Result Draft DraftFault} (elim b [ true ↦ Ok x | false ↦ Err (OfStage DraftTooLarge) ]) (Ok d) → length d ≤ 1024
    go true q h = subst (λ y. length y ≤ 1024) (ok_inj h) (leb-true (length x) 1024 q)
    go false q h = absurd (err_ok h)

pub meaning_ok : (t : Transformation) (s : Source) (d : Draft) → meaning t s ≡ Ok d → (t.source.grammar.roots (root_of s.program) ≡ true) × (length d ≤ 1024)
meaning_ok t s d = go (t.source.grammar.roots (root_of s.program)) refl
  where
    go : (b : Bool) → t.source.grammar.roots (root_of s.program) ≡ b → ◌≡◌ {A = Result Draft DraftFault} (elim b [ true ↦ and_then (t.draft s) limited | false ↦ Err (OfStage WrongSource) ]) (Ok d) → (t.source.grammar.roots (root_of s.program) ≡ true) × (length d ≤ 1024)
    go true q h = let (x, a, k) = then_ok (t.draft s) limited d h in (q, limit_ok x d k)
    go false q h = absurd (err_ok h)

pub mended_ok : (l : Language) (s : Source) (d : Draft) (r : Repaired) → mended_in l s d ≡ Ok r → (mend l.visible s d ≡ Ok r.mended) × (r.draft ≡ d)
mended_ok l s d r h =
    let (m, a, k) = then_ok (raised OfRepair (mend l.visible s d)) (λ m. Ok (record { draft = d; mended = m })) r h in
    let e = ok_inj k in
    (raised_ok OfRepair _ m a ∙ ap (λ x. Ok x.mended) e, ap (λ x. x.draft) (sym e))

pub draft_accepted : (l : Language) (p : List Node) (d : Draft) (r : Repaired) → length d ≤ 1024 → Of l.grammar (nodes d) → mended_in l (source_of l.visible p) d ≡ Ok r → Accepted l p r
draft_accepted l p d r f o h =
    let (m, e) = mended_ok l (source_of l.visible p) d r h in
    subst (λ x. Accepted l p (record { draft = x; mended = r.mended })) (sym e) (record { few = f; of = o; mends = m })

-- a transformation that keeps the rules, in a session of that language
module _ (l : Language) (t : Transformation) (S : Part t.source l) (T : Part t.target l) (K : KeepsTransformation t) (p : List Node) (P : Program l.grammar p) where
  pub source_program : t.source.grammar.roots (root_of p) ≡ true → Program t.source.grammar p
  source_program r = record { of = to_part t.source l S p r P.of; few = P.few }

  module _ (d : Draft) (h : meaning t (source_of t.source.visible p) ≡ Ok d) where
    target_of : Of t.target.grammar (nodes d)
    target_of = K.made p d (source_program (meaning_ok t (source_of t.source.visible p) d h).0) h

    pub made_few : length d ≤ 1024
    made_few = (meaning_ok t (source_of t.source.visible p) d h).1

    pub made_of : Of l.grammar (nodes d)
    made_of = from_part t.target l T (nodes d) target_of

    -- it is mended as a given draft is
    pub made_mended : mended_in t.target (source_of t.source.visible p) d ≡ mended_in l (source_of l.visible p) d
    made_mended =
        let s = source_of t.source.visible p in
        ap (λ x. and_then (raised OfRepair x) (λ m. Ok (record { draft = d; mended = m })))
        (mend_alike t.target l T s d target_of ∙ ap (λ x. mend l.visible x d) (source_alike t.source l S p (source_program (meaning_ok t s d h).0).of))

  pub stage_accepted : (r : Repaired) → repairing t (source_of t.source.visible p) ≡ Ok r → Accepted l p r
  stage_accepted r h =
      let (d, a, k) = then_ok (meaning t (source_of t.source.visible p)) (mended_in t.target (source_of t.source.visible p)) r h in
      draft_accepted l p d r (made_few d a) (made_of d a) (sym (made_mended d a) ∙ k)

-- what was accepted
module _ (l : Language) (V : Visible l.visible) (p : List Node) (r : Repaired) (A : Accepted l p r) where
  pub accepted_checked : Checked (source_of l.visible p) (l.visible (shape (nodes r.draft))) r.draft
  accepted_checked = (mended l.visible V (source_of l.visible p) r.draft r.mended A.mends).0

  pub accepted_reaching : Reaching l.visible (source_of l.visible p) r.draft r.mended
  accepted_reaching = (mended l.visible V (source_of l.visible p) r.draft r.mended A.mends).1

  pub accepted_program : Program l.grammar r.mended.program
  accepted_program = program_mended l.grammar l.visible (source_of l.visible p) r.draft r.mended accepted_reaching A.few A.of
