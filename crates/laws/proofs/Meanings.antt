-- What a transformation means where it makes a draft: when the draft is accepted, when two are accepted alike, when none is refused by the repair.
use Rattle.std.proofs.Common.{◌≡◌, ℕ, ◌≤◌, Bool, true, false, leb, List, length, Some, None, Ok, Err, Result, sym, refl, ap, ◌∙◌, subst, subst₂, arith}
use Rattle.std.proofs.lemmas.List.{length-map}
use Rattle.std.proofs.lemmas.Bool.{false≢true, true≢false, leb-true}
use Rattle.model.specs.declared.nodes.Node.{Node}
use Rattle.model.specs.declared.faults.StageFault.TheVariants.{WrongSource, DraftTooLarge}
use Rattle.model.specs.declared.faults.RepairFault.{RepairFault}
use Rattle.model.specs.declared.faults.DraftFault.{DraftFault}
use Rattle.model.specs.declared.faults.DraftFault.TheVariants.{Stage as OfStage, Repair as OfRepair}
use Rattle.model.specs.Lists.{and_then, raised}
use Rattle.model.specs.Names.{root_of, nodes}
use Rattle.model.specs.Fitting.{Of}
use Rattle.model.specs.Forest.{shape}
use Rattle.model.specs.Scopes.{Language}
use Rattle.model.specs.Classes.{Draft, Source, source_of, classes}
use Rattle.model.specs.Checks.{fault}
use Rattle.model.specs.Repair.{repair}
use Rattle.model.specs.Stages.{Transformation, within_limit, limited, foreign, Repaired, mended_in, repairing}
use Rattle.model.specs.Rules.{Alike, Agree, Agreeing, drafted, RefusesExactly, KeepsTransformation}
use Rattle.laws.proofs.RoundTrips.{length_nodes}
use Rattle.laws.specs.Stages.{Unfaulted}
use Rattle.laws.proofs.Reaches.{same_kinds}

-- behind the test of the root, and behind both tests
abbrev by_root : Bool → Result Draft DraftFault → Result Draft DraftFault
by_root b x = elim b [ true ↦ x | false ↦ Err (OfStage WrongSource) ]

abbrev by_both : Bool → Bool → Draft → Result Draft DraftFault
by_both b c d = by_root b (elim c [ true ↦ Ok d | false ↦ Err (OfStage DraftTooLarge) ])

passed : (b c : Bool) (x d : Draft) → within_limit x ≡ c → by_both b c x ≡ Ok d → (x ≡ d) × (length x ≤ 1024)
passed true true x d l e = (cc, leb-true (length x) 1024 l)
passed true false x d l e = let z : ◌≡◌ {A = ℕ} 0 1 = cc in absurd (omega arith)
passed false c x d l e = let z : ◌≡◌ {A = ℕ} 0 1 = cc in absurd (omega arith)

same_length : (s : Source) (d e : Draft) → Agree s d e → length d ≡ length e
same_length s d e a =
    sym (length-map (nodes d) (λ (n : Node). n.kind) ∙ length_nodes d) ∙ (ap length a.kinds ∙ (length-map (nodes e) (λ (n : Node). n.kind) ∙ length_nodes e))

both_agree : (s : Source) (d e : Draft) (a b x y : Bool) → a ≡ b → x ≡ y → Agree s d e → Agreeing s (by_both a x d) (by_both b y e)
both_agree s d e true true true true h k g = g
both_agree s d e true true true false h k g = absurd (true≢false k)
both_agree s d e true true false true h k g = absurd (false≢true k)
both_agree s d e true true false false h k g = refl
both_agree s d e true false x y h k g = absurd (true≢false h)
both_agree s d e false true x y h k g = absurd (false≢true h)
both_agree s d e false false x y h k g = refl

module _ (t : Transformation) where
  abbrev from : List Node → Source
  from p = source_of t.source.visible p

  abbrev rooted : List Node → Bool
  rooted p = t.source.grammar.roots (root_of p)

  -- what is accepted is what was made, and is not too large
  pub accepted : (p : List Node) (x d : Draft) → t.draft (from p) ≡ Ok x → drafted t p ≡ Ok d → (x ≡ d) × (length x ≤ 1024)
  accepted p x d m e = passed (rooted p) (within_limit x) x d refl (subst (λ r. by_root (rooted p) (and_then r limited) ≡ Ok d) m e)

  pub agreeing : (p q : List Node) (d e : Draft) → Alike t.source.visible p q → t.draft (from p) ≡ Ok d → t.draft (from q) ≡ Ok e → Agree (from p) d e → Agreeing (from p) (drafted t p) (drafted t q)
  agreeing p q d e al m n a =
      subst₂ (λ x y. Agreeing (from p) (by_root (rooted p) (and_then x limited)) (by_root (rooted q) (and_then y limited))) (sym m) (sym n)
      (both_agree (from p) d e (rooted p) (rooted q) (within_limit d) (within_limit e) (ap t.source.grammar.roots (same_kinds p q al.kinds 0)) (ap (λ k. leb k 1024) (same_length (from p) d e a)) a)

  abbrev Faultless : Source → Draft → Type 0
  Faultless s d = fault s (t.target.visible (shape (nodes d))) (classes s d) d ≡ None

  mended : (s : Source) (d : Draft) → Faultless s d → (r : Repaired) × (mended_in t.target s d ≡ Ok r)
  mended s d h =
      let m = repair (t.target.visible (shape (nodes d))) (classes s d) (nodes d) in
      (record { draft = d; mended = m }, ap (λ o. and_then (raised OfRepair (elim o [ None ↦ Ok m | Some f ↦ Err f ])) (λ x. Ok (record { draft = d; mended = x }))) h)

  both_pass : (s : Source) (d : Draft) (a b : Bool) (r : Repaired) (f : RepairFault) → mended_in t.target s d ≡ Ok r → and_then (by_both a b d) (mended_in t.target s) ≡ Err (OfRepair f) → ⊥
  both_pass s d true true r f m e = let z : ◌≡◌ {A = ℕ} 0 1 = cc in absurd (omega arith)
  both_pass s d true false r f m e = let z : ◌≡◌ {A = ℕ} 0 1 = cc in absurd (omega arith)
  both_pass s d false b r f m e = let z : ◌≡◌ {A = ℕ} 0 1 = cc in absurd (omega arith)

  not_refused : (p : List Node) (d : Draft) (f : RepairFault) → t.draft (from p) ≡ Ok d → Faultless (from p) d → repairing t (from p) ≡ Err (OfRepair f) → ⊥
  not_refused p d f m h e =
      let q = mended (from p) d h in
      both_pass (from p) d (rooted p) (within_limit d) q.0 f q.1 (subst (λ x. and_then (by_root (rooted p) (and_then x limited)) (mended_in t.target (from p)) ≡ Err (OfRepair f)) m e)

  taken : (x y : Draft) → ◌≡◌ {A = Result Draft DraftFault} (Ok x) (Ok y) → x ≡ y
  taken x y e = cc

  -- one that always makes a draft
  module _ (made : Source → Draft) (makes : (s : Source) → t.draft s ≡ Ok (made s)) where
    pub never_itself : RefusesExactly t
    never_itself p f o e = let y = makes (from p) in let z : ◌≡◌ {A = ℕ} 0 1 = cc in absurd (omega arith)

    pub unfaulted : ((p : List Node) → Of t.source.grammar p → Faultless (from p) (made (from p))) → Unfaulted t
    unfaulted h =
        record {
          unfaulted = λ p d o e. subst (Faultless (from p)) (taken (made (from p)) d (sym (makes (from p)) ∙ e)) (h p o);
          never_refused = λ p f o e. not_refused p (made (from p)) f (makes (from p)) (h p o) e;
        }

-- a given draft of the language
module _ (l : Language) (d : Draft) (o : Of l.grammar (nodes d)) where
  same_draft : (s : Source) → Agree s d d
  same_draft s = record { kinds = refl; numbers = refl; origins = refl; outer = λ i h. refl; within = λ i j h. refl }

  pub foreign_keeps : KeepsTransformation (foreign l d)
  foreign_keeps =
      record {
        made = λ p x u e. subst (λ y. Of l.grammar (nodes y)) (accepted (foreign l d) p d x refl e).0 o;
        law = λ p q u v a. agreeing (foreign l d) p q d d a refl refl (same_draft (source_of l.visible p));
      }
