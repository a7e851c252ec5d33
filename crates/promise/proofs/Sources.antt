-- The names of a draft, and what they were copied from.
use Rattle.std.proofs.Common.{◌≡◌, ℕ, zero, suc, true, not, List, [], ◌∷◌, Some, None, Option, sym, refl, ap, ◌∙◌, ⊎_elim, arith}
use Rattle.std.proofs.lemmas.Bool.{both_ways, false≢true, true≢false, and_cases, or_parts, not-false, cond-true}
use Rattle.model.specs.declared.nodes.Name.{Name}
use Rattle.model.specs.declared.nodes.Origin.{Origin}
use Rattle.model.specs.declared.nodes.Origin.TheVariants.{Copied, Private, Outer}
use Rattle.model.specs.Lists.{is_none}
use Rattle.model.specs.Kinds.{has_name}
use Rattle.model.specs.Names.{name_at, kind_at, nodes, entry_at}
use Rattle.model.specs.declared.classes.Class.TheVariants.{OfDeclaration, OfGroup}
use Rattle.model.specs.Classes.{Draft, Source, classes, class_at, by_origin, of_copied, reach_at}
use Rattle.model.specs.Checks.{copied_from_no_name, lowest_of, spelled_as, unlike_free}
use Rattle.laws.proofs.NamesRead.{alike_same}
use Rattle.promise.proofs.Mending.{Checked, draft_node}

pub draft_named : (d : Draft) (i : ℕ) → has_name (kind_at (nodes d) i) ≡ true → has_name (entry_at d i).node.kind ≡ true
draft_named d i h = ap (λ n. has_name n.kind) (draft_node d i) ∙ h

pub class_named : (s : Source) (d : Draft) (i : ℕ) → has_name (kind_at (nodes d) i) ≡ true → class_at s d i ≡ Some (by_origin s (entry_at d i).node.name (entry_at d i).origin)
class_named s [] i h = absurd (false≢true h)
class_named s (n ∷ d) zero h = cond-true _ _ _ h
class_named s (n ∷ d) (suc i) h = class_named s d i h

pub class_by : (s : Source) (d : Draft) (i : ℕ) (o : Origin) → has_name (kind_at (nodes d) i) ≡ true → (entry_at d i).origin ≡ o → class_at s d i ≡ Some (by_origin s (entry_at d i).node.name o)
class_by s d i o n e = class_named s d i n ∙ ap (λ o. Some (by_origin s (entry_at d i).node.name o)) e

-- a name of a declaration's class is copied from one that reaches it
pub of_decl : (s : Source) (a : Name) (o : Origin) (e : ℕ) → by_origin s a o ≡ OfDeclaration e → (k : ℕ) × (o ≡ Copied k) × (reach_at s k ≡ Some e)
of_decl s a (Copied k) e h = (k, refl, go (reach_at s k) h)
  where
    go : (r : Option ℕ) → of_copied s k r ≡ OfDeclaration e → r ≡ Some e
    go None q = let z : ◌≡◌ {A = ℕ} 0 1 = cc in absurd (omega arith)
    go (Some x) q = let z : x ≡ e = cc in ap Some z
of_decl s a (Private g) e h = let z : ◌≡◌ {A = ℕ} 0 1 = cc in absurd (omega arith)
of_decl s a Outer e h = let z : ◌≡◌ {A = ℕ} 0 1 = cc in absurd (omega arith)

-- a name of a group's class is private to it
pub of_private : (s : Source) (a : Name) (o : Origin) (g : ℕ) → by_origin s a o ≡ OfGroup g → o ≡ Private g
of_private s a (Copied k) g h = go (reach_at s k) h
  where
    go : (r : Option ℕ) → of_copied s k r ≡ OfGroup g → Copied k ≡ Private g
    go None q = let z : ◌≡◌ {A = ℕ} 0 1 = cc in absurd (omega arith)
    go (Some x) q = let z : ◌≡◌ {A = ℕ} 0 1 = cc in absurd (omega arith)
of_private s a (Private x) g h = let z : x ≡ g = cc in ap Private z
of_private s a Outer g h = let z : ◌≡◌ {A = ℕ} 0 1 = cc in absurd (omega arith)

-- Past the checks
module _ (s : Source) (sees : ℕ → List ℕ) (d : Draft) (C : Checked s sees d) (i k : ℕ) (n : has_name (kind_at (nodes d) i) ≡ true) (e : (entry_at d i).origin ≡ Copied k) where
  -- 9: it was copied from a name
  pub copied_named : has_name (kind_at s.program k) ≡ true
  copied_named =
      not-false _ (⊎_elim
      (λ x. absurd (both_ways _ x (draft_named d i n)))
      (λ x. ap (copied_from_no_name s) (sym e) ∙ x)
      (and_cases (has_name (entry_at d i).node.kind) _ (C.nine i)))

  -- 10: copied from a free name, it is spelled like it
  pub copied_spelled : reach_at s k ≡ None → (entry_at d i).node.name ≡ name_at s.program k
  copied_spelled h =
      let ten = ⊎_elim (λ x. absurd (both_ways _ x (draft_named d i n))) (λ x. x) (and_cases (has_name (entry_at d i).node.kind) _ (C.ten i)) in
      let like = ap (unlike_free s (entry_at d i)) (sym e) ∙ (or_parts (not (spelled_as d i (lowest_of (classes s d) i))) _ ten).1 in
      alike_same _ _ (not-false _ (⊎_elim (λ x. absurd (true≢false (sym (ap is_none h) ∙ x))) (λ x. x) (and_cases (is_none (reach_at s k)) _ like)))
