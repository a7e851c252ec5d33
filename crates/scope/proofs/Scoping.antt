-- A search through a scope, one declaration more or less.
use Rattle.std.proofs.Common.{◌≡◌, ℕ, Bool, true, false, cond, ◌&&◌, List, [], get_or, Some, sym, refl, ap, ◌∙◌}
use Rattle.std.proofs.lemmas.Bool.{cond-true, cond-false}
use Rattle.model.specs.declared.kinds.Kind.{Kind}
use Rattle.model.specs.declared.nodes.Name.{Name}
use Rattle.model.specs.declared.nodes.Node.{Node}
use Rattle.model.specs.declared.nodes.Entry.{Entry}
use Rattle.model.specs.Names.{alike, kind_at, name_at, entry_at, nodes}
use Rattle.model.specs.Forest.{Shape, shape}
use Rattle.model.specs.Scopes.{more, reach_in}
use Rattle.laws.proofs.Entries.{node_of}
use Rattle.scope.specs.Seeking.{sought}

pub reach_more : (p : List Node) (a : Name) (b : Bool) (d : ℕ) (Γ : List ℕ) → reach_in p a (more b d Γ) ≡ cond (b && alike a (name_at p d)) (Some d) (reach_in p a Γ)
reach_more p a true d Γ = refl
reach_more p a false d Γ = refl

pub reach_here : (p : List Node) (a : Name) (b : Bool) (d : ℕ) (Γ : List ℕ) → (b && alike a (name_at p d)) ≡ true → reach_in p a (more b d Γ) ≡ Some d
reach_here p a b d Γ h = reach_more p a b d Γ ∙ cond-true (b && alike a (name_at p d)) (Some d) (reach_in p a Γ) h

pub reach_past : (p : List Node) (a : Name) (b : Bool) (d : ℕ) (Γ : List ℕ) → (b && alike a (name_at p d)) ≡ false → reach_in p a (more b d Γ) ≡ reach_in p a Γ
reach_past p a b d Γ h = reach_more p a b d Γ ∙ cond-false (b && alike a (name_at p d)) (Some d) (reach_in p a Γ) h

-- a test of the entry at a place and its name, as one of the node there
pub tested : (test : Kind → Bool) (es : List Entry) (a : Name) (i : ℕ) (b : Bool) → b ≡ (test (entry_at es i).node.kind && alike a (entry_at es i).node.name) → (test (kind_at (nodes es) i) && alike a (name_at (nodes es) i)) ≡ b
tested test es a i b e = sym (e ∙ ap (λ (n : Node). test n.kind && alike a n.name) (node_of es i))

-- what is sought, by the name of the entry at the place
pub named_there : (scopes : Shape → List (List ℕ)) (es : List Entry) (at : ℕ) → sought scopes (nodes es) at ≡ reach_in (nodes es) (entry_at es at).node.name (get_or (scopes (shape (nodes es))) at [])
named_there scopes es at = ap (λ (n : Node). reach_in (nodes es) n.name (get_or (scopes (shape (nodes es))) at [])) (sym (node_of es at))
