-- Flats: the first declaration of a program that is spelled as a name.
use Rattle.std.proofs.Common.{◌≡◌, ℕ, ◌+◌, ◌<◌, Bool, cond, ◌&&◌, List, [], ◌∷◌, length, get_or, drop, Some, Option, sym, refl, ap, ◌∙◌, ap₂, add-zero, arith}
use Rattle.std.proofs.lemmas.List.{get_or-drop, drop-drop, get_or-replicate}
use Rattle.std.specs.List.{position_from}
use Rattle.model.specs.declared.nodes.Name.{Name}
use Rattle.model.specs.declared.nodes.Node.{Node}
use Rattle.model.specs.declared.nodes.Entry.{Entry}
use Rattle.model.specs.Kinds.{declares}
use Rattle.model.specs.Names.{alike, blank, name_at, entry_at, nodes}
use Rattle.model.specs.Forest.{shape, pre, size}
use Rattle.model.specs.Scopes.{reach_in, declarations, flat_scopes}
use Rattle.model.specs.Rules.{kinds_of}
use Rattle.laws.proofs.RoundTrips.{length_nodes}
use Rattle.laws.proofs.Forests.{pre_shape, size_shape}
use Rattle.scope.specs.Seeking.{sought}
use Rattle.scope.proofs.Scoping.{reach_more, named_there}

-- an entry that declares a name which is spelled so
abbrev pub declaring : Name → Entry → Bool
declaring a e = declares e.node.kind && alike a e.node.name

-- of the entries from place i on
first_declared : (p : List Node) (a : Name) (es : List Entry) (i : ℕ) → drop i p ≡ nodes es → reach_in p a (declarations i (kinds_of (nodes es))) ≡ position_from (declaring a) i es
first_declared p a [] i h = refl
first_declared p a (e ∷ es) i h =
    let k = declares e.node.kind in
    let named : name_at p i ≡ e.node.name = ap (λ j. name_at p j) (sym (add-zero i)) ∙ ap (λ (n : Node). n.name) (sym (get_or-drop i p 0 blank) ∙ ap (λ (ns : List Node). get_or ns 0 blank) h) in
    reach_more p a k i (declarations (i + 1) (kinds_of (nodes es)))
    ∙ ap₂ (λ (n : Name) (o : Option ℕ). cond (k && alike a n) (Some i) o) named (first_declared p a es (i + 1) (sym (drop-drop 1 i p) ∙ ap (λ (ns : List Node). drop 1 ns) h))

-- a name of the program sees them all
pub declared_anywhere : (es : List Entry) (at : ℕ) → at < length es → sought flat_scopes (nodes es) at ≡ position_from (declaring (entry_at es at).node.name) 0 es
declared_anywhere es at l =
    let s = shape (nodes es) in
    named_there flat_scopes es at
    ∙ (ap (reach_in (nodes es) (entry_at es at).node.name)
    (get_or-replicate (size s) at (declarations 0 (pre s)) [] (let z = size_shape (nodes es) in let y = length_nodes es in omega arith) ∙ ap (declarations 0) (pre_shape (nodes es)))
    ∙ first_declared (nodes es) (entry_at es at).node.name es 0 refl)
