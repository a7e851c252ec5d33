-- The nodes of a row of entries, place by place.
use Rattle.std.proofs.Common.{◌≡◌, ℕ, zero, suc, List, [], ◌∷◌, refl}
use Rattle.model.specs.declared.nodes.Entry.{Entry}
use Rattle.model.specs.Names.{node_at, entry_at, nodes}

pub node_of : (es : List Entry) (i : ℕ) → (entry_at es i).node ≡ node_at (nodes es) i
node_of [] i = refl
node_of (e ∷ es) zero = refl
node_of (e ∷ es) (suc i) = node_of es i
