-- What a search goes through for the name at a place, whatever the role of its node.
use Rattle.std.specs.Prelude.{ℕ, List, [], Option, slice_index_or}
use Rattle.model.specs.declared.nodes.Node.{Node}
use Rattle.model.specs.Names.{name_at}
use Rattle.model.specs.Forest.{Shape, shape}
use Rattle.model.specs.Scopes.{reach_in}

-- the first of the scope that is spelled as the name is
abbrev pub sought : (Shape → List (List ℕ)) → List Node → ℕ → Option ℕ
sought scopes p at = reach_in p (name_at p at) (slice_index_or (scopes (shape p)) at [])
