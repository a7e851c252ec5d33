-- What is noted in a mark row, and how it is read.
use Rattle.std.specs.Prelude.{ℕ, Bool, ◌&&◌, List, Option}
use Rattle.model.specs.declared.nodes.Name.{Name}
use Rattle.model.specs.declared.nodes.Node.{Node}
use Rattle.model.specs.Kinds.{has_name}
use Rattle.model.specs.Names.{same_stem}
use Rattle.model.specs.MarkRow.{lowest_clear}

-- a node that has a name, with the stem of another
abbrev pub of_stem : Name → Node → Bool
of_stem a n = has_name n.kind && same_stem a n.name

-- the lowest clear bit above bit 0; shut, since it computes to a test of each of the 1,023 bits
unfoldable pub lowest_free : List ℕ → Option ℕ
lowest_free row = lowest_clear row
