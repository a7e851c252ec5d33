-- What a language answers of one node, and of all.
use Rattle.std.specs.Prelude.{◌≡◌, ℕ, ◌<◌, List, ◌++◌, length, take, drop, Some, Option, slice_index_or}
use Rattle.model.specs.declared.kinds.Kind.{Kind}
use Rattle.model.specs.declared.kinds.Role.TheVariants.{Declares}
use Rattle.model.specs.declared.nodes.Node.{Node}
use Rattle.model.specs.Kinds.{Row, row, Grammar, rows_below}
use Rattle.model.specs.Names.{kind_at, root_of}
use Rattle.model.specs.Fitting.{Of}
use Rattle.model.specs.Scopes.{Order, reach}

-- the row of the kind stands among these, and declares
pub record Declaring (rows : List Row) (k : Kind) : Type 0 where
  pub place : ℕ
  pub within : place < length rows
  pub its_row : slice_index_or rows place (row k) ≡ row k
  pub declares : (row k).role ≡ Declares

-- what is found for the node at a place: the first declaration in its list that is spelled alike, or none;
-- in a program of the grammar, the declaration has one of the grammar's kind rows below that root
pub record Found (g : Grammar) (order : Order) (p : List Node) (at : ℕ) (r : Option ℕ) : Type 0 where
  pub value : r ≡ reach order p at
  pub of_row : (d : ℕ) → r ≡ Some d → Of g p → Declaring (rows_below g (root_of p)) (kind_at p d)

-- a row after the list was laid over it from its front, as far as there is room
abbrev pub overlaid : {A : Type 0} → List A → List A → List A
overlaid xs row = take (length row) xs ++ drop (length xs) row
