-- A repaired transformation is again one, and a given draft is a stage.
use Rattle.std.specs.Prelude.{◌≡◌, ℕ, ◌≤◌, List, length}
use Rattle.model.specs.declared.nodes.Node.{Node}
use Rattle.model.specs.Fitting.{Of}
use Rattle.model.specs.Forest.{shape}
use Rattle.model.specs.Scopes.{Order, Language}
use Rattle.model.specs.Classes.{Draft}
use Rattle.model.specs.Stages.{Transformation, foreign, repaired, under_repair}
use Rattle.model.specs.Book.{Book, run}
use Rattle.model.specs.Calls.{adopted}
use Rattle.model.specs.Rules.{Visible, RefusesExactly, KeepsTransformation}

-- in its own programs the language sees as the order does: its own order, or that of a language which it is a part of
abbrev pub SeesAs : Language → Order → Type 0
SeesAs l order = (p : List Node) → Of l.grammar p → (i : ℕ) → l.visible (shape p) i ≡ order (shape p) i

-- where its target sees as an order that keeps its laws, a transformation keeps under repair what it must keep;
-- and what it then refuses by itself is still neither a wrong source nor a draft too large
abbrev pub RepairedKeeps : Type 0
RepairedKeeps = (t : Transformation) → ((order : Order) → Visible order → SeesAs t.target order → KeepsTransformation t → KeepsTransformation (repaired t)) × (RefusesExactly t → RefusesExactly (repaired t))

-- from a book that holds a program of the language, a draft of at most 1,024 nodes that is given as a stage and one that is adopted come to the same
abbrev pub ForeignAdopted : Type 0
ForeignAdopted = (l : Language) (b : Book) (d : Draft) → Of l.grammar b.program → length d ≤ 1024 → run (under_repair (foreign l d)) b ≡ adopted l b d
