-- What was written is read again, and what was read would be written so.
use Rattle.std.specs.Prelude.{◌≡◌, ℕ, List, take, IfOk, Ok, Result}
use Rattle.model.specs.declared.nodes.Node.{Node}
use Rattle.model.specs.declared.nodes.Entry.{Entry}
use Rattle.model.specs.declared.faults.TextFault.{TextFault}
use Rattle.model.specs.Kinds.{Grammar}
use Rattle.model.specs.Names.{nodes}
use Rattle.model.specs.Reading.{read_plain}
use Rattle.model.specs.Writing.{write, write_draft}
use Rattle.model.specs.Fitting.{Program, DraftProgram}

-- the buffer's text says a program that fits a grammar: the same kinds, numbers and names
abbrev pub WriteBack : List Node → Result ℕ TextFault → List ℕ → Type 0
WriteBack p r buffer = IfOk r (λ n. (g : Grammar) → Program g p → read_plain g (take n buffer) ≡ Ok p)

-- the row's entries are a program of the grammar, whose text is the one that was read
abbrev pub ReadBack : Grammar → List ℕ → Result ℕ TextFault → List Entry → Type 0
ReadBack g text r row = IfOk r (λ n. Program g (nodes (take n row)) × (write (nodes (take n row)) ≡ text))

-- or a draft, with its origins
abbrev pub DraftBack : Grammar → List ℕ → Result ℕ TextFault → List Entry → Type 0
DraftBack g text r row = IfOk r (λ n. DraftProgram g (take n row) × (write_draft (take n row) ≡ text))
