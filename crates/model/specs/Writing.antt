-- Writing a text: one line for each node, with the fields that a reader wants.
use Rattle.std.specs.Prelude.{ℕ, true, false, List, [], ◌∷◌, ◌++◌, length, drop, Ok, Err, Result, nat_le}
use Rattle.model.specs.declared.nodes.Node.{Node}
use Rattle.model.specs.declared.nodes.Entry.{Entry}
use Rattle.model.specs.declared.faults.ReadFault.TheVariants.{TooManyNodes}
use Rattle.model.specs.declared.faults.TextFault.{TextFault}
use Rattle.model.specs.declared.faults.TextFault.TheVariants.{TooShort, Read}
use Rattle.model.specs.Lists.{and_then}
use Rattle.model.specs.Kinds.{row}
use Rattle.model.specs.Names.{entries}
use Rattle.model.specs.Fields.{Form, plain, draft, wanted, write_fields}

-- the word, its fields each after a tab, and byte 10
abbrev pub write_line : Form → Entry → List ℕ
write_line form e = (row e.node.kind).word ++ (write_fields (wanted form e.node.kind) e ++ (10 ∷ []))

abbrev pub write_lines : Form → List Entry → List ℕ
write_lines form [] = []
write_lines form (e ∷ es) = write_line form e ++ write_lines form es

-- a program's text, and a draft's
abbrev pub write : List Node → List ℕ
write p = write_lines plain (entries p)

abbrev pub write_draft : List Entry → List ℕ
write_draft d = write_lines draft d

-- Into a lent buffer

-- a text that the buffer has room for
abbrev pub fitting : ℕ → List ℕ → Result (List ℕ) TextFault
fitting room text = elim (nat_le (length text) room) [ true ↦ Ok text | false ↦ Err (TooShort (length text)) ]

-- more than 1,024 nodes are no program
abbrev pub write_into : List Node → ℕ → Result (List ℕ) TextFault
write_into p room = elim (nat_le (length p) 1024) [ true ↦ fitting room (write p) | false ↦ Err (Read TooManyNodes) ]

-- how many bytes it answers
abbrev pub measured : Result (List ℕ) TextFault → Result ℕ TextFault
measured r = and_then r (λ text. Ok (length text))

-- the buffer then: the text, and beyond it what it held; as it was after a refusal
abbrev pub buffer_after : Result (List ℕ) TextFault → List ℕ → List ℕ
buffer_after (Ok text) old = text ++ drop (length text) old
buffer_after (Err f) old = old
