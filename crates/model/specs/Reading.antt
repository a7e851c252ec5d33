-- Reading a text, line by line, with its refusals in the order of the checks.
use Rattle.std.specs.Prelude.{ℕ, ◌+◌, Bool, true, false, cond, List, [], ◌∷◌, ◌++◌, length, drop, replicate, Some, None, Ok, Err, Option, Result, ◌==◌, nat_le}
use Rattle.model.specs.declared.kinds.Kind.{Kind}
use Rattle.model.specs.declared.kinds.Sort.{Sort}
use Rattle.model.specs.declared.kinds.Sort.TheVariants.{Root}
use Rattle.model.specs.declared.nodes.Node.{Node}
use Rattle.model.specs.declared.nodes.Entry.{Entry}
use Rattle.model.specs.declared.faults.ReadFault.{ReadFault}
use Rattle.model.specs.declared.faults.ReadFault.TheVariants.{TooLong, WrongLine, Misplaced, AfterEnd, EndsEarly, TooManyNodes}
use Rattle.model.specs.declared.faults.TextFault.{TextFault}
use Rattle.model.specs.declared.faults.TextFault.TheVariants.{TooShort, Read}
use Rattle.model.specs.Lists.{if_some, and_then, raised}
use Rattle.model.specs.Kinds.{Grammar, allowed, child_sorts}
use Rattle.model.specs.Names.{nodes, unused_entry}
use Rattle.model.specs.Fields.{pieces, Form, plain, draft, wanted, read_fields, kind_of, bare}

-- a line, and whether a byte 10 ended it
pub record TextLine : Type 0 where
  pub bytes : List ℕ
  pub ended : Bool

abbrev pub longer : ℕ → List TextLine → List TextLine
longer b [] = record { bytes = b ∷ []; ended = false } ∷ []
longer b (l ∷ ls) = record { bytes = b ∷ l.bytes; ended = l.ended } ∷ ls

abbrev pub begins : ℕ → List TextLine → List TextLine
begins b ls = cond (b == 10) (record { bytes = []; ended = true } ∷ ls) (longer b ls)

abbrev pub lines : List ℕ → List TextLine
lines [] = []
lines (b ∷ bs) = begins b (lines bs)

abbrev pub of_fields : Form → List (List ℕ) → Option Entry
of_fields form [] = None
of_fields form (word ∷ fs) = if_some (kind_of word) (λ k. read_fields (wanted form k) fs (bare k))

-- the entry of a line; none for an unknown word, a wrong field or a missing byte 10
abbrev pub read_line : Form → TextLine → Option Entry
read_line form l = cond l.ended (of_fields form (pieces 9 l.bytes)) None

-- the root's kind, from the first line on
abbrev pub heading : Option Kind → Kind → Kind
heading None k = k
heading (Some r) k = r

abbrev pub ReadOut : Type 0
ReadOut = Result (List Entry) ReadFault

abbrev pub with_entry : Entry → ReadOut → ReadOut
with_entry e r = and_then r (λ es. Ok (e ∷ es))

-- the lines from number `at` on, where nodes of these sorts are still to come
abbrev pub read_lines : Grammar → Form → Option Kind → List Sort → ℕ → List TextLine → ReadOut
read_lines g form root [] at [] = Ok []
read_lines g form root (s ∷ ss) at [] = Err (EndsEarly at)
read_lines g form root [] at (l ∷ ls) = Err (AfterEnd at)
read_lines g form root (s ∷ ss) at (l ∷ ls) =
    elim (at == 1024) [
      | true ↦ Err TooManyNodes
      | false ↦ elim (read_line form l) [
        | None ↦ Err (WrongLine at)
        | Some e ↦ elim (allowed g (heading root e.node.kind) s e.node.kind) [
          | false ↦ Err (Misplaced at)
          | true ↦ with_entry e (read_lines g form (Some (heading root e.node.kind)) (child_sorts e.node.kind e.node.number ++ ss) (at + 1) ls)
        ]
      ]
    ]

abbrev pub read : Grammar → Form → List ℕ → ReadOut
read g form text = elim (nat_le (length text) 32768) [ true ↦ read_lines g form None (Root ∷ []) 0 (lines text) | false ↦ Err TooLong ]

-- the program of a script
abbrev pub read_plain : Grammar → List ℕ → Result (List Node) ReadFault
read_plain g text = and_then (read g plain text) (λ es. Ok (nodes es))

abbrev pub read_draft : Grammar → List ℕ → ReadOut
read_draft g text = read g draft text

-- Into a lent row, which has at least 1,024 places

abbrev pub read_into : Grammar → Form → List ℕ → ℕ → Result (List Entry) TextFault
read_into g form text room = elim (nat_le 1024 room) [ true ↦ raised Read (read g form text) | false ↦ Err (TooShort 0) ]

-- how many entries it answers
abbrev pub counted : Result (List Entry) TextFault → Result ℕ TextFault
counted r = and_then r (λ es. Ok (length es))

-- the row then: the entries, and beyond them what it held; all unused after a refusal
abbrev pub row_after : Result (List Entry) TextFault → List Entry → List Entry
row_after (Ok es) old = es ++ drop (length es) old
row_after (Err f) old = replicate (length old) unused_entry
