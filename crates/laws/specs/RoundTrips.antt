-- Reading and writing undo one another, at programs and at drafts.
use Rattle.std.specs.Prelude.{◌≡◌, ℕ, ◌*◌, ◌≤◌, true, List, length, Ok}
use Rattle.model.specs.declared.nodes.Node.{Node}
use Rattle.model.specs.declared.nodes.Entry.{Entry}
use Rattle.model.specs.Kinds.{Grammar}
use Rattle.model.specs.Names.{nodes, entries}
use Rattle.model.specs.Fields.{plain}
use Rattle.model.specs.Reading.{read, read_plain, read_draft}
use Rattle.model.specs.Writing.{write, write_draft}
use Rattle.model.specs.Fitting.{proper, Program, proper_origins, DraftProgram}

-- a text read and written is the same text, and what it says is a program
abbrev pub ReadIsWritten : Grammar → Type 0
ReadIsWritten g = (t : List ℕ) (p : List Node) → read_plain g t ≡ Ok p → Program g p × (write p ≡ t)

-- a program written and read is the same program
abbrev pub WrittenIsRead : Grammar → Type 0
WrittenIsRead g = (p : List Node) → Program g p → read_plain g (write p) ≡ Ok p

-- what a plain text gives to a row is a program's entries
abbrev pub ReadAsEntries : Grammar → Type 0
ReadAsEntries g = (t : List ℕ) (es : List Entry) → read g plain t ≡ Ok es → es ≡ entries (nodes es)

-- drafts likewise, with their origins
abbrev pub DraftReadIsWritten : Grammar → Type 0
DraftReadIsWritten g = (t : List ℕ) (d : List Entry) → read_draft g t ≡ Ok d → DraftProgram g d × (write_draft d ≡ t)

abbrev pub DraftWrittenIsRead : Grammar → Type 0
DraftWrittenIsRead g = (d : List Entry) → DraftProgram g d → read_draft g (write_draft d) ≡ Ok d

pub record RoundTrips (g : Grammar) : Type 0 where
  pub read_is_written : ReadIsWritten g
  pub written_is_read : WrittenIsRead g
  pub read_as_entries : ReadAsEntries g

pub record DraftRoundTrips (g : Grammar) : Type 0 where
  pub read_is_written : DraftReadIsWritten g
  pub written_is_read : DraftWrittenIsRead g

-- the limit on a text's length keeps out no program: a line takes at most 25 bytes, in a draft 32
abbrev pub WrittenIsShort : Type 0
WrittenIsShort = (p : List Node) → proper p ≡ true → length (write p) ≤ 25 * length p

abbrev pub DraftWrittenIsShort : Type 0
DraftWrittenIsShort =
    (d : List Entry) → proper (nodes d) ≡ true → proper_origins d ≡ true → length (write_draft d) ≤ 32 * length d
