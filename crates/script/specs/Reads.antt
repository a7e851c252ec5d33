-- Reading line by line into a row.
use Rattle.std.specs.Prelude.{◌≡◌, ℕ, ◌+◌, ◌<◌, cond, List, ◌++◌, length, take, drop, Some, None, Ok, Err, Option, Result, nat_lt}
use Rattle.model.specs.declared.kinds.Kind.{Kind}
use Rattle.model.specs.declared.kinds.Sort.{Sort}
use Rattle.model.specs.declared.nodes.Entry.{Entry}
use Rattle.model.specs.declared.faults.ReadFault.{ReadFault}
use Rattle.model.specs.declared.faults.TextFault.{TextFault}
use Rattle.model.specs.Lists.{and_then}
use Rattle.model.specs.Kinds.{Grammar}
use Rattle.model.specs.Fields.{Form}
use Rattle.model.specs.Reading.{TextLine, ReadOut, read_lines, counted}
use Rattle.script.specs.Cuts.{before}
use Rattle.script.specs.LineReads.{entry_of}
use Rattle.script.specs.declared.reader.FirstLine.{FirstLine}

-- the entry of the first line, if a byte 10 ends it
unfoldable pub first_entry : Form → List ℕ → Option Entry
first_entry form bs = cond (nat_lt (before 10 bs) (length bs)) (entry_of form (take (before 10 bs) bs)) None

abbrev pub IsFirstLine : Form → List ℕ → Option FirstLine → Type 0
IsFirstLine form text None = first_entry form text ≡ None
IsFirstLine form text (Some x) = (first_entry form text ≡ Some x.entry) × (x.rest.now ≡ drop (before 10 text + 1) text) × (before 10 text < length text)

-- the entries of the lines that are left
unfoldable pub rest_read : Grammar → Form → Option Kind → List Sort → ℕ → List TextLine → ReadOut
rest_read g form root ss at ls = read_lines g form root ss at ls

-- after those that are read
unfoldable pub with_front : List Entry → ReadOut → ReadOut
with_front p r = and_then r (λ q. Ok (p ++ q))

-- how many entries, or the refusal
abbrev pub count_of : ReadOut → Result ℕ ReadFault
count_of (Ok es) = Ok (length es)
count_of (Err f) = Err f

-- the entries stand at the front of the row, and the rest is as it was
abbrev pub InRow : {E : Type 0} → Result (List Entry) E → List Entry → List Entry → Type 0
InRow (Ok es) old row = row ≡ es ++ drop (length es) old
InRow (Err f) old row = Unit {0}

-- what is returned, and what stands in the row
pub record Returned (w : ReadOut) (r : Result ℕ ReadFault) (old row : List Entry) : Type 0 where
  pub value : r ≡ count_of w
  pub entries : InRow w old row

pub record Filled (w : Result (List Entry) TextFault) (r : Result ℕ TextFault) (old row : List Entry) : Type 0 where
  pub value : r ≡ counted w
  pub entries : InRow w old row
