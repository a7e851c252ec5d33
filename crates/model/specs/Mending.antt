-- Mending outside a session: a draft at the front of a lent row, with a lent row of mark words.
use Rattle.std.specs.Prelude.{ℕ, Bool, true, false, ◌&&◌, List, ◌++◌, length, take, drop, replicate, Ok, Err, Result, nat_le}
use Rattle.model.specs.declared.nodes.Entry.{Entry}
use Rattle.model.specs.declared.answers.Counts.{Counts}
use Rattle.model.specs.declared.faults.MendFault.{MendFault}
use Rattle.model.specs.declared.faults.MendFault.TheVariants.{TooShort, Repair}
use Rattle.model.specs.Lists.{raised}
use Rattle.model.specs.Names.{unused_entry}
use Rattle.model.specs.Scopes.{Order}
use Rattle.model.specs.Classes.{Source}
use Rattle.model.specs.Repair.{Mended, mend}
use Rattle.model.specs.Stages.{with_origins}

-- a row of at least 1,024 places, and one of at least sixteen words
abbrev pub long_enough : List Entry → List ℕ → Bool
long_enough row words = nat_le 1024 (length row) && nat_le 16 (length words)

-- refused with 13 where a row is too short, then with 9 to 12
abbrev pub mend_front : Order → Source → ℕ → List Entry → List ℕ → Result Mended MendFault
mend_front order s count row words = elim (long_enough row words) [ true ↦ raised Repair (mend order s (take count row)) | false ↦ Err TooShort ]

-- accepted, it answers the node count and the rounds
abbrev pub mend_answer : ℕ → Result Mended MendFault → Result Counts MendFault
mend_answer count (Ok m) = Ok (record { nodes = count; rounds = m.rounds })
mend_answer count (Err f) = Err f

-- accepted, the row holds the program, with the origins of the draft, and beyond it what it held; refused, every place is unused
abbrev pub row_mended : ℕ → List Entry → Result Mended MendFault → List Entry
row_mended count row (Ok m) = with_origins (take count row) m.program ++ drop count row
row_mended count row (Err f) = replicate (length row) unused_entry
