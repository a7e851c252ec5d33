use Rattle.std.proofs.Common.{take}
use Rattle.repair.proofs.Uses.{ShowsUses}
use Rattle.repair.proofs.marks.note_marks.Given as goal

abbrev pub invariant-loop-entry : goal.invariant-loop-entry
invariant-loop-entry l = ShowsUses l.words l.name (take l.entry-index l.program)
