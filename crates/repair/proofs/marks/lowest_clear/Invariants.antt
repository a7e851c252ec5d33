use Rattle.std.proofs.Common.{◌*◌}
use Rattle.repair.proofs.Rows.{AllTaken}
use Rattle.repair.proofs.marks.lowest_clear.Given as goal

abbrev pub invariant-loop-at : goal.invariant-loop-at
invariant-loop-at l = AllTaken l.words (64 * l.at)
