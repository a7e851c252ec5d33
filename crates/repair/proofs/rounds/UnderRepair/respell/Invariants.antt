use Rattle.std.proofs.Common.{get_or, None}
use Rattle.repair.proofs.Origins.{SpelledFront}
use Rattle.repair.proofs.rounds.UnderRepair.respell.Given as goal

abbrev pub invariant-loop-place : goal.invariant-loop-place
invariant-loop-place l = SpelledFront (get_or l.classes l.captor None) l.name l.classes l.initial.entry-items l.place l.entry-items
