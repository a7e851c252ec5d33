use Rattle.std.proofs.Common.{◌-◌}
use Rattle.repair.specs.Lent.{SameRows}
use Rattle.repair.proofs.Mends.{Mending, all_rounds}
use Rattle.repair.proofs.rounds.UnderRepair.repair.Given as goal

abbrev pub invariant-loop-count : goal.invariant-loop-count
invariant-loop-count g l =
    Mending g.T.Language.visible l.initial.self.classes.now l.initial.self.entries.now l.count l.self.entries.now
    × SameRows l.initial.self l.self

abbrev pub decreases-loop-count : goal.decreases-loop-count
decreases-loop-count g l = all_rounds g.T.Language.visible l.initial.self.classes.now l.initial.self.entries.now - l.count
