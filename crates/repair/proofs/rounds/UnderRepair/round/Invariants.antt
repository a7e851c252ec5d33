use Rattle.model.specs.Names.{nodes}
use Rattle.model.specs.Forest.{shape}
use Rattle.promise.proofs.Respelling.{has_turn}
use Rattle.repair.specs.Lent.{SameRows}
use Rattle.repair.proofs.Turns.{Turned}
use Rattle.repair.proofs.rounds.UnderRepair.round.Given as goal

abbrev pub invariant-loop-at : goal.invariant-loop-at
invariant-loop-at g l =
    let p = nodes l.initial.self.entries.now in
    Turned l.initial.self.classes.now l.initial.self.entries.now (has_turn (g.T.Language.visible (shape p)) l.initial.self.classes.now p) l.at l.self.entries.now l.found
    × SameRows l.initial.self l.self
