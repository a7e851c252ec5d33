use Rattle.std.proofs.Common.{get_or, None, ◌∙◌}
use Rattle.repair.proofs.Origins.{spelled_here, spelled_past, spelled_all}
use Rattle.repair.proofs.rounds.UnderRepair.respell.Goals as goal
use Rattle.repair.proofs.rounds.UnderRepair.respell.Goals.{then-are_together, else-are_together}

pub loop-place-preserved : goal.loop-place-preserved
loop-place-preserved c =
    let cs = c.args.self.now.classes.now in
    let es = c.args.self.now.entries.now in
    let own = get_or cs c.args.captor None in
    elim c.if-are_together.branch [
      | then-are_together w ↦
          w.entry-items-is
          ∙ spelled_here own c.args.name cs es c.loop-place.place c.loop-place.entry-items c.are_together.result c.args.self.now.long c.loop-place-test.true c.loop-place.invariant c.are_together.ensures w.if-are_together.true
      | else-are_together w ↦
          w.entry-items-is
          ∙ spelled_past own c.args.name cs es c.loop-place.place c.loop-place.entry-items c.are_together.result c.args.self.now.long c.loop-place-test.true c.loop-place.invariant c.are_together.ensures w.if-are_together.false
    ]

pub returns-clause-after : goal.returns-clause-after
returns-clause-after c =
    let cs = c.args.self.now.classes.now in
    spelled_all (get_or cs c.args.captor None) c.args.name cs c.args.self.now.entries.now c.loop-place.place c.loop-place.entry-items c.loop-place-test.false c.loop-place.invariant
