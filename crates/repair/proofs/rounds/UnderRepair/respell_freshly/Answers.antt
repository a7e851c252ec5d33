use Rattle.repair.proofs.Origins.{freshly_spelled}
use Rattle.repair.proofs.rounds.UnderRepair.respell_freshly.Goals as goal

pub returns-clause-after : goal.returns-clause-after
returns-clause-after c =
    freshly_spelled c.args.self.now.classes.now c.args.self.now.entries.now c.respell.new.self.entries.now c.args.captor c.marked.result c.fresh_mark-mark.result c.fresh_mark-mark.ensures.value c.marked.ensures c.respell.ensures.after
