use Rattle.std.proofs.Common.{◌++◌, replicate, ap, ◌∙◌, arith}
use Rattle.script.specs.Runs.{Coming}
use Rattle.script.proofs.Stacks.{top_set}
use Rattle.script.proofs.pending.Pending.push.Goals as goal

pub returns-clause-sorts : goal.returns-clause-sorts
returns-clause-sorts c =
    let r = c.args.run in
    top_set c.self.inside.runs.now c.self.inside.height r (omega (arith, c.self.invariant.1, c.requires, ap (λ (v : Coming). v.height) c.self.view_is))
    ∙ ap (λ (v : Coming). replicate r.left r.sort ++ v.sorts) c.self.view_is
