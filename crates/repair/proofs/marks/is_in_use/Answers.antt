use Rattle.std.proofs.Common.{◌∙◌, rules, tests}
use Rattle.std.proofs.lemmas.Iterator.{YieldsList-from_slice}
use Rattle.std.proofs.lemmas.Iterator.Search.{any_from_yields_List}
use Rattle.repair.proofs.Uses.{uses, in_use}
use Rattle.repair.proofs.marks.is_in_use.Goals as goal

pub returns : goal.returns
returns c =
    any_from_yields_List (uses c.args.name.now c.args.mark) _ _ _ c.any.ensures.ran (YieldsList-from_slice c.args.program.now cc) (λ x b q k. search (rules, tests))
    ∙ in_use c.args.name.now c.args.mark c.args.program.now
