use Rattle.std.proofs.Common.{length, arith, rules, tests}
use Rattle.std.proofs.lemmas.Iterator.{YieldsList-from_range}
use Rattle.std.proofs.lemmas.Iterator.Search.{find_from_yields_List}
use Rattle.repair.specs.Rounds.{classes_of, captured}
use Rattle.repair.proofs.Captors.{lowest_found}
use Rattle.repair.proofs.rounds.Names.captive.Goals as goal

pub returns : goal.returns
returns c =
    let cs = c.args.self.now.classes.now in
    let caught = captured cs (classes_of cs c.args.self.now.reached.now) c.args.captor in
    lowest_found caught (length cs) _
    (find_from_yields_List caught _ _ c.find.result c.find.ensures.ran (YieldsList-from_range 0 (length cs) (length cs) (cc) (omega arith)) (λ x b q k. search (rules, tests)))
