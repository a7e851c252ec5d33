use Rattle.std.proofs.Common.{not, get_or, None, ap, ◌∙◌, rules, tests}
use Rattle.std.proofs.lemmas.Iterator.{YieldsList-from_slice}
use Rattle.std.proofs.lemmas.Iterator.Search.{any_from_yields_List}
use Rattle.model.specs.Classes.{together}
use Rattle.repair.proofs.Captors.{leads_is}
use Rattle.repair.proofs.rounds.Names.leads.Goals as goal

pub returns : goal.returns
returns c =
    let cs = c.args.self.now.classes.now in
    ap not (any_from_yields_List (together (get_or cs c.args.at None)) _ _ _ c.any.ensures.ran (YieldsList-from_slice _ cc) (λ x b q k. search (rules, tests)))
    ∙ leads_is cs c.args.at c.requires
