use Rattle.std.proofs.Common.{◌≡◌, rules, tests, sym, ◌∙◌}
use Rattle.std.proofs.lemmas.Iterator.{YieldsList-from_slice}
use Rattle.std.proofs.lemmas.Iterator.Search.{position_from_yields_List}
use Rattle.std.proofs.lemmas.Iterator.Adapters.{position_from-zero}
use Rattle.model.specs.Names.{entry_at, nodes}
use Rattle.model.specs.Scopes.{flat_scopes}
use Rattle.scope.specs.Seeking.{sought}
use Rattle.scope.proofs.FlatWalk.{declaring, declared_anywhere}
use Rattle.scope.proofs.flats.FlatsScopes.seek.Goals as goal

pub returns : goal.returns
returns c =
    let es = c.args.program.now in
    let test = declaring (entry_at es c.args.at).node.name in
    let found : c.position.result ≡ sought flat_scopes (nodes es) c.args.at =
    position_from_yields_List test _ _ _ c.position.ensures.ran (YieldsList-from_slice es (cc)) (λ x b q k. search (rules, tests))
    ∙ (position_from-zero test es ∙ sym (declared_anywhere es c.args.at c.requires)) in
    search rules
