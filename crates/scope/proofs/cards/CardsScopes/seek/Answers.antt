use Rattle.std.proofs.Common.{rules, sym, ◌∙◌}
use Rattle.model.specs.Scopes.{card_scopes}
use Rattle.scope.proofs.Scoping.{named_there}
use Rattle.scope.proofs.CardWalk.{passing_begins, stops_in_own_line, goes_on_declared, goes_on_undeclared}
use Rattle.scope.proofs.cards.CardsScopes.seek.Goals as goal

pub loop-line-init : goal.loop-line-init
loop-line-init c = search (rules, passing_begins)

pub returns-then-at-line : goal.returns-then-at-line
returns-then-at-line c =
    sym
    (named_there card_scopes c.args.program.now c.args.at
    ∙ stops_in_own_line _ _ _ c.requires _ _ _ _ c.loop-line.invariant.passing c.in-Some.ensures.steps c.if-at-line.true)

pub loop-line-preserved-then-declares_as : goal.loop-line-preserved-then-declares_as
loop-line-preserved-then-declares_as c = search (rules, goes_on_declared)

pub loop-line-preserved : goal.loop-line-preserved
loop-line-preserved c = search (rules, goes_on_undeclared)
