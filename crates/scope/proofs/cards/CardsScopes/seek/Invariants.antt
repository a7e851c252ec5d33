use Rattle.scope.proofs.CardWalk.{Passing}
use Rattle.scope.proofs.cards.CardsScopes.seek.Given as goal

abbrev pub invariant-loop-line : goal.invariant-loop-line
invariant-loop-line l =
    record {
      can : (goal.iterator-loop-line).can_next l.line-iterator;
      finite : (goal.iterator-loop-line).is_finite l.line-iterator;
      passing : Passing l.program l.at l.name l.line-iterator l.latest;
    }
