use Rattle.scope.proofs.TreeWalk.{Walking}
use Rattle.scope.proofs.trees.TreesScopes.seek.Given as goal

abbrev pub invariant-loop-up : goal.invariant-loop-up
invariant-loop-up l =
    record {
      can : (goal.iterator-loop-up).can_next l.up-iterator;
      finite : (goal.iterator-loop-up).is_finite l.up-iterator;
      walking : Walking l.program l.at l.name l.up-iterator l.between;
    }
