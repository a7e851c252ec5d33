use Rattle.std.proofs.Common.{◌≡◌, ◌+◌, ◌<◌}
use Rattle.model.specs.Names.{nodes}
use Rattle.laws.specs.Walks.{beyond}
use Rattle.scope.proofs.walk.next_tree.Given as goal

abbrev pub invariant-loop-passed : goal.invariant-loop-passed
invariant-loop-passed l = (0 < l.wanted) × (beyond (nodes l.program) (l.from + l.passed) l.wanted ≡ beyond (nodes l.program) l.from 1)
