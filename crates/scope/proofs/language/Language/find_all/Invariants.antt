use Rattle.std.proofs.Common.{◌≡◌, ◌++◌, take, drop}
use Rattle.model.specs.Names.{nodes}
use Rattle.model.specs.Scopes.{reaches}
use Rattle.scope.proofs.language.Language.find_all.Given as goal

abbrev pub invariant-loop-at : goal.invariant-loop-at
invariant-loop-at g l = l.reach-items ≡ take l.at (reaches g.Self.Language.visible (nodes l.program)) ++ drop l.at l.initial.reach-items
