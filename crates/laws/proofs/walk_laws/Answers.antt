-- Trees in turn.
use Rattle.laws.proofs.walk_laws.Goals as goal
use Rattle.laws.proofs.Walks.{walk_laws_lem}

pub returns : goal.returns
returns c = walk_laws_lem
