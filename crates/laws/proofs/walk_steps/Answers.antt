-- One node on.
use Rattle.laws.proofs.walk_steps.Goals as goal
use Rattle.laws.proofs.Walks.{walk_steps}

pub returns : goal.returns
returns c = walk_steps
