use Rattle.promise.proofs.Rounds.{repair_ends_lem}
use Rattle.promise.proofs.repair_ends.Goals as goal

pub returns : goal.returns
returns c = repair_ends_lem
