use Rattle.promise.proofs.Again.{repaired_keeps_lem}
use Rattle.promise.proofs.repaired_keeps.Goals as goal

pub returns : goal.returns
returns c = repaired_keeps_lem
