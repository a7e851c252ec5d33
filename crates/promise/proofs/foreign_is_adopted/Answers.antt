use Rattle.promise.proofs.Again.{foreign_adopted}
use Rattle.promise.proofs.foreign_is_adopted.Goals as goal

pub returns : goal.returns
returns c = foreign_adopted
