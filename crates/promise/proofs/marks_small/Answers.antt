use Rattle.promise.proofs.Rounds.{marks_small_lem}
use Rattle.promise.proofs.marks_small.Goals as goal

pub returns : goal.returns
returns c = marks_small_lem
