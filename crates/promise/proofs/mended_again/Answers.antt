use Rattle.promise.proofs.Again.{mended_again_lem}
use Rattle.promise.proofs.mended_again.Goals as goal

pub returns : goal.returns
returns c = mended_again_lem
