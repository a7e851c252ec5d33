use Rattle.promise.proofs.Rounds.{respelled_once_lem}
use Rattle.promise.proofs.respelled_once.Goals as goal

pub returns : goal.returns
returns c = respelled_once_lem
