use Rattle.promise.proofs.Respelling.{round_keeps}
use Rattle.promise.proofs.round_keeps.Goals as goal

pub returns : goal.returns
returns c = round_keeps
