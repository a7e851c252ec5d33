-- lower and flatten are lawful.
use Rattle.laws.proofs.Keeping.{stage_laws}
use Rattle.laws.proofs.stage_laws.Goals as goal

pub returns : goal.returns
returns c = stage_laws
