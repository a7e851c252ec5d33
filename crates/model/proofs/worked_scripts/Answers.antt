-- By computation.
use Rattle.std.proofs.Common.{refl}
use Rattle.std.specs.Fmt.{digits}
use Rattle.model.specs.Fields.{kind_of}
use Rattle.model.proofs.worked_scripts.Goals as goal

pub returns : goal.returns
unfolding digits kind_of
returns c = ((refl, refl), refl, (refl, refl), refl, (refl, refl), refl, (refl, refl), refl, refl)
