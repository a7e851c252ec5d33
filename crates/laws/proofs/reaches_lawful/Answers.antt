-- Reaches are lawful by every visible order, and by every order depend on likeness alone.
use Rattle.laws.proofs.Reaches.{reaches_lawful_lem, by_likeness}
use Rattle.laws.proofs.reaches_lawful.Goals as goal

pub returns : goal.returns
returns c = record { reaches = reaches_lawful_lem; likeness = by_likeness }
