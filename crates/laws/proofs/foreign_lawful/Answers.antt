-- Given drafts are lawful.
use Rattle.laws.proofs.Keeping.{foreign_lawful_lem}
use Rattle.laws.proofs.foreign_lawful.Goals as goal

pub returns : goal.returns
returns c = foreign_lawful_lem
