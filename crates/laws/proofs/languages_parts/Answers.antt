-- The three languages are parts of the one by the root.
use Rattle.laws.proofs.Orders.{languages_parts_lem}
use Rattle.laws.proofs.languages_parts.Goals as goal

pub returns : goal.returns
returns c = languages_parts_lem
