-- Forests grow and are read off as said.
use Rattle.laws.proofs.forest_laws.Goals as goal
use Rattle.laws.proofs.Forests.{forest_laws_lem}

pub returns : goal.returns
returns c = forest_laws_lem
