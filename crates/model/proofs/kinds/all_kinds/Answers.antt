-- The code's table shows the rules' table: antt computes it.
use Rattle.std.proofs.Common.{refl}
use Rattle.model.specs.Table.{table}
use Rattle.model.proofs.kinds.all_kinds.Goals as goal

pub returns : goal.returns
unfolding table
returns c = refl
