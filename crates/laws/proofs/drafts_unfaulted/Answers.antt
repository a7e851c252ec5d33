-- What lower and flatten make has no fault.
use Rattle.laws.proofs.LowerFaults.{lower_unfaulted}
use Rattle.laws.proofs.FlattenFaults.{flatten_unfaulted}
use Rattle.laws.proofs.drafts_unfaulted.Goals as goal

pub returns : goal.returns
returns c = (lower_unfaulted, flatten_unfaulted)
