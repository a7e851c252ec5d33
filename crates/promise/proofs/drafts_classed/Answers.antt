use Rattle.promise.proofs.Mending.{drafts_classed_lem}
use Rattle.promise.proofs.drafts_classed.Goals as goal

pub returns : goal.returns
returns c = drafts_classed_lem
