use Rattle.std.proofs.Common.{refl}
use Rattle.model.specs.Repair.{marks}
use Rattle.promise.proofs.Lists.{unused_is}
use Rattle.promise.proofs.fresh_spelling.Goals as goal

pub returns : goal.returns
returns c = λ a p. let u = unused_is (marks a p) in record { stem = refl; from_one = u.0; not_in_use = u.1; smallest = u.2 }
