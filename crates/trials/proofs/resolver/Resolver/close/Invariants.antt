use Rattle.std.proofs.Common.{vec_len}
use Rattle.trials.proofs.resolver.Resolver.close.Given as goal

abbrev pub decreases-loop-top : goal.decreases-loop-top
decreases-loop-top l = vec_len l.self.open
