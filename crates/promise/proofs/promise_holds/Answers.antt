use Rattle.model.specs.Promise.{Promise}
use Rattle.laws.proofs.Keeping.{standard_keeps}
use Rattle.promise.proofs.Mending.{refused_exactly}
use Rattle.promise.proofs.Truth.{stays_true}
use Rattle.promise.proofs.Runs.{runs_agree}
use Rattle.promise.proofs.promise_holds.Goals as goal

kept : Promise
kept w K =
    record {
      stays_true = stays_true w K.visible K.stages;
      runs_agree = runs_agree w K.visible K.stages;
      refused_exactly = refused_exactly w.language.visible K.visible;
    }

pub returns : goal.returns
returns c = record { promise = kept; standard = standard_keeps }
