-- The promise, and that it is about something.
use Rattle.model.specs.Promise as model
use Rattle.laws.specs.Stages.{StandardKeeps}

-- it holds of every world that keeps the rules, and the standard stages are such a world
pub record PromiseHolds : Type 0 where
  pub promise : model.Promise
  pub standard : StandardKeeps
