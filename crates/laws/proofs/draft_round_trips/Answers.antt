use Rattle.laws.proofs.RoundTrips.{draft_round_trips_lem}
use Rattle.laws.proofs.draft_round_trips.Goals as goal

pub returns : goal.returns
returns c = draft_round_trips_lem
