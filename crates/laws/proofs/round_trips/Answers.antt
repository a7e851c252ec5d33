use Rattle.laws.proofs.RoundTrips.{round_trips_lem}
use Rattle.laws.proofs.round_trips.Goals as goal

pub returns : goal.returns
returns c = round_trips_lem
