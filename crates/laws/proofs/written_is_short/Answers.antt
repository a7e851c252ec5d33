use Rattle.laws.proofs.RoundTrips.{written_is_short_lem, draft_written_is_short}
use Rattle.laws.proofs.written_is_short.Goals as goal

pub returns : goal.returns
returns c = record { script = written_is_short_lem; draft = draft_written_is_short }
