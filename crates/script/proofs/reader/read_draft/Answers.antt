use Rattle.laws.proofs.RoundTrips.{draft_round_trips_lem}
use Rattle.script.proofs.Readings.{draft_trip}
use Rattle.script.proofs.reader.read_draft.Goals as goal

pub returns : goal.returns
returns g c =
    let e = c.read_form.ensures in
    let t = draft_trip g.G.Grammar.grammar c.args.text.now c.args.row.now c.read_form.new.row c.read_form.result e.value e.after in
    record {
      value = e.value;
      after = e.after;
      back = t.back;
      within = t.within;
      again = (draft_round_trips_lem g.G.Grammar.grammar).written_is_read;
    }
