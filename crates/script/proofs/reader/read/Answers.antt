use Rattle.script.proofs.Readings.{read_trip}
use Rattle.script.proofs.reader.read.Goals as goal

pub returns : goal.returns
returns g c =
    let e = c.read_form.ensures in
    let t = read_trip g.G.Grammar.grammar c.args.text.now c.args.row.now c.read_form.new.row c.read_form.result e.value e.after in
    record {
      value = e.value;
      after = e.after;
      back = t.back;
      within = t.within;
    }
