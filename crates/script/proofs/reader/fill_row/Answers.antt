use Rattle.std.proofs.lemmas.Result.{err_from_is_err_and}
use Rattle.script.specs.Forms.{form_of}
use Rattle.script.proofs.Readings.{lines_read, lines_refused}
use Rattle.script.proofs.reader.fill_row.Goals as goal

pub returns-in_err-read_lines : goal.returns-in_err-read_lines
returns-in_err-read_lines g c =
    let p = err_from_is_err_and c.from_residual.result c.from_residual.ensures.1 in
    rw (p.1, p.2)
    (lines_refused g.G.Grammar.grammar (form_of c.args.form) c.args.text.now c.args.row.now c.read_lines.new.row c.in_err-read_lines.field-0.0 c.if-row-lt-MOST_NODES.false c.if-text-gt-LONGEST_TEXT.false c.in_err-read_lines.ensures)

pub returns : goal.returns
returns g c =
    lines_read g.G.Grammar.grammar (form_of c.args.form) c.args.text.now c.args.row.now c.read_lines.new.row c.in_ok-read_lines.field-0 c.if-row-lt-MOST_NODES.false c.if-text-gt-LONGEST_TEXT.false c.in_ok-read_lines.ensures
