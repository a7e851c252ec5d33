use Rattle.std.proofs.Common.{sym, arith}
use Rattle.model.specs.Names.{nodes}
use Rattle.model.specs.Repair.{marks}
use Rattle.repair.proofs.Uses.{marks_few}
use Rattle.repair.proofs.Fresh.{in_row, row_full, next_free, next_used}
use Rattle.repair.proofs.marks.seek_mark.Goals as goal

pub returns-in-Some-clause-value : goal.returns-in-Some-clause-value
returns-in-Some-clause-value c = in_row _ _ c.in-Some.mark c.note_marks.ensures c.in-Some.ensures

pub returns-then-is_in_use-clause-value : goal.returns-then-is_in_use-clause-value
returns-then-is_in_use-clause-value c =
    let used = marks c.args.name.now (nodes c.args.program.now) in
    let few = marks_few c.args.name.now c.args.program.now in
    next_used used (omega (arith, c.requires.few)) (row_full _ used c.note_marks.ensures c.in_default.ensures) (sym c.if-is_in_use.ensures)

pub returns-clause-value : goal.returns-clause-value
returns-clause-value c =
    let used = marks c.args.name.now (nodes c.args.program.now) in
    next_free used (row_full _ used c.note_marks.ensures c.in_default.ensures) (sym c.if-is_in_use.ensures)
