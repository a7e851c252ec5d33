use Rattle.std.proofs.Common.{sym, ◌∙◌}
use Rattle.script.specs.Forms.{form_of}
use Rattle.script.proofs.LineParts.{line_no_word, line_no_kind, line_no_name, line_no_number, line_no_origin, line_done, line_over}
use Rattle.script.proofs.lines.read_line.Goals as goal

pub returns-in_err-next : goal.returns-in_err-next
returns-in_err-next c = c.from_residual.ensures ∙ sym (line_no_word (form_of c.args.form) c.args.line.now (sym c.of-fields.ensures ∙ c.in_err-next.ensures.steps.0))

pub returns-in_err-kind : goal.returns-in_err-kind
returns-in_err-kind c =
    let are = sym c.of-fields.ensures ∙ c.in_ok-next.ensures.steps in
    c.from_residual-in_err-kind.ensures ∙ sym (line_no_kind (form_of c.args.form) c.args.line.now _ _ are (sym c.of_word.ensures ∙ c.in_err-kind.was))

pub returns-in_err-name : goal.returns-in_err-name
returns-in_err-name c =
    let are = sym c.of-fields.ensures ∙ c.in_ok-next.ensures.steps in
    c.from_residual-in_err-name.ensures
    ∙ sym (line_no_name (form_of c.args.form) c.args.line.now _ _ are c.in_ok-kind.kind c.row-row.result.now (sym c.of_word.ensures ∙ c.in_ok-kind.was) c.row-row.ensures c.in_err-name.ensures)

pub returns-in_err-number : goal.returns-in_err-number
returns-in_err-number c =
    let are = sym c.of-fields.ensures ∙ c.in_ok-next.ensures.steps in
    c.from_residual-in_err-number.ensures
    ∙ sym (line_no_number (form_of c.args.form) c.args.line.now _ _ are c.in_ok-kind.kind c.row-row.result.now (sym c.of_word.ensures ∙ c.in_ok-kind.was) c.row-row.ensures
    c.in_ok-name.name _ c.in_ok-name.ensures c.in_err-number.ensures)

pub returns-in_err-origin : goal.returns-in_err-origin
returns-in_err-origin c =
    let are = sym c.of-fields.ensures ∙ c.in_ok-next.ensures.steps in
    c.from_residual-in_err-origin.ensures
    ∙ sym (line_no_origin (form_of c.args.form) c.args.line.now _ _ are c.in_ok-kind.kind c.row-row.result.now (sym c.of_word.ensures ∙ c.in_ok-kind.was) c.row-row.ensures
    c.in_ok-name.name _ c.in_ok-name.ensures c.in_ok-number.number _ c.in_ok-number.ensures c.in_err-origin.ensures)

pub returns-in-None : goal.returns-in-None
returns-in-None c =
    let are = sym c.of-fields.ensures ∙ c.in_ok-next.ensures.steps in
    sym (line_done (form_of c.args.form) c.args.line.now _ _ are c.in_ok-kind.kind c.row-row.result.now (sym c.of_word.ensures ∙ c.in_ok-kind.was) c.row-row.ensures
    c.in_ok-name.name _ c.in_ok-name.ensures c.in_ok-number.number _ c.in_ok-number.ensures c.in_ok-origin.origin _ c.in_ok-origin.ensures c.in-None.ensures.steps.0)

pub returns-in-Some : goal.returns-in-Some
returns-in-Some c =
    let are = sym c.of-fields.ensures ∙ c.in_ok-next.ensures.steps in
    sym (line_over (form_of c.args.form) c.args.line.now _ _ are c.in_ok-kind.kind c.row-row.result.now (sym c.of_word.ensures ∙ c.in_ok-kind.was) c.row-row.ensures
    c.in_ok-name.name _ c.in_ok-name.ensures c.in_ok-number.number _ c.in_ok-number.ensures c.in_ok-origin.origin _ c.in_ok-origin.ensures _ _ c.in-Some.ensures.steps)
