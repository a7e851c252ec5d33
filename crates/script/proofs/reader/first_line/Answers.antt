use Rattle.std.proofs.Common.{ℕ, ◌+◌, drop, Some, None, Option, sym, ap, ◌∙◌, subst, arith}
use Rattle.std.proofs.lemmas.List.{take_rest}
use Rattle.script.specs.Forms.{form_of}
use Rattle.script.specs.Reads.{IsFirstLine}
use Rattle.script.specs.declared.reader.FirstLine.{FirstLine}
use Rattle.script.proofs.Places.{first_place}
use Rattle.script.proofs.ReadParts.{first_none, first_some}
use Rattle.script.proofs.reader.first_line.Goals as goal

pub returns-in_err-end : goal.returns-in_err-end
returns-in_err-end c =
    subst (λ (o : Option FirstLine). IsFirstLine (form_of c.args.form) c.args.text.now o) (sym c.from_residual.ensures)
    (first_none (form_of c.args.form) c.args.text.now (first_place 10 c.args.text.now None (sym c.in_err-end.was ∙ c.place_of.ensures)))

pub returns-in_err-entry : goal.returns-in_err-entry
returns-in_err-entry c =
    let p = first_place 10 c.args.text.now (Some c.in_ok-end.end) (sym c.in_ok-end.was ∙ c.place_of.ensures) in
    subst (λ (o : Option FirstLine). IsFirstLine (form_of c.args.form) c.args.text.now o) (sym c.from_residual-in_err-entry.ensures)
    (first_some (form_of c.args.form) c.args.text.now c.in_ok-end.end None p.0 p.1 (sym c.read_line.ensures ∙ c.in_err-entry.was))

pub returns : goal.returns
returns c =
    let text = c.args.text.now in
    let end = c.in_ok-end.end in
    let p = first_place 10 text (Some end) (sym c.in_ok-end.was ∙ c.place_of.ensures) in (
      first_some (form_of c.args.form) text end (Some c.in_ok-entry.entry) p.0 p.1 (sym c.read_line.ensures ∙ c.in_ok-entry.was),
      take_rest text (end + 1) ∙ ap (λ (j : ℕ). drop (j + 1) text) p.0,
      omega (arith, p.0, p.1),
    )
