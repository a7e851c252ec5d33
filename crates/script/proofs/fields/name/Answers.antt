use Rattle.std.proofs.Common.{◌≡◌, ℕ, ◌+◌, ◌-◌, List, length, take, drop, Some, None, Option, sym, ap, ◌∙◌}
use Rattle.std.proofs.lemmas.List.{take_rest}
use Rattle.model.specs.Fields.{written_mark}
use Rattle.script.proofs.Places.{first_place}
use Rattle.script.proofs.FieldParts.{name_plain, name_no_stem, name_marked}
use Rattle.script.proofs.fields.name.Goals as goal

-- the mark is what comes after the apostrophe
mark_is : (f : List ℕ) (q : ℕ) (r o : Option ℕ) → r ≡ written_mark (take (length f - (q + 1)) (drop (q + 1) f)) → r ≡ o → written_mark (drop (q + 1) f) ≡ o
mark_is f q r o e w = ap written_mark (sym (take_rest f (q + 1))) ∙ (sym e ∙ w)

pub returns-in_err-stem : goal.returns-in_err-stem
returns-in_err-stem c =
    let p = first_place 39 c.args.field.now None (sym c.in_default.is ∙ c.place_of.ensures) in
    c.from_residual.ensures ∙ sym (name_plain c.args.field.now None p (sym c.stem.ensures ∙ c.in_err-stem.was))

pub returns-in_default : goal.returns-in_default
returns-in_default c =
    let p = first_place 39 c.args.field.now None (sym c.in_default.is ∙ c.place_of.ensures) in
    sym (name_plain c.args.field.now (Some c.in_ok-stem.field-0) p (sym c.stem.ensures ∙ c.in_ok-stem.was))

pub returns-in_err-stem-2 : goal.returns-in_err-stem-2
returns-in_err-stem-2 c =
    let q = c.in-Some.quote in
    let p = first_place 39 c.args.field.now (Some q) (sym c.in-Some.is ∙ c.place_of.ensures) in
    c.from_residual-in_err-stem-2.ensures ∙ sym (name_no_stem c.args.field.now q p.0 p.1 (sym c.stem-2.ensures ∙ c.in_err-stem-2.was))

pub returns-in_err-mark : goal.returns-in_err-mark
returns-in_err-mark c =
    let f = c.args.field.now in
    let q = c.in-Some.quote in
    let p = first_place 39 f (Some q) (sym c.in-Some.is ∙ c.place_of.ensures) in
    let m = mark_is f q c.mark.result None c.mark.ensures c.in_err-mark.was in
    c.from_residual-in_err-mark.ensures ∙ sym (name_marked f q p.0 p.1 c.in_ok-stem-2.field-0 None (sym c.stem-2.ensures ∙ c.in_ok-stem-2.was) m)

pub returns : goal.returns
returns c =
    let f = c.args.field.now in
    let q = c.in-Some.quote in
    let p = first_place 39 f (Some q) (sym c.in-Some.is ∙ c.place_of.ensures) in
    let m = mark_is f q c.mark.result (Some c.in_ok-mark.field-0) c.mark.ensures c.in_ok-mark.was in
    sym (name_marked f q p.0 p.1 c.in_ok-stem-2.field-0 (Some c.in_ok-mark.field-0) (sym c.stem-2.ensures ∙ c.in_ok-stem-2.was) m)
