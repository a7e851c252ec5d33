use Rattle.std.proofs.Common.{ℕ, take, sym, ap, ◌∙◌, arith}
use Rattle.std.proofs.lemmas.List.{take_all}
use Rattle.script.proofs.Places.{first_place, letters_before}
use Rattle.script.proofs.writer.characters.Goals as goal

pub returns-in-Some-clause-are : goal.returns-in-Some-clause-are
returns-in-Some-clause-are c =
    let s = c.args.stem.now in
    let p = first_place 0 s _ (sym c.in-Some.is ∙ c.place_of.ensures) in
    ap (λ (n : ℕ). take n s) p.0 ∙ sym (letters_before s)

pub returns-in-None-clause-are : goal.returns-in-None-clause-are
returns-in-None-clause-are c =
    let s = c.args.stem.now in
    let p = first_place 0 s _ (sym c.in-None.is ∙ c.place_of.ensures) in
    sym (letters_before s ∙ take_all _ s (omega (arith, p)))
