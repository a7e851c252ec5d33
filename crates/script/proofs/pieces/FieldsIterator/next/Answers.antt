use Rattle.std.proofs.Common.{ℕ, ◌+◌, List, ◌∷◌, length, take, Some, None, sym, ap, ◌∙◌, arith}
use Rattle.std.proofs.lemmas.List.{take_rest}
use Rattle.model.specs.Fields.{pieces}
use Rattle.script.specs.FieldsLeft.{pieces_of}
use Rattle.script.proofs.Places.{first_place}
use Rattle.script.proofs.FieldParts.{pieces_all, pieces_cut}
use Rattle.script.proofs.pieces.FieldsIterator.next.Goals as goal

pub returns-in_default-clause-steps : goal.returns-in_default-clause-steps
returns-in_default-clause-steps c =
    let bs = c.in_ok-rest.rest.now in
    ap pieces_of c.in_ok-rest.was ∙ pieces_all 9 bs (first_place 9 bs None (sym c.in_default.is ∙ c.place_of.ensures))

pub returns-clause-steps : goal.returns-clause-steps
returns-clause-steps c =
    let bs = c.in_ok-rest.rest.now in
    let q = c.in-Some.tab in
    let p = first_place 9 bs (Some q) (sym c.in-Some.is ∙ c.place_of.ensures) in
    ap pieces_of c.in_ok-rest.was ∙ (pieces_cut 9 bs q p.0 p.1 ∙ ap (λ (l : List ℕ). take q bs ∷ pieces 9 l) (sym (take_rest bs (q + 1))))

pub returns-in_default-clause-goes : goal.returns-in_default-clause-goes
returns-in_default-clause-goes c =
    let e = ap {B = ℕ} length (returns-in_default-clause-steps c) in
    record { on = λ f. (tt, tt, omega (arith, e)); keeps = tt; rests = λ f. tt }

pub returns-clause-goes : goal.returns-clause-goes
returns-clause-goes c =
    let e = ap {B = ℕ} length (returns-clause-steps c) in
    record { on = λ f. (tt, tt, omega (arith, e)); keeps = tt; rests = λ f. tt }
