use Rattle.std.proofs.Common.{◌+◌, ◌-◌, ◌*◌, ◌<◌, get_or, drop, sym, arith}
use Rattle.std.proofs.lemmas.Bool.{cond-false, lt-leb}
use Rattle.model.specs.Fields.{value_from}
use Rattle.script.proofs.FieldParts.{a_digit, value_ge, value_more}
use Rattle.script.proofs.fields.value_of.Goals as goal

pub overflow_sub-b : goal.overflow_sub-b
overflow_sub-b c = omega (arith, (a_digit c.args.digits.now c.loop-b.b-index c.requires c.loop-b-test.true).0)

pub returns-then-n-from : goal.returns-then-n-from
returns-then-n-from c =
    let step = value_more c.loop-b.n c.loop-b.b-index c.args.digits.now c.loop-b-test.true in
    let ge = value_ge (c.loop-b.n * 10 + (get_or c.args.digits.now c.loop-b.b-index 0 - 48)) (drop (c.loop-b.b-index + 1) c.args.digits.now) in
    let past : c.args.most < value_from 0 c.args.digits.now = omega (arith, step, c.loop-b.invariant.1, c.if-n-from.true) in
    sym (cond-false _ _ _ (lt-leb _ _ past))
