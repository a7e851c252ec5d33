use Rattle.std.proofs.Common.{◌≡◌, ◌+◌, ◌<◌, length, sym, ◌∙◌, arith}
use Rattle.model.specs.Names.{nodes}
use Rattle.laws.proofs.RoundTrips.{length_nodes}
use Rattle.scope.proofs.PastTrees.{walked_on, none_left, none_wanted, rest_long}
use Rattle.scope.proofs.walk.next_tree.Goals as goal

pub returns-then-from-program : goal.returns-then-from-program
returns-then-from-program c = sym (none_left (nodes c.args.program.now) c.args.from 1 (omega (arith, length_nodes c.args.program.now, c.if-from-program.true)))

pub returns-then-wanted-eq0 : goal.returns-then-wanted-eq0
returns-then-wanted-eq0 c =
    let es = c.args.program.now in
    let at = c.args.from + (c.loop-passed.passed + 1) in
    let inside : c.args.from + c.loop-passed.passed < length es = omega (arith, rest_long es c.args.from, c.loop-passed-test.true, c.if-from-program.false) in
    let on = walked_on es c.args.from c.loop-passed.passed c.loop-passed.wanted c.arity-below.result c.saturating_add-wanted.result _ (omega arith) inside c.loop-passed.invariant.0 c.arity-below.ensures c.saturating_add-wanted.ensures c.loop-passed.invariant.1 in
    let here : c.args.from + c.loop-passed.passed + 1 ≡ at = omega arith in
    here ∙ (sym (none_wanted (nodes es) at c.saturating_add-wanted.result c.if-wanted-eq0.true) ∙ on)

pub loop-passed-preserved : goal.loop-passed-preserved
loop-passed-preserved c =
    let es = c.args.program.now in
    let inside : c.args.from + c.loop-passed.passed < length es = omega (arith, rest_long es c.args.from, c.loop-passed-test.true, c.if-from-program.false) in
    (omega (arith, c.if-wanted-eq0.false), walked_on es c.args.from c.loop-passed.passed c.loop-passed.wanted c.arity-below.result c.saturating_add-wanted.result _ (omega arith) inside c.loop-passed.invariant.0 c.arity-below.ensures c.saturating_add-wanted.ensures c.loop-passed.invariant.1)

pub returns : goal.returns
returns c =
    let es = c.args.program.now in
    let at = c.args.from + c.loop-passed.passed in
    let end : length es ≡ at = omega (arith, rest_long es c.args.from, c.loop-passed-test.false, c.loop-passed.auto, c.if-from-program.false) in
    end ∙ (sym (none_left (nodes es) at c.loop-passed.wanted (omega (arith, length_nodes es, end))) ∙ c.loop-passed.invariant.1)
