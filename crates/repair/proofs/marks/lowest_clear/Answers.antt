use Rattle.std.proofs.Common.{refl, arith}
use Rattle.repair.proofs.Rows.{lowest_plain, taken_more, clear_found, none_clear}
use Rattle.repair.proofs.marks.lowest_clear.Goals as goal

pub returns-then-low-lt64 : goal.returns-then-low-lt64
returns-then-low-lt64 c =
    let low = lowest_plain c.args.words.now c.loop-at.at _ _ (c.fits-words c.loop-at.at) c.from.ensures refl in
    clear_found c.args.words.now c.loop-at.at _ c.loop-at-test.true c.if-low-lt64.true low c.loop-at.invariant

pub loop-at-preserved : goal.loop-at-preserved
loop-at-preserved c m l =
    let low = lowest_plain c.args.words.now c.loop-at.at _ _ (c.fits-words c.loop-at.at) c.from.ensures refl in
    taken_more c.args.words.now c.loop-at.at _ low c.loop-at.invariant m (omega (arith, c.if-low-lt64.false))

pub returns : goal.returns
returns c = none_clear c.args.words.now (λ m l. c.loop-at.invariant m (omega (arith, c.loop-at-test.false)))
