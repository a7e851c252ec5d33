use Rattle.std.proofs.Common.{◌≡◌, sym, ap, ◌∙◌, arith}
use Rattle.std.proofs.lemmas.Slice.Eq.{slice_eq-Decides}
use Rattle.std.proofs.lemmas.Bool.{both_ways}
use Rattle.model.proofs.TableRows.{in_table, row_matches, row_differs, kind_from, from_first}
use Rattle.model.proofs.kinds.Kind.of_word.Goals as goal
use Rattle.std.proofs.lemmas.Bool.Decides.{Decides-eqb}

pub returns-then-eq : goal.returns-then-eq
returns-then-eq c =
    let l = in_table c.all_kinds-row-items.result.now c.all_kinds-row-items.ensures in
    let same = (slice_eq-Decides Decides-eqb c.as_bytes.result.now c.args.word.now _ c.eq.ensures).0 c.if-eq.true in
    sym (row_matches c.all_kinds-row-items.result.now c.loop-row.row-index _ c.args.word.now c.all_kinds-row-items.ensures (omega (arith, c.loop-row-test.true)) (sym c.as_bytes.ensures.value ∙ same)) ∙ c.loop-row.invariant

pub loop-row-preserved : goal.loop-row-preserved
loop-row-preserved c =
    let l = in_table c.all_kinds-row-items.result.now c.all_kinds-row-items.ensures in
    row_differs c.all_kinds-row-items.result.now c.loop-row.row-index _ c.args.word.now c.all_kinds-row-items.ensures (omega (arith, c.loop-row-test.true))
    (λ e. both_ways _ c.if-eq.false ((slice_eq-Decides Decides-eqb c.as_bytes.result.now c.args.word.now _ c.eq.ensures).1 (c.as_bytes.ensures.value ∙ e))) ∙ c.loop-row.invariant

pub returns : goal.returns
returns c =
    let l = in_table c.all_kinds-row-items.result.now c.all_kinds-row-items.ensures in
    let n : c.loop-row.row-index ≡ 25 = omega (arith, c.loop-row-test.false, c.loop-row.auto.row-index-end) in
    sym (sym c.loop-row.invariant ∙ ap (kind_from c.args.word.now) n)

pub loop-row-init : goal.loop-row-init
loop-row-init c = from_first c.args.word.now
