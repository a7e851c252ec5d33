use Rattle.std.proofs.Common.{◌≡◌, ◌<◌, ◌^◌, cond, length, ◌∙◌, rules, tests, arith, of_calls}
use Rattle.std.proofs.lemmas.Iterator.{YieldsList-from_slice, YieldsList-from_map}
use Rattle.std.proofs.lemmas.Iterator.Consumers.{sum_by_from_yields_List, fits_by_from_yields_list}
use Rattle.std.specs.List.{count_by}
use Rattle.std.proofs.lemmas.List.Sums.{count_by-le-length}
use Rattle.model.specs.declared.nodes.Entry.{Entry}
use Rattle.model.specs.Kinds.{is}
use Rattle.script.specs.Summaries.{of_kind}
use Rattle.script.proofs.Summing.{kept_count}
use Rattle.script.proofs.summary.count_kind.Goals as goal

pub sum-requires : goal.sum-requires
sum-requires c = record {
  can = search of_calls;
  finite = search of_calls;
  fits =
      let es = c.args.program.now in
      let t = λ (e : Entry). is c.args.kind e.node.kind in
      let few : count_by t es < 2 ^ 64 = omega (arith, count_by-le-length t es) in
      fits_by_from_yields_list (λ e. cond (t e) 1 0) es c.map.result _
      (YieldsList-from_map _ (λ e. cond (t e) 1 0) (YieldsList-from_slice es cc) c.map.ensures.closure (λ x r q k. search (rules, tests)))
      few;
}

pub returns : goal.returns
returns c =
    let es = c.args.program.now in
    let t = λ (e : Entry). is c.args.kind e.node.kind in
    let counted : c.sum.result ≡ length (of_kind c.args.kind es) =
    sum_by_from_yields_List (λ e. cond (t e) 1 0) es c.map.result _ c.sum.ensures.ran
    (YieldsList-from_map _ (λ e. cond (t e) 1 0) (YieldsList-from_slice es cc) c.map.ensures.closure (λ x r q k. search (rules, tests)))
    ∙ kept_count t es in
    omega (arith, counted)
