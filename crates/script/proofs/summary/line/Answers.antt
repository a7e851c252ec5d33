use Rattle.std.proofs.Common.{ℕ, List, refl, sym, ap, ◌∙◌, rules, tests}
use denote.Ref.{Bor}
use Rattle.std.specs.List.{slice_split}
use Rattle.std.proofs.lemmas.Iterator.Splits.{YieldsList-from_slice_split}
use Rattle.std.proofs.lemmas.Iterator.Consumers.{nth_from_yields_List}
use Rattle.script.proofs.Summing.{ends, lines_are, or_none}
use Rattle.script.proofs.summary.line.Goals as goal

pub returns : goal.returns
returns c =
    let text = c.args.text.now in
    let n = nth_from_yields_List c.nth.result _ c.args.number c.nth.ensures.ran (YieldsList-from_slice_split _ ends text c.split.ensures.rest c.split.ensures.done c.split.ensures.closure (λ x b q k. search (rules, tests))) in
    ap (λ (l : Bor (List ℕ)). l.now) c.unwrap_or.ensures ∙ (or_none c.nth.result _ (slice_split ends text) c.args.number refl n ∙ sym (lines_are text c.args.number))
