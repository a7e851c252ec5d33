use Rattle.std.proofs.Common.{◌≡◌, ◌+◌, length, take, Option, sym, refl, ap, ◌∙◌, subst, arith, length-take-le}
use Rattle.model.specs.declared.kinds.Sort.{Sort}
use Rattle.std.proofs.lemmas.List.{get_or-take}
use Rattle.script.specs.declared.pending.Run.{Run}
use Rattle.script.specs.Runs.{Coming, Taken}
use Rattle.script.proofs.Stacks.{all_used, none_come, one_used}
use Rattle.script.proofs.pending.Pending.take.Goals as goal

pub returns-in_err-top-clause-sorts : goal.returns-in_err-top-clause-sorts
returns-in_err-top-clause-sorts c =
    let v = c.self.inside in
    let none = sym (ap (λ (x : Coming). x.sorts) c.self.view_is) ∙ (sym (all_used v.runs.now 0 v.height (omega arith) (omega (arith, c.self.invariant)) c.in_err-top.ensures) ∙ none_come v.runs.now 0 refl) in
    subst (λ (o : Option Sort). Taken c.args.self.now.sorts o c.args.self.now.sorts) (sym c.from_residual.ensures) (none, none)

pub returns-clause-sorts : goal.returns-clause-sorts
returns-clause-sorts c =
    let v = c.self.inside in
    let top = c.in_ok-top.top in
    let left = c.in_ok-top.ensures in
    let long : length (take v.height v.runs.now) ≡ v.height = length-take-le v.height v.runs.now (omega (arith, c.self.invariant)) in
    let d : Run = record { sort = Sort.Root; left = 0 } in
    let e = ap (λ (x : Run). x.left) (get_or-take v.height v.runs.now top d (omega (arith, left.0, long))) in
    sym (ap (λ (x : Coming). x.sorts) c.self.view_is)
    ∙ (sym (all_used v.runs.now (top + 1) v.height (omega (arith, left.0, long)) (omega (arith, c.self.invariant)) left.2)
    ∙ one_used v.runs.now top (top + 1) d refl (omega (arith, left.0, long, c.self.invariant)) _ (omega (arith, e, left.1 d)))
