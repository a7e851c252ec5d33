use Rattle.std.proofs.Common.{List, ◌∷◌, refl, ap, ◌∙◌, rules}
use Rattle.model.specs.declared.kinds.Sort.{Sort}
use Rattle.script.proofs.Stacks.{top_set, none_come}
use Rattle.script.proofs.pending.Pending.for_root.Goals as goal

pub returns-clause-sorts : goal.returns-clause-sorts
returns-clause-sorts c =
    top_set c.args.runs.now 0 (record { sort = Sort.Root; left = 1 }) (search rules) ∙ ap (λ (l : List Sort). Sort.Root ∷ l) (none_come c.args.runs.now 0 refl)
