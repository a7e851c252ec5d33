use Rattle.std.proofs.Common.{◌≡◌, ◌≤◌, drop}
use Rattle.model.specs.Fields.{value_from}
use Rattle.script.proofs.fields.value_of.Given as goal

abbrev pub invariant-loop-b : goal.invariant-loop-b
invariant-loop-b l = (l.n ≤ l.most) × (value_from l.n (drop l.b-index l.digits) ≡ value_from 0 l.digits)
