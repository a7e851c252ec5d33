use Rattle.std.proofs.Common.{◌≡◌, ◌+◌, ◌≤◌, ◌-◌, ◌++◌, length, drop}
use Rattle.script.proofs.pending.Pending.push_all.Given as goal

abbrev pub invariant-loop-sort : goal.invariant-loop-sort
invariant-loop-sort l =
    (length l.yielded ≤ length l.sorts) × (l.self.height ≡ l.initial.self.height + length l.yielded)
    × (l.self.sorts ≡ drop (length l.sorts - length l.yielded) l.sorts ++ l.initial.self.sorts)
