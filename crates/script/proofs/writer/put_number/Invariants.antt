use Rattle.std.proofs.Common.{◌≡◌, ◌+◌, ◌≤◌, ◌++◌, length, drop, decimal}
use Rattle.script.proofs.writer.put_number.Given as goal

-- the digits that are taken stand behind those of what is left, which has room before them
abbrev pub invariant-loop-left : goal.invariant-loop-left
invariant-loop-left g l = record {
  text : decimal l.n ≡ decimal l.left ++ drop (l.first + 1) l.digits;
  room : length (decimal l.left) ≤ l.first + 1;
  before : l.first ≤ 9;
  long : length l.digits ≡ 10;
}

abbrev pub decreases-loop-left : goal.decreases-loop-left
decreases-loop-left g l = l.left
