use Rattle.std.proofs.Common.{◌≤◌, ◌*◌, length, take}
use Rattle.model.specs.Fields.{plain}
use Rattle.model.specs.Writing.{write_lines}
use Rattle.script.proofs.writer.put_lines.Given as goal

abbrev pub invariant-loop-entry : goal.invariant-loop-entry
invariant-loop-entry g l = (g.S.Sink.grown l.initial.out (write_lines plain (take l.entry-index l.entries)) l.out) × (length (write_lines plain (take l.entry-index l.entries)) ≤ 32 * l.entry-index)
