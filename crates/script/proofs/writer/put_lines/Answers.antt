use Rattle.std.proofs.Common.{ℕ, ◌+◌, ◌*◌, ◌<◌, ◌≤◌, min, List, length, get_or, take, ap, arith, length-append}
use Rattle.model.specs.declared.nodes.Entry.{Entry}
use Rattle.model.specs.Fields.{plain}
use Rattle.model.specs.Writing.{write_line, write_lines}
use Rattle.script.proofs.LineTexts.{front_more, front_short}
use Rattle.script.proofs.Sinks.{some_room, some_left, both_put}
use Rattle.script.proofs.writer.put_lines.Goals as goal

short_more : (p : List Entry) (i : ℕ) (d : Entry) → i < length p → length (write_line plain (get_or p i d)) ≤ 32 → length (write_lines plain (take i p)) ≤ 32 * i → length (write_lines plain (take (i + 1) p)) ≤ 32 * (i + 1)
short_more p i d h l s = omega (arith, ap length (front_more p i d h), length-append (write_lines plain (take i p)) (write_line plain (get_or p i d)), l, s)

line_within : (p : List Entry) (i : ℕ) (d : Entry) → i < length p → length (write_lines plain (take i p)) + min (length (write_line plain (get_or p i d))) 32 ≤ length (write_lines plain p)
line_within p i d h =
    omega (arith, ap length (front_more p i d h), length-append (write_lines plain (take i p)) (write_line plain (get_or p i d)), front_short p (i + 1))

pub put_line-requires : goal.put_line-requires
put_line-requires g c =
    let p = c.args.entries.now in
    let i = c.loop-entry.entry-index in
    let h = c.loop-entry-test.true in
    some_left g.S.Sink.laws _ _ _ c.requires _ (write_lines plain (take i p)) _ (line_within p i _ h) (omega (arith, h, c.loop-entry.invariant.1)) c.loop-entry.invariant.0

pub loop-entry-preserved : goal.loop-entry-preserved
loop-entry-preserved g c =
    let p = c.args.entries.now in
    let i = c.loop-entry.entry-index in
    let h = c.loop-entry-test.true in
    let more = short_more p i _ h c.put_line.ensures.short c.loop-entry.invariant.1 in
    let room = some_room g.S.Sink.laws _ _ _ c.requires _ (front_short p (i + 1)) (omega (arith, h, more)) in
    (both_put g.S.Sink.laws _ _ _ _ (front_more p i _ h) room _ _ c.loop-entry.invariant.0 c.put_line.ensures.put, more)
