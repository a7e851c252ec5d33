use Rattle.std.proofs.Common.{length, ap, ◌∙◌, arith, length-set}
use Rattle.repair.proofs.Rows.{noted}
use Rattle.repair.proofs.Uses.{shows_noted, shows_left_out, shows_all}
use Rattle.repair.proofs.marks.note_marks.Goals as goal
use Rattle.repair.proofs.marks.note_marks.Goals.{then-is_of_stem+then-mark-lt-NOTED, else-is_of_stem}

pub loop-entry-preserved : goal.loop-entry-preserved
loop-entry-preserved c =
    elim c.if-is_of_stem.branch [
      | then-is_of_stem+then-mark-lt-NOTED w ↦
          shows_noted c.loop-entry.words _ c.args.name.now c.args.program.now c.loop-entry.entry-index _ _ c.loop-entry-test.true c.loop-entry.invariant c.is_of_stem.ensures w.if-is_of_stem.true (noted c.loop-entry.words _ _ (omega (arith, w.if-mark-lt-NOTED.true, w.note_mark.array_long, simp length-set at (ap length w.note_mark.ensures))) (w.words-is ∙ w.note_mark.ensures))
      | else-is_of_stem w ↦
          shows_left_out c.loop-entry.words _ c.args.name.now c.args.program.now c.loop-entry.entry-index _ _ c.loop-entry-test.true c.loop-entry.invariant c.is_of_stem.ensures w.words-is w.else-is_of_stem.either
    ]

pub returns : goal.returns
returns c = shows_all c.loop-entry.words c.args.name.now c.args.program.now c.loop-entry.entry-index c.loop-entry-test.false c.loop-entry.invariant
