use Rattle.std.proofs.Common.{◌≡◌, ◌≤◌, ℕ, List, length, Ok, Result, sym, ap, ◌∙◌, rules, arith}
use Rattle.model.specs.declared.faults.TextFault.{TextFault}
use Rattle.model.specs.Writing.{write_lines, measured, buffer_after}
use Rattle.model.specs.Fields.{plain}
use Rattle.script.proofs.Writes.{write_many, write_short, write_fits, front_pasted, written_back}
use Rattle.script.proofs.writer.write.Goals.{then-buffer-program+else-needed-buffer, else-buffer-program}
use Rattle.script.proofs.writer.write.Goals as goal

pub returns-then-program-gt-MOST_NODES : goal.returns-then-program-gt-MOST_NODES
returns-then-program-gt-MOST_NODES c =
    let e = sym (write_many c.args.program.now (length c.args.buffer.now) c.if-program-gt-MOST_NODES.true) in
    record { value = ap measured e; after = ap (λ (w : Result (List ℕ) TextFault). buffer_after w c.args.buffer.now) e; back = tt; within = tt }

pub returns-then-needed-buffer : goal.returns-then-needed-buffer
returns-then-needed-buffer c =
    let e = sym (write_short c.args.program.now (length c.args.buffer.now) c.text_length-needed.result c.if-program-gt-MOST_NODES.false c.text_length-needed.ensures c.if-needed-buffer.true) in
    record { value = ap measured e; after = ap (λ (w : Result (List ℕ) TextFault). buffer_after w c.args.buffer.now) e; back = tt; within = tt }

pub put_lines-requires : goal.put_lines-requires
put_lines-requires c =
    elim c.if-buffer-program.branch [
      | then-buffer-program+else-needed-buffer w ↦ omega (arith, w.text_length-needed.ensures, w.if-needed-buffer.false)
      | else-buffer-program w ↦ omega (arith, w.if-buffer-program.false)
    ]

pub returns : goal.returns
returns c =
    let d = c.args.buffer.now in
    let put = c.put_lines.ensures.put in
    let end : c.put_lines.new.out.end ≡ length (write_lines plain c.args.program.now) = omega (arith, put.end) in
    let fits : length (write_lines plain c.args.program.now) ≤ length d = elim c.if-buffer-program.branch [
      | then-buffer-program+else-needed-buffer w ↦ omega (arith, w.text_length-needed.ensures, w.if-needed-buffer.false)
      | else-buffer-program w ↦ omega (arith, w.if-buffer-program.false, c.put_lines.ensures.short)
    ] in
    let e = sym (write_fits c.args.program.now (length d) c.if-program-gt-MOST_NODES.false fits) in
    let same = sym put.same in
    record {
      value = ap {B = Result ℕ TextFault} Ok end ∙ ap measured e;
      after = (search rules) ∙ (put.bytes ∙ (front_pasted _ d ∙ ap (λ (w : Result (List ℕ) TextFault). buffer_after w d) e));
      back = written_back c.args.program.now d _ c.put_lines.new.out.end end ((search rules) ∙ put.bytes);
      within = search rules;
    }
