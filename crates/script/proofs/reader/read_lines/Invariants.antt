use Rattle.std.proofs.Common.{◌≡◌, ◌+◌, ◌*◌, ◌≤◌, [], ◌∷◌, length, take, drop, None}
use Rattle.model.specs.declared.kinds.Sort.TheVariants.{Root}
use Rattle.model.specs.Reading.{lines}
use Rattle.script.specs.Forms.{form_of}
use Rattle.script.specs.Reads.{rest_read, with_front}
use Rattle.script.proofs.reader.read_lines.Given as goal

abbrev pub invariant-loop-rest : goal.invariant-loop-rest
invariant-loop-rest g l =
    (l.count ≤ 1024) × (l.pending.height ≤ 3 * l.count + 1)
    × (drop l.count l.row ≡ drop l.count l.initial.row)
    × (rest_read g.G.Grammar.grammar (form_of l.form) None (Root ∷ []) 0 (lines l.text)
    ≡ with_front (take l.count l.row) (rest_read g.G.Grammar.grammar (form_of l.form) l.root l.pending.sorts l.count (lines l.rest)))

abbrev pub decreases-loop-rest : goal.decreases-loop-rest
decreases-loop-rest g l = length l.rest
