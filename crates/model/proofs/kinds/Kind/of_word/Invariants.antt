use Rattle.std.proofs.Common.{◌≡◌}
use Rattle.model.specs.Fields.{kind_of}
use Rattle.model.proofs.TableRows.{kind_from}
use Rattle.model.proofs.kinds.Kind.of_word.Given as goal

abbrev pub invariant-loop-row : goal.invariant-loop-row
invariant-loop-row l = kind_from l.word l.row-index ≡ kind_of l.word
