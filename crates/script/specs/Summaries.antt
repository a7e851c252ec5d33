-- Nodes by kind, and lines by number.
use Rattle.std.specs.Prelude.{false, List, []}
use Rattle.model.specs.declared.kinds.Kind.{Kind}
use Rattle.model.specs.declared.nodes.Entry.{Entry}
use Rattle.model.specs.Lists.{keep}
use Rattle.model.specs.Kinds.{is}
use Rattle.model.specs.Reading.{TextLine}

abbrev pub of_kind : Kind → List Entry → List Entry
of_kind k es = keep (λ e. is k e.node.kind) es

-- what stands for a line where there is none
abbrev pub no_line : TextLine
no_line = record { bytes = []; ended = false }
