-- The fields that are left of a line.
use Rattle.std.specs.Prelude.{ℕ, List, [], Some, None, Option}
use denote.Ref.{Bor}
use Rattle.model.specs.Fields.{pieces}
use Rattle.script.specs.declared.pieces.Fields.{Fields}

abbrev pub pieces_of : Option (Bor (List ℕ)) → List (List ℕ)
pieces_of None = []
pieces_of (Some bs) = pieces 9 bs.now

abbrev pub fields_left : Fields → List (List ℕ)
fields_left f = pieces_of f.rest
