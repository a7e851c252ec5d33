-- What stays of a draft while it is repaired.
use Rattle.std.specs.Prelude.{◌≡◌}
use Rattle.repair.specs.declared.rounds.UnderRepair.{UnderRepair}

-- the same rows are lent, and the classes are the same
abbrev pub SameRows : UnderRepair → UnderRepair → Type 0
SameRows d e = (e.entries.ghost_name ≡ d.entries.ghost_name) × (e.classes ≡ d.classes) × (e.words.ghost_name ≡ d.words.ghost_name)
