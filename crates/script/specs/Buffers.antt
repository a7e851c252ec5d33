-- Writing into a buffer.
use Rattle.std.specs.Prelude.{ℕ, ◌+◌, cond, List, [], ◌∷◌, ◌++◌, length, take, drop, Some, None, decimal, Option}
use Rattle.model.specs.declared.nodes.Name.{Name}
use Rattle.model.specs.declared.kinds.Role.{Role}
use Rattle.model.specs.Kinds.{role_named}
use Rattle.model.specs.Fields.{write_name}

-- a buffer with s written over it from a place on
abbrev pub pasted : List ℕ → ℕ → List ℕ → List ℕ
pasted d at s = take at d ++ (s ++ drop (at + length s) d)

-- a tab and the name, where there is one
abbrev pub name_text : Role → Name → List ℕ
name_text r a = cond (role_named r) (9 ∷ write_name a) []

-- a tab and the number, where there is one
abbrev pub number_text : Option ℕ → ℕ → List ℕ
number_text None n = []
number_text (Some most) n = 9 ∷ decimal n
