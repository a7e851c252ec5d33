-- Fields of a line by their places.
use Rattle.std.specs.Prelude.{ℕ, suc, cond, List, [], ◌∷◌, Some, None, Option, ◌==◌, nat_le}
use Rattle.model.specs.Names.{padded}
use Rattle.model.specs.Fields.{stem_form}

-- how many bytes stand before the first that is the separator
abbrev pub before : ℕ → List ℕ → ℕ
before s [] = 0
before s (b ∷ bs) = cond (b == s) 0 (suc (before s bs))

-- the value, if it is at most the limit
abbrev pub at_most : ℕ → ℕ → Option ℕ
at_most most n = cond (nat_le n most) (Some n) None

-- a stem as a name holds it
abbrev pub stem_of : List ℕ → Option (List ℕ)
stem_of s = cond (stem_form s) (Some (padded s)) None
