-- The sorts still to come, as a stack of runs: its last run comes first.
use Rattle.std.specs.Prelude.{◌≡◌, ℕ, ◌+◌, ◌<◌, ◌≤◌, List, length, slice_index_or, [], ◌∷◌, ◌++◌, take, replicate, Some, None, Option}
use Rattle.model.specs.declared.kinds.Sort.{Sort}
use Rattle.script.specs.declared.pending.Run.{Run}

abbrev pub run_of : Run → List Sort
run_of r = replicate r.left r.sort

unfoldable pub stacked : List Sort → List Run → List Sort
stacked acc [] = acc
stacked acc (r ∷ rs) = stacked (run_of r ++ acc) rs

-- what a stack of that height says
abbrev pub to_come : List Run → ℕ → List Sort
to_come runs top = stacked [] (take top runs)

-- what a stack has still to come, and how many runs it is of
pub record Coming : Type 0 where
  pub sorts : List Sort
  pub height : ℕ

-- the first of a list taken, if there is one
abbrev pub Taken : {A : Type 0} → List A → Option A → List A → Type 0
Taken xs None ys = (xs ≡ []) × (ys ≡ [])
Taken xs (Some x) ys = xs ≡ x ∷ ys

-- a place after which all runs are used up, or none that is not
abbrev pub AllUsed : List Run → ℕ → Type 0
AllUsed runs i = (k : ℕ) (d : Run) → i ≤ k → k < length runs → (slice_index_or runs k d).left ≡ 0

abbrev pub IsLastLeft : List Run → Option ℕ → Type 0
IsLastLeft runs None = AllUsed runs 0
IsLastLeft runs (Some i) = (i < length runs) × ((d : Run) → 0 < (slice_index_or runs i d).left) × AllUsed runs (i + 1)
