-- The mark row: marks in use as bits of 64-bit words, mark 0 lowest in the first.
use Rattle.std.specs.Prelude.{◌≡◌, ℕ, ◌/◌, ◌%◌, ◌^◌, ◌<◌, Bool, not, List, replicate, Option, ◌==◌, nat_eq, slice_index}
use Rattle.model.specs.Lists.{any, first_with, counting}

abbrev pub bit_at : List ℕ → ℕ → Bool
bit_at row m = slice_index row (m / 64) / 2 ^ (m % 64) % 2 == 1

-- the first sixteen words show the marks in use, up to 1,023
abbrev pub Shows : List ℕ → List ℕ → Type 0
Shows row used = (m : ℕ) → m < 1024 → bit_at row m ≡ any (nat_eq m) used

-- the lowest clear bit above bit 0
abbrev pub lowest_clear : List ℕ → Option ℕ
lowest_clear row = first_with (λ m. not (bit_at row m)) (counting 1 1023)

abbrev pub zero_row : ℕ → List ℕ
zero_row words = replicate words 0
