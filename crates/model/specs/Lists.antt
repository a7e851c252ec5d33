-- A few words on lists, options and results.
use Rattle.std.specs.Prelude.{ℕ, zero, suc, ◌+◌, Bool, true, false, cond, ◌&&◌, ◌||◌, List, [], ◌∷◌, ◌++◌, length, Some, None, Ok, Err, Option, Result, nat_le}

-- those that pass the test
abbrev pub keep : {A : Type 0} → (A → Bool) → List A → List A
keep t [] = []
keep t (x ∷ xs) = let more = keep t xs in cond (t x) (x ∷ more) more

-- one at least passes the test
abbrev pub any : {A : Type 0} → (A → Bool) → List A → Bool
any t [] = false
any t (x ∷ xs) = t x || any t xs

-- the first that passes the test
abbrev pub first_with : {A : Type 0} → (A → Bool) → List A → Option A
first_with t [] = None
first_with t (x ∷ xs) = let more = first_with t xs in cond (t x) (Some x) more

-- how many numbers from a given one on
abbrev pub counting : ℕ → ℕ → List ℕ
counting at zero = []
counting at (suc n) = at ∷ counting (at + 1) n

-- the numbers of the places of a list, from 0
abbrev pub places : {A : Type 0} → List A → List ℕ
places xs = counting 0 (length xs)

abbrev pub concat : {A : Type 0} → List (List A) → List A
concat [] = []
concat (x ∷ xs) = x ++ concat xs

abbrev pub empty : {A : Type 0} → List A → Bool
empty [] = true
empty (x ∷ xs) = false

abbrev pub between : ℕ → ℕ → ℕ → Bool
between low high n = nat_le low n && nat_le n high

abbrev pub or_else : {A : Type 0} → A → Option A → A
or_else d None = d
or_else d (Some x) = x

-- on with the value, or nothing
abbrev pub if_some : {A B : Type 0} → Option A → (A → Option B) → Option B
if_some None f = None
if_some (Some x) f = f x

-- on with the value, or out with the fault
abbrev pub and_then : {A B E : Type 0} → Result A E → (A → Result B E) → Result B E
and_then (Ok x) f = f x
and_then (Err e) f = Err e

-- the fault as the layer above has it
abbrev pub raised : {A E F : Type 0} → (E → F) → Result A E → Result A F
raised f (Ok x) = Ok x
raised f (Err e) = Err (f e)

-- the first, or else the second
abbrev pub or_next : {A : Type 0} → Option A → Option A → Option A
or_next None p = p
or_next (Some x) p = Some x

abbrev pub is_none : {A : Type 0} → Option A → Bool
is_none None = true
is_none (Some x) = false
