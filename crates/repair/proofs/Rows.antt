-- Marks as bits of a row of words.
use Rattle.std.proofs.Common.{◌≡◌, ℕ, ◌+◌, ◌-◌, ◌*◌, ◌/◌, ◌%◌, ◌^◌, ◌<◌, ◌≤◌, Bool, true, false, not, ◌||◌, eqb, List, length, get_or, set, Some, None, sym, refl, ap, ap₂, ◌∙◌, subst, ⊎_elim, w64, arith}
use mathlib.Core.Bool.{or-false}
use Rattle.std.specs.Int.RustNames.{bit_or}
use Rattle.std.specs.Int.{from_bool, trailing_ones}
use Rattle.std.proofs.lemmas.Nat.{or_lt}
use Rattle.std.proofs.lemmas.List.{get_or-set_same, get_or-set_other}
use Rattle.std.proofs.lemmas.Bool.{cases_eq, cases_lt, eq-eqb, ne_eqb, eqb-true, eqb-false, not_from_true, not_from_false, or_cases, or_parts}
use Rattle.model.specs.MarkRow.{bit_at}
use Rattle.repair.specs.Marks.{lowest_free}
use Rattle.repair.proofs.Bits.{bit, bit_or_lem, bit_of_zero, bit_of_pow, Lowest, lowest}
use Rattle.repair.proofs.Firsts.{first_found, none_found}

in_word : (ws : List ℕ) (m : ℕ) → bit_at ws m ≡ bit (get_or ws (m / 64) 0) (m % 64)
unfolding bit
in_word ws m = refl

-- the bit j of the word i
placed : (ws : List ℕ) (i j : ℕ) → j < 64 → bit_at ws (i * 64 + j) ≡ bit (get_or ws i 0) j
placed ws i j l =
    let p : (i * 64 + j) / 64 ≡ i = omega arith in
    let q : (i * 64 + j) % 64 ≡ j = omega arith in
    in_word ws (i * 64 + j) ∙ (ap (λ (a : ℕ). bit (get_or ws a 0) ((i * 64 + j) % 64)) p ∙ ap (bit (get_or ws i 0)) q)

-- one mark more is noted, and no other
abbrev pub Notes : List ℕ → ℕ → List ℕ → Type 0
Notes ws m vs = (k : ℕ) → bit_at vs k ≡ (bit_at ws k || eqb k m)

-- in the same word the bits tell marks apart
same_word : (m k : ℕ) → m / 64 ≡ k / 64 → bit (2 ^ (m % 64)) (k % 64) ≡ eqb k m
same_word m k s =
    bit_of_pow (m % 64) (k % 64)
    ∙ ⊎_elim
    (λ (e : k ≡ m). eq-eqb (m % 64) (k % 64) (omega arith) ∙ sym (eq-eqb k m e))
    (λ (e : k ≡ m → ⊥). ne_eqb (m % 64) (k % 64) (λ r. e (omega arith)) ∙ sym (ne_eqb k m e))
    (cases_eq k m)

pub noted : (ws vs : List ℕ) (m : ℕ) → m / 64 < length ws → vs ≡ set ws (m / 64) (bit_or (get_or ws (m / 64) 0) (2 ^ (m % 64))) → Notes ws m vs
noted ws vs m inside e k =
    ⊎_elim
    (λ (s : m / 64 ≡ k / 64).
    let word = get_or-set_same ws (m / 64) (bit_or (get_or ws (m / 64) 0) (2 ^ (m % 64))) 0 inside in
    let here : get_or vs (k / 64) 0 ≡ bit_or (get_or ws (k / 64) 0) (2 ^ (m % 64)) = ap (λ (l : List ℕ). get_or l (k / 64) 0) e ∙ subst (λ (q : ℕ). get_or (set ws (m / 64) (bit_or (get_or ws (m / 64) 0) (2 ^ (m % 64)))) q 0 ≡ bit_or (get_or ws q 0) (2 ^ (m % 64))) s word in
    in_word vs k
    ∙ (ap (λ (w : ℕ). bit w (k % 64)) here
    ∙ (bit_or_lem (get_or ws (k / 64) 0) (2 ^ (m % 64)) (k % 64)
    ∙ (ap (λ (b : Bool). bit (get_or ws (k / 64) 0) (k % 64) || b) (same_word m k s) ∙ ap (λ (b : Bool). b || eqb k m) (sym (in_word ws k))))))
    (λ (s : m / 64 ≡ k / 64 → ⊥).
    let other : get_or vs (k / 64) 0 ≡ get_or ws (k / 64) 0 = ap (λ (l : List ℕ). get_or l (k / 64) 0) e ∙ get_or-set_other ws (m / 64) (k / 64) _ 0 (λ r. s (sym r)) in
    in_word vs k
    ∙ (ap (λ (w : ℕ). bit w (k % 64)) other
    ∙ (sym (in_word ws k)
    ∙ (sym (or-false (bit_at ws k)) ∙ ap (λ (b : Bool). bit_at ws k || b) (sym (ne_eqb k m (λ r. s (ap (λ (n : ℕ). n / 64) (sym r)))))))))
    (cases_eq (m / 64) (k / 64))

-- mark 0 regarded as noted
abbrev pub taken : List ℕ → ℕ → Bool
taken ws m = bit_at ws m || eqb 0 m

-- a word of the row, read so
abbrev pub with_plain : List ℕ → ℕ → ℕ
with_plain ws i = bit_or (get_or ws i 0) (from_bool (eqb i 0))

plain_bit : (i j : ℕ) → j < 64 → bit (from_bool (eqb i 0)) j ≡ eqb 0 (i * 64 + j)
plain_bit i j l =
    ⊎_elim
    (λ (s : i ≡ 0). ap (λ (b : Bool). bit (from_bool b) j) (eq-eqb i 0 s) ∙ (bit_of_pow 0 j ∙ ap (eqb 0) (omega arith)))
    (λ (s : i ≡ 0 → ⊥). ap (λ (b : Bool). bit (from_bool b) j) (ne_eqb i 0 s) ∙ (bit_of_zero j ∙ sym (ne_eqb 0 (i * 64 + j) (λ r. omega arith))))
    (cases_eq i 0)

with_plain_bit : (ws : List ℕ) (i j : ℕ) → j < 64 → bit (with_plain ws i) j ≡ taken ws (i * 64 + j)
with_plain_bit ws i j l =
    bit_or_lem (get_or ws i 0) (from_bool (eqb i 0)) j ∙ ap₂ (λ (a b : Bool). a || b) (sym (placed ws i j l)) (plain_bit i j l)

-- the lowest clear bit of a word, read so
pub lowest_plain : (ws : List ℕ) (i f t : ℕ) → get_or ws i 0 < 2 ^ 64 → f ≡ from_bool (eqb i 0) → t ≡ trailing_ones w64 (bit_or (get_or ws i 0) f) → Lowest (with_plain ws i) t
lowest_plain ws i f t small is e = rw (e, is) (lowest (with_plain ws i) (or_lt 64 _ _ small (first_bit (eqb i 0))))
  where
    first_bit : (b : Bool) → from_bool b < 2 ^ 64
    first_bit true = omega arith
    first_bit false = omega arith

-- A search through the words

abbrev pub AllTaken : List ℕ → ℕ → Type 0
AllTaken ws n = (m : ℕ) → m < n → taken ws m ≡ true

pub taken_more : (ws : List ℕ) (i t : ℕ) → Lowest (with_plain ws i) t → AllTaken ws (64 * i) → AllTaken ws (i * 64 + t)
taken_more ws i t low all m l =
    let w = low.within in
    ⊎_elim (all m)
    (λ (h : 64 * i ≤ m).
    let e : i * 64 + (m - 64 * i) ≡ m = omega arith in
    ap (taken ws) (sym e) ∙ (sym (with_plain_bit ws i (m - 64 * i) (omega arith)) ∙ low.set_below (m - 64 * i) (omega arith)))
    (cases_lt m (64 * i))

is_noted : (ws : List ℕ) (m : ℕ) → 1 ≤ m → taken ws m ≡ true → not (bit_at ws m) ≡ false
is_noted ws m l h =
    ⊎_elim (not_from_true (bit_at ws m)) (λ z. let e = eqb-true 0 m z in absurd (omega arith)) (or_cases (bit_at ws m) (eqb 0 m) h)

pub clear_found : (ws : List ℕ) (i t : ℕ) → i < 16 → t < 64 → Lowest (with_plain ws i) t → AllTaken ws (64 * i) → Some (i * 64 + t) ≡ lowest_free ws
unfolding lowest_free
clear_found ws i t h l low all =
    let k = i * 64 + t in
    let free = or_parts (bit_at ws k) (eqb 0 k) (sym (with_plain_bit ws i t l) ∙ low.clear l) in
    let some : 1 ≤ k = let ne = eqb-false 0 k free.1 in omega arith in
    sym (first_found (λ m. not (bit_at ws m)) 1 1023 k some (omega arith) (not_from_false (bit_at ws k) free.0) (λ m p q. is_noted ws m p (taken_more ws i t low all m q)))

pub none_clear : (ws : List ℕ) → AllTaken ws 1024 → None ≡ lowest_free ws
unfolding lowest_free
none_clear ws all = sym (none_found (λ m. not (bit_at ws m)) 1 1023 (λ m p q. is_noted ws m p (all m q)))
