-- Single bits of a number, and the first of them that is clear.
use Rattle.std.proofs.Common.{◌≡◌, ℕ, zero, suc, ◌+◌, ◌-◌, ◌^◌, ◌<◌, ◌≤◌, max, Bool, true, false, ◌||◌, eqb, refl, ap, ◌∙◌, ⊎_elim, sym, w64, arith}
use Rattle.std.specs.Int.{bit_at, trailing_ones}
use Rattle.std.specs.Int.RustNames.{bit_or}
use lib.Count.{count_trailing_zeros}
use Rattle.std.proofs.lemmas.Nat.Bits.{bit_at_or, bit_at-zero, bit_at-pow_same, bit_at-pow_other, bit_at-lt, bit_at_ones, bit_at-trailing_ones}
use Rattle.std.proofs.lemmas.Bool.{cases_eq, cases_lt, eq-eqb, ne_eqb}

-- whether the bit j of n is set
unfoldable pub bit : ℕ → ℕ → Bool
bit n j = eqb (bit_at n j) 1

digit_or : (x y : ℕ) → x < 2 → y < 2 → eqb (max x y) 1 ≡ (eqb x 1 || eqb y 1)
digit_or zero zero p q = refl
digit_or zero (suc zero) p q = refl
digit_or (suc zero) zero p q = refl
digit_or (suc zero) (suc zero) p q = refl
digit_or zero (suc (suc y)) p q = absurd (omega arith)
digit_or (suc zero) (suc (suc y)) p q = absurd (omega arith)
digit_or (suc (suc x)) y p q = absurd (omega arith)

pub bit_or_lem : (a b j : ℕ) → bit (bit_or a b) j ≡ (bit a j || bit b j)
unfolding bit
bit_or_lem a b j = ap (λ (m : ℕ). eqb m 1) (bit_at_or a b j) ∙ digit_or (bit_at a j) (bit_at b j) (bit_at-lt a j) (bit_at-lt b j)

pub bit_of_zero : (j : ℕ) → bit 0 j ≡ false
unfolding bit
bit_of_zero j = ap (λ (m : ℕ). eqb m 1) (bit_at-zero j)

pub bit_of_pow : (i j : ℕ) → bit (2 ^ i) j ≡ eqb i j
unfolding bit
bit_of_pow i j =
    ⊎_elim
    (λ (e : j ≡ i). ap (λ (k : ℕ). eqb (bit_at (2 ^ i) k) 1) e ∙ (ap (λ (m : ℕ). eqb m 1) (bit_at-pow_same i) ∙ sym (eq-eqb i j (sym e))))
    (λ (n : j ≡ i → ⊥). ap (λ (m : ℕ). eqb m 1) (bit_at-pow_other i j n) ∙ sym (ne_eqb i j (λ e. n (sym e))))
    (cases_eq j i)

-- t is the lowest bit of the word n that is clear, and 64 if all are set
pub record Lowest (n t : ℕ) : Type 0 where
  pub within : t ≤ 64
  pub clear : t < 64 → bit n t ≡ false
  pub set_below : (j : ℕ) → j < t → bit n j ≡ true

all_set : Lowest (2 ^ 64 - 1) 64
unfolding bit
all_set = record {
  within = omega arith;
  clear = λ l. absurd (omega arith);
  set_below = λ j l. eq-eqb _ 1 (bit_at_ones 64 j l);
}

pub lowest : (n : ℕ) → n < 2 ^ 64 → Lowest n (trailing_ones w64 n)
unfolding bit count_trailing_zeros
lowest n h =
    ⊎_elim
    (λ (l : n + 1 < 2 ^ 64).
    let f = bit_at-trailing_ones w64 n l in
    record {
      within = omega (arith, f.0);
      clear = λ _. ap (λ (m : ℕ). eqb m 1) f.1;
      set_below = λ j k. eq-eqb _ 1 (f.2 j k);
    })
    (λ (l : 2 ^ 64 ≤ n + 1). let e : n ≡ 2 ^ 64 - 1 = omega arith in rw e all_set)
    (cases_lt (n + 1) (2 ^ 64))
