-- A number's field: what is written is read, and what is read is what would be written.
use Rattle.std.proofs.Common.{◌≡◌, ℕ, ◌^◌, ◌<◌, ◌≤◌, true, ◌&&◌, eqb, leb, ◌⊎◌, List, [], ◌∷◌, length, get_or, Some, decimal, sym, refl, ap, ◌∙◌, inl, inr, ⊎_elim, arith, rules}
use Rattle.std.specs.Str.{all_ascii_digits}
use Rattle.std.proofs.lemmas.Fmt.{digits_decimal, digits_value-decimal, decimal_digit, decimal-digits_value, first_decimal, decimal_nonempty}
use Rattle.std.proofs.lemmas.Str.Parse.{IsNumeralModel, tells_all_ascii_digits, numerals_by_fold}
use Rattle.std.proofs.lemmas.Bool.{cases_lt, cond-true, and_parts, and_from, or_cases, or_left, le-leb, leb-true, ne_eqb, eqb-false, not-true, not_from_false}
use Rattle.std.proofs.lemmas.Option.{cond_some}
use Rattle.model.specs.Fields.{value_from, decimal_form, number_field}
use Rattle.laws.proofs.Pieces.{Over}

pub own : IsNumeralModel (λ ds. all_ascii_digits ds ≡ true) (value_from 0)
own = numerals_by_fold _ tells_all_ascii_digits value_from (search rules)

pub over_digits : (ds : List ℕ) → all_ascii_digits ds ≡ true → Over 48 ds
over_digits [] h = tt
over_digits (c ∷ cs) h = let p = tells_all_ascii_digits.parts c cs h in (p.0.0, over_digits cs p.1)

pub over_decimal : (n : ℕ) → n < 2 ^ 64 → Over 48 (decimal n)
over_decimal n h = over_digits (decimal n) (digits_decimal own n h)

-- no zero before another digit
form_of : (ds : List ℕ) → all_ascii_digits ds ≡ true → 0 < length ds → (48 < get_or ds 0 0) ⊎ (ds ≡ 48 ∷ []) → decimal_form ds ≡ true
form_of [] h l w = absurd (omega arith)
form_of (c ∷ cs) h l (inl k) = and_from (all_ascii_digits (c ∷ cs)) _ h (or_left _ _ (not_from_false (eqb c 48) (ne_eqb c 48 (λ e. omega arith))))
form_of (c ∷ cs) h l (inr e) = ap decimal_form e

zero_is : (n : ℕ) → n < 1 → n ≡ 0
zero_is n h = omega arith

pub form_decimal : (n : ℕ) → n < 2 ^ 64 → decimal_form (decimal n) ≡ true
form_decimal n h =
    form_of (decimal n) (digits_decimal own n h) (decimal_nonempty n h)
    (⊎_elim (λ z. inr (ap decimal (zero_is n z) ∙ decimal_digit 0 (omega arith))) (λ p. inl (first_decimal n (omega arith) h)) (cases_lt n 1))

-- a number that is written is read
pub number_written : (most n : ℕ) → n ≤ most → n < 2 ^ 64 → number_field most (decimal n) ≡ Some n
number_written most n l h =
    let v = digits_value-decimal own n h in
    cond-true _ _ _ (and_from _ _ (form_decimal n h) (ap (λ (k : ℕ). leb k most) v ∙ le-leb n most l)) ∙ ap Some v

first_zero : (ds : List ℕ) → decimal_form ds ≡ true → get_or ds 0 0 ≡ 48 → length ds ≡ 1
first_zero [] h e = omega arith
first_zero (c ∷ []) h e = refl
first_zero (c ∷ d ∷ ds) h e =
    ⊎_elim
    (λ k. absurd (eqb-false c 48 (not-true (eqb c 48) k) e))
    (λ k. let z : ◌≡◌ {A = ℕ} 0 1 = cc in omega arith)
    (or_cases _ _ (and_parts (all_ascii_digits (c ∷ d ∷ ds)) _ h).1)

some_digit : (ds : List ℕ) → decimal_form ds ≡ true → (0 < length ds) × (all_ascii_digits ds ≡ true)
some_digit [] h = let z : ◌≡◌ {A = ℕ} 0 1 = cc in (omega arith, refl)
some_digit (c ∷ cs) h = (omega arith, (and_parts (all_ascii_digits (c ∷ cs)) _ h).0)

-- a number that is read was written so
pub number_read : (most n : ℕ) (f : List ℕ) → most < 2 ^ 64 → number_field most f ≡ Some n → (f ≡ decimal n) × (n ≤ most)
number_read most n f m h =
    let k = cond_some (decimal_form f && leb (value_from 0 f) most) (value_from 0 f) n h in
    let p = and_parts (decimal_form f) (leb (value_from 0 f) most) k.0 in
    let v : value_from 0 f ≤ most = leb-true (value_from 0 f) most p.1 in
    let e : value_from 0 f ≡ n = k.1 in
    let d = some_digit f p.0 in
    (sym (decimal-digits_value own f d.1 d.0 (first_zero f p.0) (omega arith)) ∙ ap decimal e, omega arith)
