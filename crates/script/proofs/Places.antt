-- Where a byte first stands, by the search of the library.
use Rattle.std.proofs.Common.{◌≡◌, ℕ, suc, ◌+◌, ◌<◌, ◌≤◌, Bool, true, false, cond, not, ◌&&◌, ◌||◌, eqb, ltb, List, [], ◌∷◌, length, take, Some, None, Option, sym, refl, ap, ◌∙◌, ⊎_elim, arith}
use Rattle.std.specs.Char.{is_ascii_digit}
use Rattle.std.specs.Str.{all_ascii_digits}
use Rattle.std.specs.List.{position, position_or_len, list_all}
use Rattle.std.proofs.lemmas.Bool.{cond-true, cond-false, cases_lt, lt-ltb, le-ltb}
use Rattle.model.specs.Lists.{any}
use Rattle.model.specs.Names.{letters}
use Rattle.script.specs.Cuts.{before}

-- the first place, or the length
before_is : (s : ℕ) (bs : List ℕ) → before s bs ≡ position_or_len (λ b. eqb b s) bs
before_is s [] = refl
before_is s (b ∷ bs) = go (eqb b s) (before_is s bs)
  where
    go : (t : Bool) → before s bs ≡ position_or_len (λ c. eqb c s) bs → cond t 0 (suc (before s bs)) ≡ cond (not t) (1 + position_or_len (λ c. eqb c s) bs) 0
    go true e = refl
    go false e = omega (arith, e)

-- what an answer of the search says
abbrev pub FirstPlace : ℕ → List ℕ → Option ℕ → Type 0
FirstPlace s bs None = before s bs ≡ length bs
FirstPlace s bs (Some e) = (e ≡ before s bs) × (e < length bs)

pub before_within : (s : ℕ) (bs : List ℕ) → before s bs ≤ length bs
before_within s [] = omega arith
before_within s (b ∷ bs) = go (eqb b s) (before_within s bs)
  where
    go : (t : Bool) → before s bs ≤ length bs → cond t 0 (suc (before s bs)) ≤ suc (length bs)
    go true h = omega arith
    go false h = omega arith

pub first_place : (s : ℕ) (bs : List ℕ) (o : Option ℕ) → o ≡ position (λ b. eqb b s) bs → FirstPlace s bs o
first_place s bs o e =
    let k = position_or_len (λ b. eqb b s) bs in
    ⊎_elim
    (λ l. rw (e ∙ cond-true (ltb k (length bs)) (Some k) None (lt-ltb k (length bs) l)) (sym (before_is s bs), l))
    (λ l. rw (e ∙ cond-false (ltb k (length bs)) (Some k) None (le-ltb _ _ l)) (omega (arith, l, before_is s bs, before_within s bs)))
    (cases_lt k (length bs))

-- the letters of a stem stand before its first zero
pub letters_before : (s : List ℕ) → letters s ≡ take (before 0 s) s
letters_before [] = refl
letters_before (c ∷ cs) = go (eqb c 0) (letters_before cs)
  where
    go : (t : Bool) → letters cs ≡ take (before 0 cs) cs → cond t [] (c ∷ letters cs) ≡ take (cond t 0 (suc (before 0 cs))) (c ∷ cs)
    go true e = refl
    go false e = ap (λ (l : List ℕ). c ∷ l) e

-- every digit, by the test of the library
pub digits_are : (bs : List ℕ) → list_all is_ascii_digit bs ≡ all_ascii_digits bs
digits_are [] = refl
digits_are (b ∷ bs) = ap (λ (t : Bool). is_ascii_digit b && t) (digits_are bs)

-- none that is not, where all are
pub none_odd : (t : ℕ → Bool) (bs : List ℕ) → list_all t bs ≡ not (any (λ d. not (t d)) bs)
none_odd t [] = refl
none_odd t (b ∷ bs) = go (t b) (none_odd t bs)
  where
    go : (x : Bool) → list_all t bs ≡ not (any (λ d. not (t d)) bs) → (x && list_all t bs) ≡ not (not x || any (λ d. not (t d)) bs)
    go true e = e
    go false e = refl
