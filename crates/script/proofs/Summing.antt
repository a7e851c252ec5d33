-- Counting nodes of a kind, and the lines of a text by their numbers, in the words of the library.
use Rattle.std.proofs.Common.{◌≡◌, ℕ, zero, suc, Bool, true, false, cond, eqb, List, [], ◌∷◌, get_or, length, filter, Some, None, Option, refl, sym, ap, ◌∙◌}
use denote.Ref.{Bor}
use Rattle.std.specs.Prelude.{slice_get}
use Rattle.std.specs.Option.{option_map, unwrap_or}
use Rattle.std.specs.List.{count_by, slice_split, onto_first}
use Rattle.std.proofs.lemmas.List.Sums.{length-filter}
use Rattle.std.proofs.lemmas.Option.{unwrap_or-slice_get}
use Rattle.model.specs.Lists.{keep}
use Rattle.model.specs.Reading.{TextLine, longer, lines}
use Rattle.script.specs.Summaries.{no_line}

pub kept : {A : Type 0} (t : A → Bool) (xs : List A) → filter t xs ≡ keep t xs
kept t [] = refl
kept t (x ∷ xs) = go (t x) (kept t xs)
  where
    go : (b : Bool) → filter t xs ≡ keep t xs → cond b (x ∷ filter t xs) (filter t xs) ≡ cond b (x ∷ keep t xs) (keep t xs)
    go true e = ap (λ l. x ∷ l) e
    go false e = e

pub kept_count : {A : Type 0} (t : A → Bool) (xs : List A) → count_by t xs ≡ length (keep t xs)
kept_count t xs = sym (length-filter t xs) ∙ ap length (kept t xs)

abbrev pub ends : ℕ → Bool
ends b = eqb b 10

-- a line has the bytes of the piece with its number, and there are no bytes past the last
abbrev Alike : List TextLine → List (List ℕ) → Type 0
Alike ls ps = (n : ℕ) → (get_or ls n no_line).bytes ≡ get_or ps n []

one_longer : (b : ℕ) (ls : List TextLine) (ps : List (List ℕ)) → Alike ls ps → Alike (longer b ls) (onto_first b ps)
one_longer b [] [] h zero = refl
one_longer b [] [] h (suc n) = refl
one_longer b [] (p ∷ ps) h zero = ap (λ (l : List ℕ). b ∷ l) (h 0)
one_longer b [] (p ∷ ps) h (suc n) = h (suc n)
one_longer b (l ∷ ls) [] h zero = ap (λ (l : List ℕ). b ∷ l) (h 0)
one_longer b (l ∷ ls) [] h (suc n) = h (suc n)
one_longer b (l ∷ ls) (p ∷ ps) h zero = ap (λ (l : List ℕ). b ∷ l) (h 0)
one_longer b (l ∷ ls) (p ∷ ps) h (suc n) = h (suc n)

pub lines_are : (bs : List ℕ) → Alike (lines bs) (slice_split ends bs)
lines_are [] zero = refl
lines_are [] (suc n) = refl
lines_are (b ∷ bs) n = go (eqb b 10) n (lines_are bs)
  where
    go : (t : Bool) (m : ℕ) → Alike (lines bs) (slice_split ends bs) → (get_or (cond t (record { bytes = []; ended = true } ∷ lines bs) (longer b (lines bs))) m no_line).bytes ≡ get_or (cond t ([] ∷ slice_split ends bs) (onto_first b (slice_split ends bs))) m []
    go true zero h = refl
    go true (suc m) h = h m
    go false m h = one_longer b (lines bs) (slice_split ends bs) h m

-- what stands at a place, or nothing
pub or_none : (o : Option (Bor (List ℕ))) (d : Bor (List ℕ)) (ps : List (List ℕ)) (n : ℕ) → d.now ≡ [] → option_map (λ x. x.now) o ≡ slice_get ps n → (unwrap_or o d).now ≡ get_or ps n []
or_none None d ps n e h = e ∙ (ap (λ (o : Option (List ℕ)). unwrap_or o []) h ∙ unwrap_or-slice_get ps n [])
or_none (Some x) d ps n e h = ap (λ (o : Option (List ℕ)). unwrap_or o []) h ∙ unwrap_or-slice_get ps n []
