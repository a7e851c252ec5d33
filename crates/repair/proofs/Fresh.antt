-- The smallest mark from 1 on that is not in a list.
use Rattle.std.proofs.Common.{◌≡◌, ℕ, zero, suc, ◌+◌, ◌<◌, ◌≤◌, Bool, true, false, cond, not, eqb, List, [], ◌∷◌, length, Some, None, sym, ap, ◌∙◌, ⊎_elim, arith}
use Rattle.std.proofs.lemmas.Bool.{cases_Bool, cases_lt, cond-true, cond-false, eqb-true, false≢true, both_ways, or_cases, or_left, or_right, not-true, not-false, not_from_true, not_from_false}
use Rattle.model.specs.Lists.{any, or_else}
use Rattle.model.specs.Repair.{unused}
use Rattle.model.specs.MarkRow.{bit_at, Shows}
use Rattle.repair.specs.Marks.{lowest_free}
use Rattle.repair.proofs.Firsts.{first_found, found_first, found_none}

abbrev has : List ℕ → ℕ → Bool
has us m = any (eqb m) us

-- A list that has each number from 1 to n is at least n long

-- without the first m
without : ℕ → List ℕ → List ℕ
without m [] = []
without m (x ∷ xs) = cond (eqb m x) xs (x ∷ without m xs)

shorter : (m : ℕ) (xs : List ℕ) → has xs m ≡ true → length (without m xs) + 1 ≡ length xs
unfolding without
shorter m [] h = absurd (false≢true h)
shorter m (x ∷ xs) h =
    ⊎_elim
    (λ e. ap (λ l. length l + 1) (cond-true (eqb m x) xs (x ∷ without m xs) e) ∙ omega arith)
    (λ e. ap (λ l. length l + 1) (cond-false (eqb m x) xs (x ∷ without m xs) e) ∙ omega (arith, shorter m xs (⊎_elim (λ t. absurd (both_ways _ e t)) (λ t. t) (or_cases _ _ h))))
    (cases_Bool (eqb m x))

others_stay : (m j : ℕ) (xs : List ℕ) → (j ≡ m → ⊥) → has xs j ≡ true → has (without m xs) j ≡ true
unfolding without
others_stay m j [] ne h = h
others_stay m j (x ∷ xs) ne h =
    ⊎_elim
    (λ e. ap (λ l. has l j) (cond-true (eqb m x) xs (x ∷ without m xs) e) ∙ ⊎_elim (λ t. absurd (ne (eqb-true j x t ∙ sym (eqb-true m x e)))) (λ t. t) (or_cases _ _ h))
    (λ e. ap (λ l. has l j) (cond-false (eqb m x) xs (x ∷ without m xs) e) ∙ ⊎_elim (λ t. or_left (eqb j x) _ t) (λ t. or_right (eqb j x) _ (others_stay m j xs ne t)) (or_cases _ _ h))
    (cases_Bool (eqb m x))

-- each from 1 to below n
abbrev pub AllUsed : List ℕ → ℕ → Type 0
AllUsed us n = (m : ℕ) → 1 ≤ m → m < n → any (eqb m) us ≡ true

pub as_long : (n : ℕ) (us : List ℕ) → AllUsed us (n + 1) → n ≤ length us
as_long zero us all = omega arith
as_long (suc n) us all =
    omega (
      arith,
      shorter (n + 1) us (all (n + 1) (omega arith) (omega arith)),
      as_long n (without (n + 1) us) (λ m p q. others_stay (n + 1) m us (λ e. omega arith) (all m p (omega arith))),
    )

-- The smallest that is not used

pub smallest : (us : List ℕ) (k : ℕ) → 1 ≤ k → any (eqb k) us ≡ false → AllUsed us k → k ≡ unused us
smallest us (suc n) l free all =
    let few = as_long n us (λ m p q. all m p (omega arith)) in
    sym (ap (or_else 0) (first_found (λ m. not (any (eqb m) us)) 1 (length us + 1) (suc n) l (omega arith) (not_from_false _ free) (λ m p q. not_from_true _ (all m p q))))
smallest us zero l free all = absurd (omega arith)

-- where the row shows the marks in use, its lowest clear bit is the mark
pub in_row : (ws us : List ℕ) (k : ℕ) → Shows ws us → Some k ≡ lowest_free ws → k ≡ unused us
unfolding lowest_free
in_row ws us k shows e =
    let f = found_first (λ m. not (bit_at ws m)) 1 1023 k (sym e) in
    let b = f.below in
    smallest us k f.from (sym (shows k b) ∙ not-true _ f.passes) (λ m p q. sym (shows m (omega arith)) ∙ not-false _ (f.none m p q))

-- where it has none, all marks that can be noted are in use
pub row_full : (ws us : List ℕ) → Shows ws us → None ≡ lowest_free ws → AllUsed us 1024
unfolding lowest_free
row_full ws us shows e m p q = sym (shows m q) ∙ not-false _ (found_none (λ m. not (bit_at ws m)) 1 1023 (sym e) m p q)

pub next_free : (us : List ℕ) → AllUsed us 1024 → any (eqb 1024) us ≡ false → 1024 ≡ unused us
next_free us full free = smallest us 1024 (omega arith) free full

one_more : (us : List ℕ) (n : ℕ) → AllUsed us n → any (eqb n) us ≡ true → AllUsed us (n + 1)
one_more us n all also m p q = ⊎_elim (λ (l : m < n). all m p l) (λ (l : n ≤ m). let e : m ≡ n = omega arith in ap (has us) e ∙ also) (cases_lt m n)

-- were 1,025 used too, there would be as many marks
pub next_used : (us : List ℕ) → length us ≤ 1024 → AllUsed us 1024 → any (eqb 1024) us ≡ true → 1025 ≡ unused us
next_used us few full used =
    let all = one_more us 1024 full used in
    smallest us 1025 (omega arith) (⊎_elim (λ also. absurd (omega (arith, as_long 1025 us (one_more us 1025 all also)))) (λ free. free) (cases_Bool (any (eqb 1025) us))) all
