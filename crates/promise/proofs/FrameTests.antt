-- Tests of the numbers below n, how many pass, the pigeonhole, and the first of a list that passes.
use Rattle.std.proofs.Common.{◌≡◌, ℕ, zero, suc, ◌+◌, ◌<◌, ◌≤◌, Bool, true, false, cond, not, ◌&&◌, eqb, List, [], ◌∷◌, Some, sym, refl, ap, ◌∙◌, subst, ⊎_elim, arith}
use Rattle.std.specs.List.{AllByRecursion as All}
use Rattle.std.proofs.lemmas.Bool.{cases_Bool, cases_eq, both_ways, false≢true, and_from, and_parts, ne_eqb, not_from_false, not_from_true, eq-eqb, cond-true, cond-false, false_from_ne_true}
use Rattle.std.proofs.lemmas.Bool.Decides.{Decides-below_or}
use Rattle.std.proofs.lemmas.Option.{none-some}
use Rattle.promise.proofs.Frame.{any, count, first, least}

pub any_some : (p : ℕ → Bool) (n : ℕ) → any p n ≡ true → (k : ℕ) × (k < n) × (p k ≡ true)
unfolding any
any_some p n = (Decides-below_or p (λ k. p k ≡ true) (any p) (λ k. (λ h. h, λ h. h)) refl (λ _. refl) n).0

pub any_at : (p : ℕ → Bool) (n k : ℕ) → k < n → p k ≡ true → any p n ≡ true
unfolding any
any_at p n k l h = (Decides-below_or p (λ k. p k ≡ true) (any p) (λ k. (λ h. h, λ h. h)) refl (λ _. refl) n).1 (k, l, h)

pub any_none : (p : ℕ → Bool) (n k : ℕ) → any p n ≡ false → k < n → p k ≡ false
any_none p n k e l = false_from_ne_true (p k) (λ h. both_ways _ e (any_at p n k l h))

step_le : (a b : Bool) (x y : ℕ) → (a ≡ true → b ≡ true) → x ≤ y → cond a (x + 1) x ≤ cond b (y + 1) y
step_le true true x y h l = omega arith
step_le true false x y h l = absurd (false≢true (h refl))
step_le false true x y h l = omega arith
step_le false false x y h l = l

step_lt : (a b : Bool) (x y : ℕ) → (a ≡ true → b ≡ true) → x < y → cond a (x + 1) x < cond b (y + 1) y
step_lt true true x y h l = omega arith
step_lt true false x y h l = absurd (false≢true (h refl))
step_lt false true x y h l = omega arith
step_lt false false x y h l = l

pub count_le : (p q : ℕ → Bool) (n : ℕ) → ((j : ℕ) → j < n → q j ≡ true → p j ≡ true) → count q n ≤ count p n
unfolding count
count_le p q zero h = omega arith
count_le p q (suc n) h = step_le (q n) (p n) _ _ (h n (omega arith)) (count_le p q n (λ j l. h j (omega arith)))

pub count_lt : (p q : ℕ → Bool) (n i : ℕ) → ((j : ℕ) → j < n → q j ≡ true → p j ≡ true) → i < n → q i ≡ false → p i ≡ true → count q n < count p n
unfolding count
count_lt p q zero i h l a b = absurd (omega arith)
count_lt p q (suc n) i h l a b =
    ⊎_elim
    (λ e.
    let c = count_le p q n (λ j l. h j (omega arith)) in
    let s = cond-false (q n) (count q n + 1) (count q n) (ap q (sym e) ∙ a) in
    let t = cond-true (p n) (count p n + 1) (count p n) (ap p (sym e) ∙ b) in
    omega arith)
    (λ e. step_lt (q n) (p n) _ _ (h n (omega arith)) (count_lt p q n i (λ j l. h j (omega arith)) (omega arith) a b))
    (cases_eq i n)

pub count_all : (p : ℕ → Bool) (n : ℕ) → count p n ≤ n
unfolding count
count_all p zero = omega arith
count_all p (suc n) = step (p n) (count_all p n)
  where
    step : (b : Bool) → count p n ≤ n → cond b (count p n + 1) (count p n) ≤ suc n
    step true l = omega arith
    step false l = omega arith

-- where each mark from 1 to k is had by an entry that passes, at least k pass
pub pigeons : (n : ℕ) (f : ℕ → ℕ) (k : ℕ) (p : ℕ → Bool) → ((m : ℕ) → 1 ≤ m → m ≤ k → (i : ℕ) × (i < n) × (p i ≡ true) × (f i ≡ m)) → k ≤ count p n
pigeons n f zero p h = omega arith
pigeons n f (suc k) p h =
    let (i, l, pi, fi) = h (suc k) (omega arith) (omega arith) in
    let q : ℕ → Bool = λ j. p j && not (eqb j i) in
    let c = pigeons n f k q (λ m a b.
    let (j, lj, pj, fj) = h m a (omega arith) in
    (j, lj, and_from (p j) _ pj (not_from_false _ (ne_eqb j i (λ e. absurd (omega (arith, ap f e))))), fj)) in
    omega (arith, count_lt p q n i (λ j _ t. (and_parts (p j) _ t).0) l (false_from_ne_true (q i) (λ t. both_ways (not (eqb i i)) (refused i) (and_parts (p i) _ t).1)) pi)
  where
    refused : (i : ℕ) → not (eqb i i) ≡ false
    refused i = not_from_true (eqb i i) (eq-eqb i i refl)

pub least_from : (p : ℕ → Bool) (f m : ℕ) → m ≤ least p f m
unfolding least
least_from p zero m = omega arith
least_from p (suc f) m = step (p m) (least_from p f (m + 1))
  where
    step : (b : Bool) → m + 1 ≤ least p f (m + 1) → m ≤ cond b (least p f (m + 1)) m
    step true l = omega arith
    step false l = omega arith

pub least_below : (p : ℕ → Bool) (f m j : ℕ) → m ≤ j → j < least p f m → p j ≡ true
unfolding least
least_below p zero m j a b = absurd (omega arith)
least_below p (suc f) m j a b =
    ⊎_elim
    (λ t. ⊎_elim (λ e. ap p e ∙ t) (λ n. least_below p f (m + 1) j (omega arith) (rw (cond-true (p m) (least p f (m + 1)) m t) at b)) (cases_eq j m))
    (λ t. absurd (omega (arith, cond-false (p m) (least p f (m + 1)) m t)))
    (cases_Bool (p m))

-- where even the answer passes, all do
pub least_stuck : (p : ℕ → Bool) (f m : ℕ) → p (least p f m) ≡ true → (j : ℕ) → m ≤ j → j ≤ m + f → p j ≡ true
unfolding least
least_stuck p zero m h j a b = let e : j ≡ m = omega arith in ap p e ∙ h
least_stuck p (suc f) m h j a b =
    ⊎_elim
    (λ t. ⊎_elim (λ e. ap p e ∙ t) (λ n. least_stuck p f (m + 1) (ap p (sym (cond-true (p m) (least p f (m + 1)) m t)) ∙ h) j (omega arith) (omega arith)) (cases_eq j m))
    (λ t. absurd (both_ways (p m) t (ap p (sym (cond-false (p m) (least p f (m + 1)) m t)) ∙ h)))
    (cases_Bool (p m))

pub first_passes : (p : ℕ → Bool) (P : ℕ → Type 0) (xs : List ℕ) (d : ℕ) → All P xs → first p xs ≡ Some d → (p d ≡ true) × P d
unfolding first
first_passes p P [] d a e = absurd (none-some d e)
first_passes p P (x ∷ xs) d a e =
    ⊎_elim
    (λ t. let same : x ≡ d = cc (cond-true (p x) (Some x) (first p xs) t) in (ap p (sym same) ∙ t, subst P same a.0))
    (λ t. first_passes p P xs d a.1 (sym (cond-false (p x) (Some x) (first p xs) t) ∙ e))
    (cases_Bool (p x))

-- two tests have one first member
pub first_same : (p q : ℕ → Bool) (xs : List ℕ) → All (λ d. q d ≡ true → p d ≡ true) xs → ((d : ℕ) → first p xs ≡ Some d → q d ≡ true) → first p xs ≡ first q xs
unfolding first
first_same p q [] a h = refl
first_same p q (x ∷ xs) a h =
    ⊎_elim
    (λ t. let e = cond-true (p x) (Some x) (first p xs) t in e ∙ sym (cond-true (q x) (Some x) (first q xs) (h x e)))
    (λ t. let e = cond-false (p x) (Some x) (first p xs) t in
    e ∙ first_same p q xs a.1 (λ d k. h d (e ∙ k)) ∙ sym (cond-false (q x) (Some x) (first q xs) (false_from_ne_true (q x) (λ u. both_ways (p x) t (a.0 u)))))
    (cases_Bool (p x))
