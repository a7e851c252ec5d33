-- Tests over lists of numbers, and the first that passes.
use Rattle.std.proofs.Common.{◌≡◌, ℕ, zero, suc, ◌+◌, ◌<◌, ◌≤◌, Bool, true, false, cond, not, ◌&&◌, ◌||◌, eqb, List, [], ◌∷◌, map, length, get_or, Some, None, Option, sym, refl, ap, ◌∙◌, ap₂, ⊎_elim, add-one, arith}
use Rattle.std.proofs.lemmas.Bool.{cond-true, cond_both, not_from_false, cases_eq, both_ways, false≢true, or_cases, or_left, or_right, eqb-true, eq-eqb, cond-false, false_from_ne_true}
use Rattle.std.proofs.lemmas.List.{get_or-map}
use Rattle.std.proofs.lemmas.Option.{none-some, same_Some}
use Rattle.laws.proofs.Reaches.{counting_at, length_counting}
use Rattle.promise.proofs.Frame.{first, least, count, any as below}
use Rattle.promise.proofs.FrameTests.{any_some, any_at, count_all, pigeons, least_stuck, least_from, least_below}
use Rattle.model.specs.Lists.{or_else, keep, any, first_with, counting, places}
use Rattle.model.specs.Repair.{unused}

pub same_bool : (a b : Bool) → (a ≡ true → b ≡ true) → (b ≡ true → a ≡ true) → a ≡ b
same_bool true b f g = sym (f refl)
same_bool false b f g = sym (false_from_ne_true b (λ h. false≢true (g h)))

pub eqb_sym : (a b : ℕ) → eqb a b ≡ eqb b a
eqb_sym a b = same_bool _ _ (λ h. eq-eqb b a (sym (eqb-true a b h))) (λ h. eq-eqb a b (sym (eqb-true b a h)))

-- any
pub any_count : (t : ℕ → Bool) (at n : ℕ) → any t (counting at n) ≡ true → (k : ℕ) × (at ≤ k) × (k < at + n) × (t k ≡ true)
any_count t at zero h = absurd (false≢true h)
any_count t at (suc n) h =
    ⊎_elim
    (λ x. (at, omega arith, omega arith, x))
    (λ x. let (k, a, b, c) = any_count t (at + 1) n x in (k, omega arith, omega arith, c))
    (or_cases (t at) _ h)

pub any_count_at : (t : ℕ → Bool) (at n k : ℕ) → at ≤ k → k < at + n → t k ≡ true → any t (counting at n) ≡ true
any_count_at t at zero k a b h = absurd (omega arith)
any_count_at t at (suc n) k a b h =
    ⊎_elim
    (λ e. or_left (t at) _ (ap t (sym e) ∙ h))
    (λ e. or_right (t at) _ (any_count_at t (at + 1) n k (omega arith) (omega arith) h))
    (cases_eq k at)

pub any_below : (t p : ℕ → Bool) (n : ℕ) → ((k : ℕ) → k < n → t k ≡ p k) → any t (counting 0 n) ≡ below p n
any_below t p n h =
    same_bool _ _
    (λ a. let (k, _, l, e) = any_count t 0 n a in any_at p n k (omega arith) (sym (h k (omega arith)) ∙ e))
    (λ a. let (k, l, e) = any_some p n a in any_count_at t 0 n k (omega arith) (omega arith) (h k l ∙ e))

pub any_in : {A : Type 0} (t : A → Bool) (xs : List A) (d : A) → any t xs ≡ true → (k : ℕ) × (k < length xs) × (t (get_or xs k d) ≡ true)
any_in t [] d h = absurd (false≢true h)
any_in t (x ∷ xs) d h =
    ⊎_elim
    (λ e. (0, omega arith, e))
    (λ e. let (k, l, q) = any_in t xs d e in (suc k, omega arith, q))
    (or_cases (t x) _ h)

pub any_has : {A : Type 0} (t : A → Bool) (xs : List A) (d : A) (k : ℕ) → k < length xs → t (get_or xs k d) ≡ true → any t xs ≡ true
any_has t [] d k l h = absurd (omega arith)
any_has t (x ∷ xs) d zero l h = or_left (t x) _ h
any_has t (x ∷ xs) d (suc k) l h = or_right (t x) _ (any_has t xs d k (omega arith) h)

-- a test of what is kept
pub any_kept : {A : Type 0} (t : ℕ → Bool) (f : A → ℕ) (u : A → Bool) (xs : List A) → any t (map f (keep u xs)) ≡ any (λ x. u x && t (f x)) xs
any_kept t f u [] = refl
any_kept t f u (x ∷ xs) = go (u x) (any_kept t f u xs)
  where
    go : (b : Bool) → any t (map f (keep u xs)) ≡ any (λ y. u y && t (f y)) xs → any t (map f (cond b (x ∷ keep u xs) (keep u xs))) ≡ ((b && t (f x)) || any (λ y. u y && t (f y)) xs)
    go true h = ap (λ z. t (f x) || z) h
    go false h = h

pub any_get_or : {A : Type 0} (t : A → Bool) (xs : List A) (d : A) (p : ℕ → Bool) → ((k : ℕ) → k < length xs → t (get_or xs k d) ≡ p k) → any t xs ≡ below p (length xs)
any_get_or t xs d p h =
    same_bool _ _
    (λ a. let (k, l, e) = any_in t xs d a in any_at p (length xs) k l (sym (h k l) ∙ e))
    (λ a. let (k, l, e) = any_some p (length xs) a in any_has t xs d k l (h k l ∙ e))

-- keep
pub keep_none : (t : ℕ → Bool) (at n : ℕ) → ((k : ℕ) → k < at + n → t k ≡ false) → keep t (counting at n) ≡ []
keep_none t at zero h = refl
keep_none t at (suc n) h = cond-false (t at) _ _ (h at (omega arith)) ∙ keep_none t (at + 1) n (λ k l. h k (omega arith))

pub keep_some : (t : ℕ → Bool) (at n k : ℕ) → at ≤ k → k < at + n → t k ≡ true → keep t (counting at n) ≡ [] → ⊥
keep_some t at zero k a b h e = omega arith
keep_some t at (suc n) k a b h e = go (t at) refl (keep_some t (at + 1) n k) e
  where
    go : (c : Bool) → t at ≡ c → (at + 1 ≤ k → k < at + 1 + n → t k ≡ true → keep t (counting (at + 1) n) ≡ [] → ⊥) → cond c (at ∷ keep t (counting (at + 1) n)) (keep t (counting (at + 1) n)) ≡ [] → ⊥
    go true q f e = absurd (omega (arith, ap length e))
    go false q f e = ⊎_elim (λ x. both_ways (t at) q (ap t (sym x) ∙ h)) (λ x. f (omega arith) (omega arith) h e) (cases_eq k at)

-- how many are kept
keep_last : (t : ℕ → Bool) (n at : ℕ) → length (keep t (counting at (suc n))) ≡ cond (t (at + n)) (length (keep t (counting at n)) + 1) (length (keep t (counting at n)))
keep_last t zero at = go (t at) ∙ ap (λ k. cond (t k) 1 0) (omega arith)
  where
    go : (b : Bool) → length (cond b (at ∷ []) []) ≡ cond b 1 0
    go true = refl
    go false = refl
keep_last t (suc n) at =
    let e : t (at + 1 + n) ≡ t (at + suc n) = ap t (omega arith) in
    go (t at) (t (at + suc n)) (keep t (counting (at + 1) (suc n))) (keep t (counting (at + 1) n)) (keep_last t n (at + 1) ∙ ap (λ b. cond b (length (keep t (counting (at + 1) n)) + 1) (length (keep t (counting (at + 1) n)))) e)
  where
    go : (b c : Bool) (x y : List ℕ) → length x ≡ cond c (length y + 1) (length y) → length (cond b (at ∷ x) x) ≡ cond c (length (cond b (at ∷ y) y) + 1) (length (cond b (at ∷ y) y))
    go true true x y h = ap suc h ∙ omega arith
    go true false x y h = ap suc h
    go false true x y h = h
    go false false x y h = h

pub count_keep : (t : ℕ → Bool) (n : ℕ) → count t n ≡ length (keep t (counting 0 n))
unfolding count
count_keep t zero = refl
count_keep t (suc n) = let e : t n ≡ t (0 + n) = ap t (omega arith) in (λ i. cond (e i) (count_keep t n i + 1) (count_keep t n i)) ∙ sym (keep_last t n 0)

-- the first that passes
pub first_first : (t p : ℕ → Bool) (xs : List ℕ) → ((k : ℕ) → t k ≡ p k) → first_with t xs ≡ first p xs
unfolding first
first_first t p [] h = refl
first_first t p (x ∷ xs) h = ap₂ (λ b m. cond b (Some x) m) (h x) (first_first t p xs h)

pub first_same : (t u : ℕ → Bool) (xs : List ℕ) → ((k : ℕ) → t k ≡ u k) → first_with t xs ≡ first_with u xs
first_same t u [] h = refl
first_same t u (x ∷ xs) h = ap₂ (λ b m. cond b (Some x) m) (h x) (first_same t u xs h)

pub first_is : (t : ℕ → Bool) (xs : List ℕ) (d : ℕ) → first_with t xs ≡ Some d → (t d ≡ true) × ((k : ℕ) × (k < length xs) × (get_or xs k 0 ≡ d))
first_is t [] d e = absurd (none-some d e)
first_is t (x ∷ xs) d e = go (t x) refl (first_is t xs d) e
  where
    go : (b : Bool) → t x ≡ b → (first_with t xs ≡ Some d → (t d ≡ true) × ((k : ℕ) × (k < length xs) × (get_or xs k 0 ≡ d))) → cond b (Some x) (first_with t xs) ≡ Some d → (t d ≡ true) × ((k : ℕ) × (k < suc (length xs)) × (get_or (x ∷ xs) k 0 ≡ d))
    go true q f e = (ap t (sym (same_Some _ _ e)) ∙ q, (0, omega arith, same_Some _ _ e))
    go false q f e = let (a, r) = f e in let (k, l, g) = r in (a, (suc k, omega arith, g))

pub first_none : (t : ℕ → Bool) (xs : List ℕ) → first_with t xs ≡ None → any t xs ≡ false
first_none t [] e = refl
first_none t (x ∷ xs) e = go (t x) refl (first_none t xs) e
  where
    go : (b : Bool) → t x ≡ b → (first_with t xs ≡ None → any t xs ≡ false) → cond b (Some x) (first_with t xs) ≡ None → (t x || any t xs) ≡ false
    go true q f e = absurd (none-some x (sym e))
    go false q f e = ap (λ c. c || any t xs) q ∙ f e

pub first_some : (t : ℕ → Bool) (xs : List ℕ) → any t xs ≡ true → (d : ℕ) × (first_with t xs ≡ Some d)
first_some t xs h = go (first_with t xs) refl
  where
    go : (o : Option ℕ) → first_with t xs ≡ o → (d : ℕ) × (first_with t xs ≡ Some d)
    go None e = absurd (both_ways _ (first_none t xs e) h)
    go (Some d) e = (d, e)

-- the places of a list
pub get_or_places : {A B : Type 0} (f : ℕ → B) (xs : List A) (k : ℕ) (e : B) → k < length xs → get_or (map f (places xs)) k e ≡ f k
get_or_places f xs k e l =
    get_or-map f (places xs) k 0 e (omega (arith, length_counting 0 (length xs))) ∙ ap f (counting_at 0 (length xs) k l ∙ omega arith)

-- what is kept is no longer
pub length_keep : {A : Type 0} (t : A → Bool) (xs : List A) → length (keep t xs) ≤ length xs
length_keep t [] = omega arith
length_keep t (x ∷ xs) = let h = length_keep t xs in cond_both (t x) (x ∷ keep t xs) (keep t xs) (λ ys. length ys ≤ suc (length xs)) (λ _. omega arith) (λ _. omega arith)

-- the least number that fails a test
first_least : (p : ℕ → Bool) (k m : ℕ) → p (least p k m) ≡ false → first_with (λ j. not (p j)) (counting m (suc k)) ≡ Some (least p k m)
unfolding least
first_least p zero m h = cond-true (not (p m)) _ _ (not_from_false _ h)
first_least p (suc k) m h = go (p m) h (first_least p k (m + 1))
  where
    go : (b : Bool) → p (cond b (least p k (m + 1)) m) ≡ false → (p (least p k (m + 1)) ≡ false → first_with (λ j. not (p j)) (counting (m + 1) (suc k)) ≡ Some (least p k (m + 1))) → cond (not b) (Some m) (first_with (λ j. not (p j)) (counting (m + 1) (suc k))) ≡ Some (cond b (least p k (m + 1)) m)
    go true h f = f h
    go false h f = refl

least_more : (p : ℕ → Bool) (k n m : ℕ) → k ≤ n → p (least p k m) ≡ false → least p n m ≡ least p k m
unfolding least
least_more p zero zero m l h = refl
least_more p zero (suc n) m l h = cond-false (p m) _ _ h
least_more p (suc k) zero m l h = absurd (omega arith)
least_more p (suc k) (suc n) m l h = go (p m) h (least_more p k n (m + 1) (omega arith))
  where
    go : (b : Bool) → p (cond b (least p k (m + 1)) m) ≡ false → (p (least p k (m + 1)) ≡ false → least p n (m + 1) ≡ least p k (m + 1)) → cond b (least p n (m + 1)) m ≡ cond b (least p k (m + 1)) m
    go true h f = f h
    go false h f = refl

least_most : (p : ℕ → Bool) (k m : ℕ) → least p k m ≤ m + k
unfolding least
least_most p zero m = omega arith
least_most p (suc k) m = let h = least_most p k (m + 1) in cond_both (p m) (least p k (m + 1)) m (λ x. x ≤ m + suc k) (λ _. omega arith) (λ _. omega arith)

-- of one more than are in use, one is not
least_free : (used : List ℕ) (p : ℕ → Bool) → ((m : ℕ) → any (eqb m) used ≡ p m) → p (least p (length used) 1) ≡ false
least_free used p h =
    let k = length used in
    false_from_ne_true _ (λ t. absurd (omega (
      arith,
      count_all (λ _. true) k,
      pigeons k (λ i. get_or used i 0) (k + 1) (λ _. true) (λ m a b.
          let (i, li, e) = any_in (eqb m) used 0 (h m ∙ least_stuck p k 1 t m a (omega arith)) in
          (i, li, refl, sym (eqb-true m (get_or used i 0) e))),
    )))

-- the smallest unused mark is the least that fails the test of being in use
pub unused_least : (used : List ℕ) (p : ℕ → Bool) → ((m : ℕ) → any (eqb m) used ≡ p m) → (n : ℕ) → length used ≤ n → unused used ≡ least p n 1
unused_least used p h n l =
    let k = length used in
    let free = least_free used p h in
    ap (or_else 0) (first_same _ _ (counting 1 (k + 1)) (λ m. ap not (h m)) ∙ ap (λ j. first_with (λ m. not (p m)) (counting 1 j)) (add-one k) ∙ first_least p k 1 free)
    ∙ sym (least_more p k n 1 l free)

-- it is from 1 on, not in use, and each smaller one from 1 on is
pub unused_is : (used : List ℕ) → (1 ≤ unused used) × (any (eqb (unused used)) used ≡ false) × ((m : ℕ) → 1 ≤ m → m < unused used → any (eqb m) used ≡ true)
unused_is used =
    let p : ℕ → Bool = λ m. any (eqb m) used in
    let e = unused_least used p (λ _. refl) (length used) (omega arith) in
    let from = least_from p (length used) 1 in (
      omega arith,
      ap p e ∙ least_free used p (λ _. refl),
      λ m l h. least_below p (length used) 1 m l (omega arith),
    )

pub unused_most : (used : List ℕ) → unused used ≤ length used + 1
unused_most used =
    let e = unused_least used (λ m. any (eqb m) used) (λ _. refl) (length used) (omega arith) in
    let l = least_most (λ m. any (eqb m) used) (length used) 1 in
    omega arith
