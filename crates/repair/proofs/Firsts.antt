-- The first number of a count that passes a test.
use Rattle.std.proofs.Common.{◌≡◌, ℕ, zero, suc, ◌+◌, ◌-◌, ◌<◌, ◌≤◌, Bool, true, false, ◌||◌, List, [], ◌∷◌, length, get_or, Some, None, sym, refl, ap, ap₂, ◌∙◌, subst, ⊎_elim, arith}
use Rattle.std.specs.List.{list_any}
use Rattle.std.proofs.lemmas.Bool.{cases_eq, cond-true, cond-false}
use Rattle.model.specs.Lists.{any, first_with, counting}
use Rattle.laws.proofs.Reaches.{Finding, finding, counting_at, length_counting}

module _ (t : ℕ → Bool) where
  -- none from a to below b passes
  abbrev pub NoneFrom : ℕ → ℕ → Type 0
  NoneFrom a b = (m : ℕ) → a ≤ m → m < b → t m ≡ false

  pub first_found : (a n k : ℕ) → a ≤ k → k < a + n → t k ≡ true → NoneFrom a k → first_with t (counting a n) ≡ Some k
  first_found a zero k l h e none = absurd (omega arith)
  first_found a (suc n) k l h e none =
      ⊎_elim
      (λ (s : a ≡ k). cond-true (t a) (Some a) (first_with t (counting (a + 1) n)) (ap t s ∙ e) ∙ ap Some s)
      (λ (s : a ≡ k → ⊥).
      let b : a < k = omega arith in
      cond-false (t a) (Some a) (first_with t (counting (a + 1) n)) (none a (omega arith) b)
      ∙ first_found (a + 1) n k (omega arith) (omega arith) e (λ m p q. none m (omega arith) q))
      (cases_eq a k)

  pub none_found : (a n : ℕ) → NoneFrom a (a + n) → first_with t (counting a n) ≡ None
  none_found a zero none = refl
  none_found a (suc n) none =
      cond-false (t a) (Some a) (first_with t (counting (a + 1) n)) (none a (omega arith) (omega arith))
      ∙ none_found (a + 1) n (λ m p q. none m (omega arith) (omega arith))

  -- and back
  pub record First (a n k : ℕ) : Type 0 where
    pub from : a ≤ k
    pub below : k < a + n
    pub passes : t k ≡ true
    pub none : NoneFrom a k

  pub found_first : (a n k : ℕ) → first_with t (counting a n) ≡ Some k → First a n k
  found_first a n k e =
      let f = subst (Finding t (counting a n)) e (finding t (counting a n)) in
      let l = f.within in
      let long = length_counting a n in
      let at = counting_at a n f.place (omega arith) in
      let is : a + f.place ≡ k = sym at ∙ f.there in
      record {
        from = omega arith;
        below = omega arith;
        passes = f.passes;
        none = λ m p q. ap t (sym (counting_at a n (m - a) (omega arith) ∙ omega arith)) ∙ f.first (m - a) (omega arith);
      }

  pub found_none : (a n : ℕ) → first_with t (counting a n) ≡ None → NoneFrom a (a + n)
  found_none a n e m p q =
      let f = subst (Finding t (counting a n)) e (finding t (counting a n)) in
      let long = length_counting a n in
      ap t (sym (counting_at a n (m - a) (omega arith) ∙ omega arith)) ∙ f (m - a) (omega arith)

-- what a list holds place by place, and the numbers of its places
pub any_places : {A : Type 0} (t : A → Bool) (u : ℕ → Bool) (xs : List A) (d : A) (at : ℕ) → ((k i : ℕ) → k < length xs → i ≡ at + k → t (get_or xs k d) ≡ u i) → list_any t xs ≡ any u (counting at (length xs))
any_places t u [] d at h = refl
any_places t u (x ∷ xs) d at h = ap₂ (λ (a b : Bool). a || b) (h 0 at (omega arith) (omega arith)) (any_places t u xs d (at + 1) (λ k i l e. h (suc k) i (omega arith) (omega arith)))
