-- The stack of runs.
use Rattle.std.proofs.Common.{◌≡◌, ℕ, zero, suc, ◌+◌, ◌-◌, ◌<◌, ◌≤◌, Bool, true, leb, List, [], ◌∷◌, ◌++◌, length, get_or, take, set, replicate, sym, refl, ap, ◌∙◌, arith, length-take-le}
use Rattle.std.proofs.lemmas.List.{take_more, take_more_set, get_or-take}
use Rattle.model.specs.declared.kinds.Sort.{Sort}
use Rattle.model.specs.declared.kinds.Sort.TheVariants.{Root}
use Rattle.model.specs.Kinds.{Children, exactly, as_many}
use Rattle.script.specs.declared.pending.Run.{Run}
use Rattle.script.specs.Runs.{run_of, stacked, to_come, AllUsed}

stacked_push : (acc : List Sort) (xs : List Run) (r : Run) → stacked acc (xs ++ (r ∷ [])) ≡ run_of r ++ stacked acc xs
unfolding stacked
stacked_push acc [] r = refl
stacked_push acc (x ∷ xs) r = stacked_push (run_of x ++ acc) xs r

pub top_run : (runs : List Run) (i : ℕ) (d : Run) → i < length runs → to_come runs (i + 1) ≡ run_of (get_or runs i d) ++ to_come runs i
top_run runs i d h = ap (stacked []) (take_more runs i d h) ∙ stacked_push [] (take i runs) (get_or runs i d)

pub top_set : (runs : List Run) (i : ℕ) (r : Run) → i < length runs → to_come (set runs i r) (i + 1) ≡ run_of r ++ to_come runs i
top_set runs i r h = ap (stacked []) (take_more_set runs i r h) ∙ stacked_push [] (take i runs) r

pub none_come : (runs : List Run) (h : ℕ) → h ≡ 0 → to_come runs h ≡ []
unfolding stacked
none_come runs h e = ap (to_come runs) e

-- of a stack whose last run stands at i
module _ (runs : List Run) (i h : ℕ) (d : Run) (top : h ≡ i + 1) (here : i < length runs) where
  pub used_up : (get_or runs i d).left ≡ 0 → to_come runs i ≡ to_come runs h
  used_up z = sym (ap (to_come runs) top ∙ (top_run runs i d here ∙ ap (λ (n : ℕ). replicate n (get_or runs i d).sort ++ to_come runs i) z))

  pub one_used : (k : ℕ) → (get_or runs i d).left ≡ suc k → to_come runs h ≡ (get_or runs i d).sort ∷ to_come (set runs i (record { sort = (get_or runs i d).sort; left = k })) h
  one_used k z =
      let s = (get_or runs i d).sort in
      let r : Run = record { sort = s; left = k } in
      ap (to_come runs) top
      ∙ (top_run runs i d here
      ∙ (ap (λ (n : ℕ). replicate n s ++ to_come runs i) z
      ∙ (ap (λ (l : List Sort). s ∷ l) (sym (top_set runs i r here)) ∙ ap (λ (j : ℕ). s ∷ to_come (set runs i r) j) (sym top))))

-- The children of a kind

abbrev few : Children → Bool
few (exactly ss) = leb (length ss) 3
few (as_many s) = true

-- runs that are used up, on top of others
used_up_from : (runs : List Run) (i n : ℕ) → i + n ≤ length runs → ((k : ℕ) (d : Run) → i ≤ k → k < i + n → (get_or runs k d).left ≡ 0) → to_come runs i ≡ to_come runs (i + n)
used_up_from runs i zero l u = let e : i ≡ i + 0 = omega arith in ap (to_come runs) e
used_up_from runs i (suc n) l u =
    let d : Run = record { sort = Root; left = 0 } in
    let e : i + suc n ≡ i + n + 1 = omega arith in
    used_up_from runs i n (omega arith) (λ k d p q. u k d p (omega arith)) ∙ used_up runs (i + n) (i + suc n) d e (omega arith) (u (i + n) d (omega arith) (omega arith))

pub all_used : (runs : List Run) (i h : ℕ) → i ≤ h → h ≤ length runs → AllUsed (take h runs) i → to_come runs i ≡ to_come runs h
all_used runs i h p l u =
    let e : i + (h - i) ≡ h = omega arith in
    used_up_from runs i (h - i) (omega arith) (λ k d q r. sym (ap (λ (x : Run). x.left) (get_or-take h runs k d (omega arith))) ∙ u k d q (omega (arith, length-take-le h runs l)))
    ∙ ap (to_come runs) e
