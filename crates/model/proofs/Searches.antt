-- The steps of a search from the front of a list.
use Rattle.std.proofs.Common.{◌≡◌, ℕ, ◌+◌, ◌<◌, ◌≤◌, Bool, true, false, ◌||◌, List, length, get_or, drop, ap, ◌∙◌}
use Rattle.std.proofs.lemmas.List.{drop_more, drop_all}
use Rattle.std.proofs.lemmas.Bool.{or_left}
use Rattle.model.specs.Lists.{any}

module _ {A : Type 0} (t : A → Bool) (xs : List A) (i : ℕ) where
  pub any_here : (d : A) → i < length xs → t (get_or xs i d) ≡ true → any t (drop i xs) ≡ true
  any_here d l h = ap (any t) (drop_more xs i d l) ∙ or_left _ _ h

  pub any_later : (d : A) → i < length xs → t (get_or xs i d) ≡ false → any t (drop i xs) ≡ any t (drop (i + 1) xs)
  any_later d l h = ap (any t) (drop_more xs i d l) ∙ ap (λ (b : Bool). b || any t (drop (i + 1) xs)) h

  pub any_none : length xs ≤ i → any t (drop i xs) ≡ false
  any_none l = ap (any t) (drop_all i xs l)
