-- Of any sink that is put on twice.
use Rattle.std.proofs.Common.{◌≡◌, ℕ, ◌+◌, ◌≤◌, List, ◌++◌, length, min, sym, ap, subst, arith, length-append}
use Rattle.script.specs.Sinks.{SinkLaws}

-- a text of two parts, where there is room for both
module _ {S : Type 0} {room : S → ℕ → Type 0} {grown : S → List ℕ → S → Type 0} (laws : SinkLaws room grown) (s : S) (text xs ys : List ℕ) (is : text ≡ xs ++ ys) (r : room s (length text)) where
  pub first_room : room s (length xs)
  first_room = laws.fewer s _ _ (omega (arith, ap length is, length-append xs ys)) r

  pub next_room : (t : S) → grown s xs t → room t (length ys)
  next_room t g = laws.left s t xs (length ys) (laws.fewer s _ _ (omega (arith, ap length is, length-append xs ys)) r) g

  pub both_put : (t u : S) → grown s xs t → grown t ys u → grown s text u
  both_put t u g h = subst (λ (l : List ℕ). grown s l u) (sym is) (laws.further s t u xs ys first_room g h)

-- where there is room for the text or for as much as it could be at most, whichever is less
module _ {S : Type 0} {room : S → ℕ → Type 0} {grown : S → List ℕ → S → Type 0} (laws : SinkLaws room grown) (s : S) (long most : ℕ) (r : room s (min long most)) where
  pub some_room : (n : ℕ) → n ≤ long → n ≤ most → room s n
  some_room n l m = laws.fewer s n _ (omega (arith, l, m)) r

  pub some_left : (t : S) (xs : List ℕ) (n : ℕ) → length xs + n ≤ long → length xs + n ≤ most → grown s xs t → room t n
  some_left t xs n l m g = laws.left s t xs n (some_room _ l m) g
