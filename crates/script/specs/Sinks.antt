-- What takes a text piece by piece.
use Rattle.std.specs.Prelude.{ℕ, ◌+◌, ◌≤◌, List, [], ◌++◌, length}

-- there is room for fewer bytes where there is for more, and for what is left after some are put;
-- bytes put one after another are put as one text
pub record SinkLaws {S : Type 0} (room : S → ℕ → Type 0) (grown : S → List ℕ → S → Type 0) : Type 0 where
  pub fewer : (s : S) (m n : ℕ) → m ≤ n → room s n → room s m
  pub left : (s t : S) (xs : List ℕ) (n : ℕ) → room s (length xs + n) → grown s xs t → room t n
  pub nothing : (s : S) → grown s [] s
  pub further : (s t u : S) (xs ys : List ℕ) → room s (length xs) → grown s xs t → grown t ys u → grown s (xs ++ ys) u
