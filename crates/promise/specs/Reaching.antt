-- What the names of a mended program reach, and what a repair leaves alone.
use Rattle.std.specs.Prelude.{◌≡◌, ℕ, true, false, cond, List, Some, None, Ok, Option, slice_index_or}
use Rattle.model.specs.Lists.{first_with}
use Rattle.model.specs.Kinds.{has_name}
use Rattle.model.specs.Names.{name_at, kind_at, nodes}
use Rattle.model.specs.Forest.{shape}
use Rattle.model.specs.Scopes.{Order, reach}
use Rattle.model.specs.declared.classes.Class.{Class}
use Rattle.model.specs.Classes.{Source, classes, together, is_outer, is_inner, Draft, class_at}
use Rattle.model.specs.Repair.{Mended, Repairs, mend}
use Rattle.model.specs.Stages.{with_origins}
use Rattle.model.specs.Rules.{kinds_of, numbers_of, Visible}

-- the first declaration in sight of the name's own class
abbrev pub home : (ℕ → List ℕ) → List (Option Class) → ℕ → Option ℕ
home sees cs i = first_with (λ d. together (slice_index_or cs i None) (slice_index_or cs d None)) (sees i)

-- what the name at place i is to reach: nothing, if its class is outer or it is no name
abbrev pub aim : (ℕ → List ℕ) → List (Option Class) → ℕ → Option ℕ
aim sees cs i = cond (is_inner (slice_index_or cs i None)) (home sees cs i) None

-- the program of an accepted draft: all but names is the draft's; a class has one spelling, an outer class its own;
-- a name of another class reaches the first declaration of its class in sight, and there is one
pub record Reaching (order : Order) (s : Source) (d : Draft) (m : Mended) : Type 0 where
  pub kinds : kinds_of m.program ≡ kinds_of (nodes d)
  pub numbers : numbers_of m.program ≡ numbers_of (nodes d)
  pub shapes : shape m.program ≡ shape (nodes d)
  pub repairs : Repairs (order (shape (nodes d))) (classes s d) (nodes d) m.rounds m.program
  pub one_spelling : (i j : ℕ) → together (class_at s d i) (class_at s d j) ≡ true → name_at m.program i ≡ name_at m.program j
  pub outer_kept : (i : ℕ) → is_outer (class_at s d i) ≡ true → name_at m.program i ≡ name_at (nodes d) i
  pub nameless : (i : ℕ) → has_name (kind_at (nodes d) i) ≡ false → name_at m.program i ≡ name_at (nodes d) i
  pub reaches : (i : ℕ) → reach order m.program i ≡ aim (order (shape (nodes d))) (classes s d) i
  pub found : (i : ℕ) → is_inner (class_at s d i) ≡ true → (e : ℕ) × (home (order (shape (nodes d))) (classes s d) i ≡ Some e)

abbrev pub MendedReaches : Type 0
MendedReaches = (order : Order) → Visible order → (s : Source) (d : Draft) (m : Mended) → mend order s d ≡ Ok m → Reaching order s d m

-- the program of an accepted draft, with the draft's origins, is mended to itself in no round
abbrev pub MendedAgain : Type 0
MendedAgain = (order : Order) → Visible order → (s : Source) (d : Draft) (m : Mended) → mend order s d ≡ Ok m → mend order s (with_origins d m.program) ≡ Ok (record { program = m.program; rounds = 0 })
