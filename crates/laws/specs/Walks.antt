-- For code that walks a row of nodes by a place: trees in turn, and what lower and flatten make of them.
use Rattle.std.specs.Prelude.{◌≡◌, ℕ, suc, ◌+◌, ◌<◌, List, ◌∷◌, ◌++◌, length, take, drop, slice_index_or}
use Rattle.model.specs.declared.nodes.Node.{Node}
use Rattle.model.specs.Forest.{Forest, arity, first, after, beside, pre, grow, size}
use Rattle.model.specs.Plans.{Plan, spell_out}
use Rattle.model.specs.Lower.{turn, lowered_node, lowered}
use Rattle.model.specs.Flatten.{Flattened, of_children, flattened}

-- the first k trees and those after them: as parts of the list, lowered and flattened
pub record WalkLaws : Type 0 where
  pub after_grown : (k : ℕ) (p : List Node) → after k (grow p) ≡ grow (drop (size (first k (grow p))) p)
  pub first_grown : (k : ℕ) (p : List Node) → pre (first k (grow p)) ≡ take (size (first k (grow p))) p
  pub lowered_first : (k i : ℕ) (f : Forest Node) → lowered i (first k f) ≡ first k (lowered i f)
  pub lowered_after : (k i : ℕ) (f : Forest Node) → lowered (i + size (first k f)) (after k f) ≡ after k (lowered i f)
  pub flattened_first : (k i : ℕ) (f : Forest Node) → flattened i (first k f) ≡ take k (flattened i f)
  pub flattened_after : (k i : ℕ) (f : Forest Node) → flattened (i + size (first k f)) (after k f) ≡ drop k (flattened i f)
  pub spelled_beside : (p : List Node) (f g : Plan) → spell_out p (beside f g) ≡ spell_out p f ++ spell_out p g

-- the place after k trees from place i on, and what lower and flatten make of those trees
abbrev pub beyond : List Node → ℕ → ℕ → ℕ
beyond p i k = i + size (first k (grow (drop i p)))

abbrev pub lowered_from : List Node → ℕ → ℕ → Plan
lowered_from p i k = lowered i (first k (grow (drop i p)))

abbrev pub flattened_from : List Node → ℕ → ℕ → List Flattened
flattened_from p i k = flattened i (first k (grow (drop i p)))

-- one node on, at node n of place i: its children, then the trees after it
pub record StepsAt (p : List Node) (i k : ℕ) (n : Node) : Type 0 where
  pub on : beyond p i (suc k) ≡ beyond p (beyond p (i + 1) (arity n)) k
  pub lowers : lowered_from p i (suc k) ≡ lowered_node (turn n.kind) i n (lowered_from p (i + 1) (arity n)) (lowered_from p (beyond p (i + 1) (arity n)) k)
  pub flattens : flattened_from p i (suc k) ≡ of_children i n (flattened_from p (i + 1) (arity n)) ∷ flattened_from p (beyond p (i + 1) (arity n)) k

pub record WalkSteps : Type 0 where
  pub step : (p : List Node) (i k : ℕ) (d : Node) → i < length p → StepsAt p i k (slice_index_or p i d)
  -- of so many trees in a row, the first and those after them
  pub lowered_front : (p : List Node) (i a b : ℕ) → first a (lowered_from p i (a + b)) ≡ lowered_from p i a
  pub lowered_back : (p : List Node) (i a b : ℕ) → after a (lowered_from p i (a + b)) ≡ lowered_from p (beyond p i a) b
