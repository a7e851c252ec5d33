-- What a round keeps, that no class is respelled twice, that the repair ends, and how large a fresh mark is.
use Rattle.std.specs.Prelude.{◌≡◌, ℕ, ◌+◌, ◌<◌, ◌≤◌, Bool, true, false, ◌&&◌, List, ◌∷◌, ◌++◌, length, is_some, None, Option, ◌≢◌, nat_eq, slice_index_or}
use Rattle.model.specs.declared.nodes.Name.{Name}
use Rattle.model.specs.declared.nodes.Node.{Node}
use Rattle.model.specs.Lists.{keep, any, places}
use Rattle.model.specs.Kinds.{has_name, declares}
use Rattle.model.specs.Names.{name_at, kind_at, nodes}
use Rattle.model.specs.Forest.{shape}
use Rattle.model.specs.Scopes.{Order}
use Rattle.model.specs.declared.classes.Class.{Class}
use Rattle.model.specs.Classes.{Draft, Source, classes, together, is_outer}
use Rattle.model.specs.Checks.{fault}
use Rattle.model.specs.Repair.{leads, classes_reached, captures, captors, marks, fresh, respell_all, round, Repairs, repair}
use Rattle.model.specs.Rules.{kinds_of, numbers_of, Visible}

-- a class for each name of the program, and none for a node without a name
pub record Classed (cs : List (Option Class)) (p : List Node) : Type 0 where
  pub long : length p ≡ length cs
  pub named_there : (i : ℕ) → has_name (kind_at p i) ≡ is_some (slice_index_or cs i None)

-- each class has one spelling
abbrev pub OneSpelling : List (Option Class) → List Node → Type 0
OneSpelling cs p = (i j : ℕ) → together (slice_index_or cs i None) (slice_index_or cs j None) ≡ true → name_at p i ≡ name_at p j

-- no declaration is of outer class
abbrev pub NoOuter : List (Option Class) → List Node → Type 0
NoOuter cs p = (d : ℕ) → declares (kind_at p d) ≡ true → is_outer (slice_index_or cs d None) ≡ false

-- a fresh spelling has the stem, and the smallest mark from 1 that no name has with it
pub record Fresh (a : Name) (p : List Node) : Type 0 where
  pub stem : (fresh a p).stem ≡ a.stem
  pub from_one : 1 ≤ (fresh a p).mark
  pub not_in_use : any (nat_eq (fresh a p).mark) (marks a p) ≡ false
  pub smallest : (m : ℕ) → 1 ≤ m → m < (fresh a p).mark → any (nat_eq m) (marks a p) ≡ true

abbrev pub FreshSpelling : Type 0
FreshSpelling = (a : Name) (p : List Node) → Fresh a p

-- every draft has its classes; past the checks each class has one spelling, and no declaration is of outer class
abbrev pub DraftsClassed : Type 0
DraftsClassed =
    (s : Source) (d : Draft)
    → Classed (classes s d) (nodes d)
    × ((sees : ℕ → List ℕ) → fault s sees (classes s d) d ≡ None → OneSpelling (classes s d) (nodes d) × NoOuter (classes s d) (nodes d))

-- The rounds, by a visible order that keeps its laws, over a program with its classes

-- kinds, numbers and what stands for a name where there is none are kept; where a class has one spelling, so has it after the round, and the stems are kept;
-- where no declaration is of outer class, the names of outer classes are kept
pub record RoundKept (sees : ℕ → List ℕ) (cs : List (Option Class)) (p : List Node) : Type 0 where
  pub kinds : kinds_of (round sees cs p) ≡ kinds_of p
  pub numbers : numbers_of (round sees cs p) ≡ numbers_of p
  pub nameless : (i : ℕ) → has_name (kind_at p i) ≡ false → name_at (round sees cs p) i ≡ name_at p i
  pub one_spelling : OneSpelling cs p → OneSpelling cs (round sees cs p)
  pub stems : OneSpelling cs p → (i : ℕ) → (name_at (round sees cs p) i).stem ≡ (name_at p i).stem
  pub outer : NoOuter cs p → (i : ℕ) → is_outer (slice_index_or cs i None) ≡ true → name_at (round sees cs p) i ≡ name_at p i

abbrev pub RoundKeeps : Type 0
RoundKeeps = (order : Order) → Visible order → (cs : List (Option Class)) (p : List Node) → Classed cs p → RoundKept (order (shape p)) cs p

-- the programs that the rounds go through
pub data Visits (sees : ℕ → List ℕ) (cs : List (Option Class)) : List Node → List Node → Type 0 where
  here : {p : List Node} → Visits sees cs p p
  next : {p q : List Node} → Visits sees cs (round sees cs p) q → Visits sees cs p q

-- the class of name e is alone with its spelling, and has no more turn
pub record Alone (sees : ℕ → List ℕ) (cs : List (Option Class)) (e : ℕ) (q : List Node) : Type 0 where
  pub spelling : (i j : ℕ) → together (slice_index_or cs e None) (slice_index_or cs i None) ≡ true → is_some (slice_index_or cs j None) ≡ true → name_at q j ≡ name_at q i → together (slice_index_or cs e None) (slice_index_or cs j None) ≡ true
  pub no_captor : captures cs (classes_reached sees cs q) e ≡ false
  pub no_turn : (done more : List ℕ) → captors sees cs q ≢ done ++ e ∷ more

-- a class that is respelled in a round is alone after it and after every later one
abbrev pub RespelledOnce : Type 0
RespelledOnce = (order : Order) → Visible order → (cs : List (Option Class)) (p : List Node) → Classed cs p → (done : List ℕ) (e : ℕ) (more : List ℕ) → captors (order (shape p)) cs p ≡ done ++ e ∷ more → (q : List Node) → Visits (order (shape p)) cs (round (order (shape p)) cs p) q → Alone (order (shape p)) cs e q

-- how many classes have a declaration: the places that lead their class, and whose class has one
abbrev pub has_declaration : List (Option Class) → List Node → ℕ → Bool
has_declaration cs p e = any (λ d. declares (kind_at p d) && together (slice_index_or cs e None) (slice_index_or cs d None)) (places cs)

abbrev pub declared_classes : List (Option Class) → List Node → ℕ
declared_classes cs p = length (keep (λ e. leads cs e && has_declaration cs p e) (places cs))

-- the repair by computing is what the rounds give, soon enough, and they give nothing else
pub record Ends (sees : ℕ → List ℕ) (cs : List (Option Class)) (p : List Node) : Type 0 where
  pub repairs : Repairs sees cs p (repair sees cs p).rounds (repair sees cs p).program
  pub within : (repair sees cs p).rounds ≤ declared_classes cs p
  pub only : (n : ℕ) (q : List Node) → Repairs sees cs p n q → (n ≡ (repair sees cs p).rounds) × (q ≡ (repair sees cs p).program)

abbrev pub RepairEnds : Type 0
RepairEnds = (order : Order) → Visible order → (cs : List (Option Class)) (p : List Node) → Classed cs p → Ends (order (shape p)) cs p

-- where a class has one spelling and the root no name: whenever a captor has its turn, after those before it, its fresh mark is below the number of nodes
abbrev pub MarksSmall : Type 0
MarksSmall = (order : Order) → Visible order → (cs : List (Option Class)) (p : List Node) → Classed cs p → OneSpelling cs p → has_name (kind_at p 0) ≡ false → (q : List Node) → Visits (order (shape p)) cs p q → (done : List ℕ) (e : ℕ) (more : List ℕ) → captors (order (shape p)) cs q ≡ done ++ e ∷ more → (fresh (name_at (respell_all done cs q) e) (respell_all done cs q)).mark + 1 ≤ length p
