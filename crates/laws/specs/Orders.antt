-- The visible orders of the four languages, and what a name reaches by any such order.
use Rattle.std.specs.Prelude.{◌≡◌, ℕ, ◌<◌, true, false, List, length, Some, None, Option, slice_index}
use Rattle.model.specs.declared.nodes.Node.{Node}
use Rattle.model.specs.Kinds.{declares}
use Rattle.model.specs.Names.{alike, kind_at, name_at}
use Rattle.model.specs.Forest.{shape}
use Rattle.model.specs.Scopes.{Order, card_order, tree_order, flat_order, root_order, card, tree_language, flat, by_root, reach}
use Rattle.model.specs.Classes.{source_of, reach_at}
use Rattle.model.specs.Rules.{Visible, Part, kinds_of, numbers_of}

pub record OrdersVisible : Type 0 where
  pub card : Visible card_order
  pub tree : Visible tree_order
  pub flat : Visible flat_order
  pub by_root : Visible root_order

pub record LanguagesParts : Type 0 where
  pub card : Part card by_root
  pub tree : Part tree_language by_root
  pub flat : Part flat by_root

-- the declaration at a place of the list that the name at place i can see
abbrev pub seen_at : Order → List Node → ℕ → ℕ → ℕ
seen_at order p i k = slice_index (order (shape p) i) k

-- before place k of that list nothing is spelled as the name is
abbrev pub UnlikeBefore : Order → List Node → ℕ → ℕ → Type 0
UnlikeBefore order p i k = (j : ℕ) → j < k → alike (name_at p i) (name_at p (seen_at order p i j)) ≡ false

-- the name at place i reaches d
pub record Reached (order : Order) (p : List Node) (i d : ℕ) : Type 0 where
  pub declaration : declares (kind_at p d) ≡ true
  pub itself : reach order p d ≡ Some d
  pub spelled : alike (name_at p i) (name_at p d) ≡ true
  pub place : ℕ
  pub within : place < length (order (shape p) i)
  pub seen : seen_at order p i place ≡ d
  pub first : UnlikeBefore order p i place

abbrev pub Reach : Order → List Node → ℕ → Option ℕ → Type 0
Reach order p i None = UnlikeBefore order p i (length (order (shape p) i))
Reach order p i (Some d) = Reached order p i d

pub record ReachLaws (order : Order) : Type 0 where
  -- nothing in the list is spelled alike, or the first that is
  pub reach_is : (p : List Node) (i : ℕ) → Reach order p i (reach order p i)
  -- the reaches of a program say of every place what it reaches
  pub reaches_are : (p : List Node) (i : ℕ) → reach_at (source_of order p) i ≡ reach order p i

abbrev pub ReachesLawful : Type 0
ReachesLawful = (order : Order) → Visible order → ReachLaws order

-- the names at two places are spelled alike in both programs or in neither
abbrev pub SameLikeness : List Node → List Node → Type 0
SameLikeness p q = (i j : ℕ) → alike (name_at p i) (name_at p j) ≡ alike (name_at q i) (name_at q j)

-- of the spelling of names it matters only which are alike
abbrev pub ByLikeness : Order → Type 0
ByLikeness order = (p q : List Node) → kinds_of p ≡ kinds_of q → numbers_of p ≡ numbers_of q → SameLikeness p q → (i : ℕ) → reach order p i ≡ reach order q i
