-- The repair: captors, fresh spellings, rounds.
use Rattle.std.specs.Prelude.{◌≡◌, ℕ, zero, suc, ◌+◌, Bool, cond, not, ◌&&◌, List, [], ◌∷◌, map, length, Some, None, Ok, Err, Option, Result, ◌≢◌, nat_eq, slice_index_or}
use Rattle.model.specs.declared.nodes.Name.{Name}
use Rattle.model.specs.declared.nodes.Node.{Node}
use Rattle.model.specs.declared.faults.RepairFault.{RepairFault}
use Rattle.model.specs.Lists.{keep, any, first_with, or_else, counting, places}
use Rattle.model.specs.Kinds.{has_name}
use Rattle.model.specs.Names.{same_stem, with_mark, name_at, respelled, nodes}
use Rattle.model.specs.Forest.{shape}
use Rattle.model.specs.Scopes.{Order, reach_by}
use Rattle.model.specs.declared.classes.Class.{Class}
use Rattle.model.specs.Classes.{Draft, Source, together, classes}
use Rattle.model.specs.Checks.{fault}

-- no lower name is of its class
abbrev pub leads : List (Option Class) → ℕ → Bool
leads cs e = not (any (λ j. together (slice_index_or cs e None) (slice_index_or cs j None)) (counting 0 e))

-- for each name, the class of the declaration that it reaches
abbrev pub class_reached : List (Option Class) → Option ℕ → Option Class
class_reached cs None = None
class_reached cs (Some d) = slice_index_or cs d None

abbrev pub classes_reached : (ℕ → List ℕ) → List (Option Class) → List Node → List (Option Class)
classes_reached sees cs p = map (λ i. class_reached cs (reach_by sees p i)) (places p)

-- a name of another class than name e reaches a declaration of the class of e: own classes and reached classes, name by name
abbrev pub captures : List (Option Class) → List (Option Class) → ℕ → Bool
captures cs rs e = any (λ i. together (slice_index_or cs e None) (slice_index_or rs i None) && not (together (slice_index_or cs e None) (slice_index_or cs i None))) (places cs)

-- all captors, each by its lowest name, from the lowest up
abbrev pub captors : (ℕ → List ℕ) → List (Option Class) → List Node → List ℕ
captors sees cs p = let rs = classes_reached sees cs p in keep (λ e. leads cs e && captures cs rs e) (places p)

-- the marks in use with a stem
abbrev pub marks : Name → List Node → List ℕ
marks a p = map (λ n. n.name.mark) (keep (λ n. has_name n.kind && same_stem a n.name) p)

-- the smallest from 1 that is not in use: among one more than are in use there is one
abbrev pub unused : List ℕ → ℕ
unused used = or_else 0 (first_with (λ m. not (any (nat_eq m) used)) (counting 1 (length used + 1)))

-- the same stem and the smallest mark from 1 that no name has with that stem
abbrev pub fresh : Name → List Node → Name
fresh a p = with_mark a (unused (marks a p))

-- every name of the class is spelled so
abbrev pub respell : Option Class → Name → List (Option Class) → List Node → List Node
respell c a [] [] = []
respell c a [] (n ∷ ns) = n ∷ ns
respell c a (e ∷ es) [] = []
respell c a (e ∷ es) (n ∷ ns) = cond (together c e) (respelled n a) n ∷ respell c a es ns

-- the classes of these names in turn get a fresh spelling
abbrev pub respell_all : List ℕ → List (Option Class) → List Node → List Node
respell_all [] cs p = p
respell_all (e ∷ more) cs p = respell_all more cs (respell (slice_index_or cs e None) (fresh (name_at p e) p) cs p)

abbrev pub round : (ℕ → List ℕ) → List (Option Class) → List Node → List Node
round sees cs p = respell_all (captors sees cs p) cs p

-- the round that finds no captor ends the repair: the result, and the count of the rounds before it
pub data Repairs (sees : ℕ → List ℕ) (cs : List (Option Class)) : List Node → ℕ → List Node → Type 0 where
  done : {p : List Node} → captors sees cs p ≡ [] → Repairs sees cs p 0 p
  again : {p q : List Node} {n : ℕ} → (captors sees cs p ≢ []) → Repairs sees cs (round sees cs p) n q → Repairs sees cs p (suc n) q

pub record Mended : Type 0 where
  pub program : List Node
  pub rounds : ℕ

abbrev pub one_more : Mended → Mended
one_more m = record { program = m.program; rounds = suc m.rounds }

-- the same by computing, in so many rounds at most
abbrev pub repair_within : ℕ → (ℕ → List ℕ) → List (Option Class) → List Node → Mended
repair_within zero sees cs p = record { program = p; rounds = 0 }
repair_within (suc k) sees cs p =
    elim (captors sees cs p) [
      | [] ↦ record { program = p; rounds = 0 }
      | e ∷ more ↦ one_more (repair_within k sees cs (respell_all (e ∷ more) cs p))
    ]

-- no class is respelled twice, so a round for each node is enough
abbrev pub repair : (ℕ → List ℕ) → List (Option Class) → List Node → Mended
repair sees cs p = repair_within (length p) sees cs p

-- checks 9 to 12, then the rounds; the order is that of the draft's own language
abbrev pub mend : Order → Source → Draft → Result Mended RepairFault
mend order s d =
    let cs = classes s d in
    let sees = order (shape (nodes d)) in
    elim (fault s sees cs d) [ None ↦ Ok (repair sees cs (nodes d)) | Some f ↦ Err f ]
