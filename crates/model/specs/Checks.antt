-- Checks 9 to 12, each over the whole draft, with the lowest place.
use Rattle.std.specs.Prelude.{ℕ, Bool, false, not, ◌&&◌, ◌||◌, List, Some, None, Option, slice_index_or}
use Rattle.model.specs.declared.nodes.Origin.{Origin}
use Rattle.model.specs.declared.nodes.Origin.TheVariants.{Copied, Private, Outer}
use Rattle.model.specs.declared.nodes.Entry.{Entry}
use Rattle.model.specs.declared.faults.RepairFault.{RepairFault}
use Rattle.model.specs.declared.faults.RepairFault.TheVariants.{FromNoName, SpelledApart, OuterDeclared, Lost}
use Rattle.model.specs.Lists.{any, first_with, places, or_else, or_next, is_none}
use Rattle.model.specs.Kinds.{has_name, declares}
use Rattle.model.specs.Names.{alike, name_at, kind_at, entry_at}
use Rattle.model.specs.declared.classes.Class.{Class}
use Rattle.model.specs.Classes.{Draft, Source, reach_at, together, is_outer, is_inner}

-- 9: copied from no name node
abbrev pub copied_from_no_name : Source → Origin → Bool
copied_from_no_name s (Copied k) = not (has_name (kind_at s.program k))
copied_from_no_name s (Private g) = false
copied_from_no_name s Outer = false

abbrev pub from_no_name : Source → Draft → ℕ → Bool
from_no_name s d i = has_name (entry_at d i).node.kind && copied_from_no_name s (entry_at d i).origin

-- the lowest node of the class of the name at place i
abbrev pub lowest_of : List (Option Class) → ℕ → ℕ
lowest_of cs i = or_else i (first_with (λ j. together (slice_index_or cs i None) (slice_index_or cs j None)) (places cs))

abbrev pub spelled_as : Draft → ℕ → ℕ → Bool
spelled_as d i j = alike (entry_at d i).node.name (entry_at d j).node.name

abbrev pub unlike_free : Source → Entry → Origin → Bool
unlike_free s e (Copied k) = is_none (reach_at s k) && not (alike e.node.name (name_at s.program k))
unlike_free s e (Private g) = false
unlike_free s e Outer = false

-- 10: not spelled as the lowest node of its class, or copied from a free name and not spelled as it
abbrev pub spelled_apart : Source → List (Option Class) → Draft → ℕ → Bool
spelled_apart s cs d i =
    has_name (entry_at d i).node.kind && (not (spelled_as d i (lowest_of cs i)) || unlike_free s (entry_at d i) (entry_at d i).origin)

-- 11: a declaration of outer class
abbrev pub outer_declared : List (Option Class) → Draft → ℕ → Bool
outer_declared cs d i = declares (entry_at d i).node.kind && is_outer (slice_index_or cs i None)

-- 12, lost: a class not outer, with no declaration of it in the name's visible order
abbrev pub lost : (ℕ → List ℕ) → List (Option Class) → ℕ → Bool
lost sees cs i = is_inner (slice_index_or cs i None) && not (any (λ j. together (slice_index_or cs i None) (slice_index_or cs j None)) (sees i))

abbrev pub at_place : (ℕ → RepairFault) → Option ℕ → Option RepairFault
at_place f None = None
at_place f (Some i) = Some (f i)

-- the checks in turn: the first fault, at its lowest place
abbrev pub fault : Source → (ℕ → List ℕ) → List (Option Class) → Draft → Option RepairFault
fault s sees cs d =
    or_next (at_place FromNoName (first_with (from_no_name s d) (places d)))
    (or_next (at_place SpelledApart (first_with (spelled_apart s cs d) (places d)))
    (or_next (at_place OuterDeclared (first_with (outer_declared cs d) (places d)))
    (at_place Lost (first_with (lost sees cs) (places d)))))
