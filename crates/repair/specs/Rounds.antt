-- What a round asks of the names.
use Rattle.std.specs.Prelude.{ℕ, Bool, not, ◌&&◌, List, map, None, Option, slice_index_or}
use Rattle.model.specs.Lists.{first_with, places}
use Rattle.model.specs.declared.classes.Class.{Class}
use Rattle.model.specs.Classes.{together}
use Rattle.model.specs.Repair.{class_reached}

-- of a row of reaches, the class of each declaration that is reached
abbrev pub classes_of : List (Option Class) → List (Option ℕ) → List (Option Class)
classes_of cs reached = map (class_reached cs) reached

-- name i is of another class than the captor, and reaches a declaration of the captor's
abbrev pub captured : List (Option Class) → List (Option Class) → ℕ → ℕ → Bool
captured cs rs captor i = together (slice_index_or cs captor None) (slice_index_or rs i None) && not (together (slice_index_or cs captor None) (slice_index_or cs i None))

abbrev pub lowest_captive : List (Option Class) → List (Option Class) → ℕ → Option ℕ
lowest_captive cs rs captor = first_with (captured cs rs captor) (places cs)
