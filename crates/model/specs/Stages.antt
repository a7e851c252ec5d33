-- Transformations, and stages: a transformation under a repair, or two stages in a row.
use Rattle.std.specs.Prelude.{ℕ, Bool, true, false, List, [], ◌∷◌, length, Ok, Err, Option, Result, nat_le}
use Rattle.model.specs.declared.nodes.Node.{Node}
use Rattle.model.specs.declared.faults.StageFault.TheVariants.{WrongSource, DraftTooLarge}
use Rattle.model.specs.declared.faults.DraftFault.{DraftFault}
use Rattle.model.specs.declared.faults.DraftFault.TheVariants.{Stage as OfStage, Repair as OfRepair}
use Rattle.model.specs.Lists.{and_then, raised}
use Rattle.model.specs.Names.{root_of}
use Rattle.model.specs.Scopes.{Language}
use Rattle.model.specs.Classes.{Draft, Source}
use Rattle.model.specs.Repair.{Mended, mend}

-- it names its source and its target language, and makes a draft, however large, of a program and its reaches.
-- It may refuse to; that a root is not of its source and that a draft is too large is not its own to say
pub record Transformation : Type 0 where
  pub source : Language
  pub target : Language
  pub draft : Source → Result Draft DraftFault

abbrev pub within_limit : Draft → Bool
within_limit d = nat_le (length d) 1024

abbrev pub limited : Draft → Result Draft DraftFault
limited d = elim (within_limit d) [ true ↦ Ok d | false ↦ Err (OfStage DraftTooLarge) ]

-- refused with 7 exactly when the root is not of the source language, then with 8 exactly when the draft exceeds 1,024 nodes
abbrev pub meaning : Transformation → Source → Result Draft DraftFault
meaning t s = elim (t.source.grammar.roots (root_of s.program)) [ true ↦ and_then (t.draft s) limited | false ↦ Err (OfStage WrongSource) ]

-- a given draft, already read: it takes every program of the language, and its target goes by the draft's root
abbrev pub foreign : Language → Draft → Transformation
foreign l d = record { source = l; target = l; draft = λ s. Ok d }

-- a draft that is not refused, and what the repair makes of it
pub record Repaired : Type 0 where
  pub draft : Draft
  pub mended : Mended

-- a draft of the language, under repair
abbrev pub mended_in : Language → Source → Draft → Result Repaired DraftFault
mended_in l s d = and_then (raised OfRepair (mend l.visible s d)) (λ m. Ok (record { draft = d; mended = m }))

-- the transformation's draft, under repair
abbrev pub repairing : Transformation → Source → Result Repaired DraftFault
repairing t s = and_then (meaning t s) (mended_in t.target s)

-- the nodes of a program with the origins of the draft that it was
abbrev pub with_origins : Draft → List Node → Draft
with_origins [] p = []
with_origins (e ∷ es) [] = []
with_origins (e ∷ es) (n ∷ ns) = record { node = n; origin = e.origin } ∷ with_origins es ns

-- a draft that is not too large is mended
abbrev pub mended_draft : Language → Source → Draft → Result Draft DraftFault
mended_draft l s d =
    elim (within_limit d) [ true ↦ and_then (mended_in l s d) (λ r. Ok (with_origins r.draft r.mended.program)) | false ↦ Ok d ]

-- a repaired transformation is again one
abbrev pub repaired : Transformation → Transformation
repaired t = record { source = t.source; target = t.target; draft = λ s. and_then (t.draft s) (mended_draft t.target s) }

-- no repair stands over a row
pub data Stage : Type 0 where
  under_repair : Transformation → Stage
  in_row : Stage → Stage → Stage

abbrev pub first_source : Stage → Language
first_source (under_repair t) = t.source
first_source (in_row a b) = first_source a

abbrev pub last_target : Stage → Language
last_target (under_repair t) = t.target
last_target (in_row a b) = last_target b

-- what a session is made with: one grammar and one visible order for each root, and numbered stages
pub record World : Type 0 where
  pub language : Language
  pub stages : ℕ → Option Stage
