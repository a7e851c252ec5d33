-- The book: a script, what it has become, and where each name came from.
use Rattle.std.specs.Prelude.{ℕ, suc, ◌+◌, Bool, cond, not, ◌&&◌, List, [], ◌∷◌, map, length, Ok, Result, ◌==◌}
use Rattle.model.specs.declared.nodes.Name.{Name}
use Rattle.model.specs.declared.nodes.Node.{Node}
use Rattle.model.specs.declared.nodes.Origin.{Origin}
use Rattle.model.specs.declared.nodes.Origin.TheVariants.{Copied, Private, Outer}
use Rattle.model.specs.declared.nodes.Entry.{Entry}
use Rattle.model.specs.declared.faults.DraftFault.{DraftFault}
use Rattle.model.specs.Lists.{keep, and_then, places}
use Rattle.model.specs.Kinds.{has_name}
use Rattle.model.specs.Names.{kind_at, node_at, entry_at}
use Rattle.model.specs.Classes.{Draft, source_of}
use Rattle.model.specs.Stages.{Transformation, Repaired, repairing, Stage, under_repair, in_row}

-- the loaded script, the drafts accepted since, the latest first, and the program now; new, it holds no node
pub record Book : Type 0 where
  pub script : List Node
  pub drafts : List Draft
  pub program : List Node

abbrev pub new : Book
new = record { script = []; drafts = []; program = [] }

-- a text's program is its own script
abbrev pub loaded : List Node → Book
loaded p = record { script = p; drafts = []; program = p }

abbrev pub entered : Book → Repaired → Book
entered b r = record { script = b.script; drafts = r.draft ∷ b.drafts; program = r.mended.program }

-- Where a name came from

-- a group of private names: which of the accepted drafts brought it, counted from 0, and its number there
pub record Group : Type 0 where
  pub draft : ℕ
  pub number : ℕ

-- from the script's name, from a group, or from the outside world with the spelling that it was brought with
pub data Came : Type 0 where
  from_script : ℕ → Came
  from_group : Group → Came
  from_outside : Name → Came

-- a script's names are its own; in a draft a name copied from k came from where k came from
abbrev pub came_from : List Draft → ℕ → Came
came_from [] i = from_script i
came_from (d ∷ ds) i =
    elim (entry_at d i).origin [
      | Copied k ↦ came_from ds k
      | Private g ↦ from_group (record { draft = length ds; number = g })
      | Outer ↦ from_outside (entry_at d i).node.name
    ]

abbrev pub came : Book → ℕ → Came
came b i = came_from b.drafts i

-- Origins as they are told: groups are numbered from 0 by first appearance

abbrev pub same_group : Group → Group → Bool
same_group g h = g.draft == h.draft && g.number == h.number

-- each group once, in the order of first appearance
abbrev pub with_group : Came → List Group → List Group
with_group (from_script k) gs = gs
with_group (from_group g) gs = g ∷ keep (λ h. not (same_group g h)) gs
with_group (from_outside a) gs = gs

abbrev pub groups_of : List Came → List Group
groups_of [] = []
groups_of (c ∷ cs) = with_group c (groups_of cs)

-- of the names of the program
abbrev pub groups : Book → List Group
groups b = groups_of (map (came b) (keep (λ i. has_name (kind_at b.program i)) (places b.program)))

-- its place in the list
abbrev pub group_number : List Group → Group → ℕ
group_number [] g = 0
group_number (h ∷ hs) g = let next = suc (group_number hs g) in cond (same_group h g) 0 next

abbrev pub told_origin : List Group → Came → Origin
told_origin gs (from_script k) = Copied k
told_origin gs (from_group g) = Private (group_number gs g)
told_origin gs (from_outside a) = Outer

abbrev pub origin : Book → ℕ → Origin
origin b i = told_origin (groups b) (came b i)

-- the program with its origins: what a session holds
abbrev pub held : Book → List Entry
held b =
    let gs = groups b in
    map (λ i. record { node = node_at b.program i; origin = cond (has_name (kind_at b.program i)) (told_origin gs (came b i)) Outer }) (places b.program)

-- Stages

pub record Ran : Type 0 where
  pub book : Book
  pub rounds : ℕ

abbrev pub ran : Book → Repaired → Ran
ran b r = record { book = entered b r; rounds = r.mended.rounds }

-- a transformation under repair, from the book's program
abbrev pub run_repaired : Transformation → Book → Result Ran DraftFault
run_repaired t b = and_then (repairing t (source_of t.source.visible b.program)) (λ r. Ok (ran b r))

-- in a row: the second's meaning on the first's program; the rounds are the sum
abbrev pub run : Stage → Book → Result Ran DraftFault
run (under_repair t) b = run_repaired t b
run (in_row s t) b =
    and_then (run s b) (λ r. and_then (run t r.book) (λ q. Ok (record { book = q.book; rounds = r.rounds + q.rounds })))
