-- Flatten: from tree to flat.
use Rattle.std.specs.Prelude.{ℕ, ◌+◌, ◌*◌, cond, List, [], ◌∷◌, Ok, slice_index_or}
use Rattle.model.specs.declared.kinds.Kind.{Kind}
use Rattle.model.specs.declared.kinds.Kind.TheVariants.{Flat, Let, Put, End, Slot, Label, Set, Goto, Skip, Emit, Ref, If, Bind}
use Rattle.model.specs.declared.nodes.Node.{Node}
use Rattle.model.specs.Kinds.{is}
use Rattle.model.specs.Forest.{Forest, nil, tree, beside, over, leaf, grow, size, width, children}
use Rattle.model.specs.Scopes.{tree_language, flat}
use Rattle.model.specs.Classes.{Draft, Source}
use Rattle.model.specs.Stages.{Transformation}
use Rattle.model.specs.Plans.{Naming, like, own, Plan, plain, counted, named, copy, spell_out}

-- what a statement or an expression becomes: steps, and for an expression the value after them
pub record Flattened : Type 0 where
  pub steps : Plan
  pub value : Plan

abbrev pub nothing : Flattened
nothing = record { steps = nil; value = nil }

abbrev pub all_steps : List Flattened → Plan
all_steps [] = nil
all_steps (f ∷ fs) = beside f.steps (all_steps fs)

abbrev pub all_values : List Flattened → Plan
all_values [] = nil
all_values (f ∷ fs) = beside f.value (all_values fs)

-- a slot for the name of node i, its value set, and the steps after it
abbrev pub stored : ℕ → Flattened → Plan → Plan
stored i x next = beside x.steps (tree (named Slot (like i)) nil (tree (named Set (like i)) x.value next))

abbrev pub result : ℕ → Naming
result i = own "r" (3 * i)

abbrev pub no_label : ℕ → Naming
no_label i = own "no" (3 * i + 1)

abbrev pub fin_label : ℕ → Naming
fin_label i = own "fin" (3 * i + 2)

-- if c a b at node i
abbrev pub branches : ℕ → Flattened → Flattened → Flattened → Plan
branches i c a b =
    beside c.steps
    (tree (named Slot (result i)) nil (tree (named Skip (no_label i)) c.value
    (beside a.steps
    (tree (named Set (result i)) a.value (tree (named Goto (fin_label i)) nil (tree (named Label (no_label i)) nil
    (beside b.steps
    (tree (named Set (result i)) b.value (leaf (named Label (fin_label i)))))))))))

pub data Turn : Type 0 where
  slot_let : Turn
  emit_put : Turn
  slot_bind : Turn
  branch_if : Turn
  end_here : Turn
  as_it_is : Turn

abbrev pub turn : Kind → Turn
turn k =
    cond (is k Let) slot_let (cond (is k Put) emit_put (cond (is k Bind) slot_bind (cond (is k If) branch_if (cond (is k End) end_here as_it_is))))

-- node i, where x, y and z are what the first three of its children became
abbrev pub flattened_node : Turn → ℕ → Node → Flattened → Flattened → Flattened → List Flattened → Flattened
flattened_node slot_let i n x y z all = record { steps = stored i x y.steps; value = nil }
flattened_node emit_put i n x y z all = record { steps = beside x.steps (tree (plain Emit) x.value y.steps); value = nil }
flattened_node slot_bind i n x y z all = record { steps = stored i x y.steps; value = y.value }
flattened_node branch_if i n x y z all = record { steps = branches i x y z; value = leaf (named Ref (result i)) }
flattened_node end_here i n x y z all = nothing
flattened_node as_it_is i n x y z all = record { steps = all_steps all; value = over (copy i n) (all_values all) }

abbrev pub of_children : ℕ → Node → List Flattened → Flattened
of_children i n ps = flattened_node (turn n.kind) i n (slice_index_or ps 0 nothing) (slice_index_or ps 1 nothing) (slice_index_or ps 2 nothing) ps

-- each of the statements and expressions from number i on
abbrev pub flattened : ℕ → Forest Node → List Flattened
flattened i nil = []
flattened i (tree n cs rest) = of_children i n (flattened (i + 1) cs) ∷ flattened (i + 1 + size cs) rest

abbrev pub over_steps : Plan → Plan
over_steps ss = over (counted Flat (width ss)) ss

abbrev pub flatten_plan : List Node → Plan
flatten_plan p = over_steps (all_steps (flattened 1 (children (grow p))))

abbrev pub flatten_draft : Source → Draft
flatten_draft s = spell_out s.program (flatten_plan s.program)

abbrev pub flatten : Transformation
flatten = record { source = tree_language; target = flat; draft = λ s. Ok (flatten_draft s) }
