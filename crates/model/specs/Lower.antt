-- Lower: from card to tree.
use Rattle.std.specs.Prelude.{ℕ, ◌+◌, ◌*◌, true, false, cond, List, Ok}
use Rattle.model.specs.declared.kinds.Kind.{Kind}
use Rattle.model.specs.declared.kinds.Kind.TheVariants.{Tree, Field, Def, Let, Put, End, Num, Ref, Byte, Add, Mul, If, Bind, First, Level}
use Rattle.model.specs.declared.nodes.Node.{Node}
use Rattle.model.specs.Kinds.{is}
use Rattle.model.specs.Forest.{Forest, nil, tree, first, after, beside, over, leaf, grow, size, children}
use Rattle.model.specs.Scopes.{card, tree_language}
use Rattle.model.specs.Classes.{Draft, Source}
use Rattle.model.specs.Stages.{Transformation}
use Rattle.model.specs.Plans.{Naming, like, own, world, Plan, plain, counted, named, copy, spell_out}

-- `first a b` becomes `bind t` of a with body if(t, t, b), and `level a` the sum of a and datum; all else is copied
pub data Turn : Type 0 where
  bound_first : Turn
  above_datum : Turn
  as_it_is : Turn

abbrev pub turn : Kind → Turn
turn k = cond (is k First) bound_first (cond (is k Level) above_datum as_it_is)

abbrev the_t : ℕ → Naming
the_t i = own "t" (2048 + i)

-- node i, where its children and the trees after it have become these
abbrev pub lowered_node : Turn → ℕ → Node → Plan → Plan → Plan
lowered_node bound_first i n cs rest =
    tree (named Bind (the_t i)) (beside (first 1 cs) (over (plain If) (tree (named Ref (the_t i)) nil (tree (named Ref (the_t i)) nil (after 1 cs))))) rest
lowered_node above_datum i n cs rest = tree (plain Add) (beside cs (leaf (named Ref (world "datum")))) rest
lowered_node as_it_is i n cs rest = tree (copy i n) cs rest

-- the expressions from number i on
abbrev pub lowered : ℕ → Forest Node → Plan
lowered i nil = nil
lowered i (tree n cs rest) = lowered_node (turn n.kind) i n (lowered (i + 1) cs) (lowered (i + 1 + size cs) rest)

abbrev pub hi : ℕ → Naming
hi f = own "hi" (2 * f)

abbrev pub lo : ℕ → Naming
lo f = own "lo" (2 * f + 1)

-- the reads of field f at the head: hi and lo, and what follows
abbrev pub reads : ℕ → ℕ → Plan → Plan
reads f n next = over (named Let (hi f)) (tree (counted Byte n) nil (over (named Let (lo f)) (tree (counted Byte (n + 1)) nil next)))

-- of each field among the lines, where f fields stand before
abbrev pub head_reads : ℕ → Forest Node → Plan → Plan
head_reads f nil next = next
head_reads f (tree n cs rest) next =
    let here = reads f n.number (head_reads (f + 1) rest next) in
    let other = head_reads f rest next in
    elim (is n.kind Field) [ true ↦ here | false ↦ other ]

-- a field's value: hi times 256 and lo
abbrev pub joined : ℕ → Plan
joined f = over (plain Add) (tree (plain Mul) (tree (named Ref (hi f)) nil (leaf (counted Num 256))) (leaf (named Ref (lo f))))

-- a field becomes `let` of its value, `def` a `let`, and `out` a `put`
pub data LineTurn : Type 0 where
  let_field : LineTurn
  let_def : LineTurn
  put_out : LineTurn

abbrev pub line_turn : Kind → LineTurn
line_turn k = cond (is k Field) let_field (cond (is k Def) let_def put_out)

abbrev pub fields_after : LineTurn → ℕ → ℕ
fields_after let_field f = f + 1
fields_after let_def f = f
fields_after put_out f = f

abbrev pub lowered_line : LineTurn → ℕ → ℕ → Plan → Plan → Plan
lowered_line let_field i f body next = over (named Let (like i)) (beside (joined f) next)
lowered_line let_def i f body next = over (named Let (like i)) (beside body next)
lowered_line put_out i f body next = over (plain Put) (beside body next)

-- the lines in order, from number i on, where f fields stand before; each body holds all that follows
abbrev pub lowered_lines : ℕ → ℕ → Forest Node → Plan
lowered_lines i f nil = leaf (plain End)
lowered_lines i f (tree n cs rest) =
    lowered_line (line_turn n.kind) i f (lowered (i + 1) cs) (lowered_lines (i + 1 + size cs) (fields_after (line_turn n.kind) f) rest)

abbrev pub lower_lines : Forest Node → Plan
lower_lines ls = over (plain Tree) (head_reads 0 ls (lowered_lines 1 0 ls))

abbrev pub lower_plan : List Node → Plan
lower_plan p = lower_lines (children (grow p))

abbrev pub lower_draft : Source → Draft
lower_draft s = spell_out s.program (lower_plan s.program)

abbrev pub lower : Transformation
lower = record { source = card; target = tree_language; draft = λ s. Ok (lower_draft s) }
