-- lower's plan: it reads no names, and its nodes are those that each node of the card brings.
use Rattle.std.proofs.Common.{◌≡◌, ℕ, ◌+◌, ◌<◌, ◌≤◌, Bool, true, false, cond, List, [], ◌∷◌, refl, ap, ◌∙◌, ap₂, arith}
use Rattle.std.specs.List.{AllByRecursion as All}
use Rattle.model.specs.declared.kinds.Kind.{Kind}
use Rattle.model.specs.declared.kinds.Kind.TheVariants.{Tree, Field, Def, Let, Put, End, Num, Ref, Byte, Add, Mul, If, Bind, First, Level}
use Rattle.model.specs.declared.nodes.Node.{Node}
use Rattle.model.specs.Kinds.{is, has_name, declares}
use Rattle.model.specs.Names.{node_at, kind_at, blank}
use Rattle.model.specs.Forest.{Forest, nil, tree, first, over, grow, size, width, children}
use Rattle.model.specs.Plans.{like, own, world, Planned, Plan, plain, counted, named, copy}
use Rattle.model.specs.Lower.{Turn, bound_first, above_datum, as_it_is, turn, lowered_node, lowered, hi, lo, reads, head_reads, LineTurn, let_field, let_def, put_out, line_turn, fields_after, lowered_line, lowered_lines, lower_lines, lower}
use Rattle.model.proofs.KindTables.{is_same}
use Rattle.laws.proofs.Forests.{blanked, fmap, children_fmap, size_fmap, Throughout, throughout_map, placed_grown, Every, every_beside, every_first, every_after}
use Rattle.laws.proofs.Planning.{Sourced, Planner, copy_sourced}

-- what a turn says of the kind
abbrev pub LineFact : LineTurn → Kind → Type 0
LineFact let_field k = k ≡ Field
LineFact let_def k = k ≡ Def
LineFact put_out k = (is k Field ≡ false) × (is k Def ≡ false)

pub line_fact : (k : Kind) → LineFact (line_turn k) k
line_fact k = go (is k Field) (is k Def) refl refl
  where
    go : (a b : Bool) → is k Field ≡ a → is k Def ≡ b → LineFact (cond a let_field (cond b let_def put_out)) k
    go true b e f = is_same k Field e
    go false true e f = is_same k Def f
    go false false e f = (e, f)

abbrev pub TurnFact : Turn → Kind → Type 0
TurnFact bound_first k = k ≡ First
TurnFact above_datum k = k ≡ Level
TurnFact as_it_is k = (is k First ≡ false) × (is k Level ≡ false)

pub turn_fact : (k : Kind) → TurnFact (turn k) k
turn_fact k = go (is k First) (is k Level) refl refl
  where
    go : (a b : Bool) → is k First ≡ a → is k Level ≡ b → TurnFact (cond a bound_first (cond b above_datum as_it_is)) k
    go true b e f = is_same k First e
    go false true e f = is_same k Level f
    go false false e f = (e, f)

-- No names are read

node_blank : (t : Turn) (i : ℕ) (n : Node) (cs rest : Plan) → lowered_node t i (blanked n) cs rest ≡ lowered_node t i n cs rest
node_blank bound_first i n cs rest = refl
node_blank above_datum i n cs rest = refl
node_blank as_it_is i n cs rest = refl

lowered_blank : (i : ℕ) (f : Forest Node) → lowered i (fmap blanked f) ≡ lowered i f
lowered_blank i nil = refl
lowered_blank i (tree n cs rest) =
    node_blank (turn n.kind) i n (lowered (i + 1) (fmap blanked cs)) (lowered (i + 1 + size (fmap blanked cs)) (fmap blanked rest))
    ∙ ap₂ (lowered_node (turn n.kind) i n) (lowered_blank (i + 1) cs) (ap (λ z. lowered (i + 1 + z) (fmap blanked rest)) (size_fmap blanked cs) ∙ lowered_blank (i + 1 + size cs) rest)

lines_blank : (i f : ℕ) (ls : Forest Node) → lowered_lines i f (fmap blanked ls) ≡ lowered_lines i f ls
lines_blank i f nil = refl
lines_blank i f (tree n cs rest) =
    let g = fields_after (line_turn n.kind) f in
    ap₂ (lowered_line (line_turn n.kind) i f) (lowered_blank (i + 1) cs) (ap (λ z. lowered_lines (i + 1 + z) g (fmap blanked rest)) (size_fmap blanked cs) ∙ lines_blank (i + 1 + size cs) g rest)

either_plan : Bool → Plan → Plan → Plan
either_plan b x y = elim b [ true ↦ x | false ↦ y ]

reads_blank : (f : ℕ) (ls : Forest Node) (next : Plan) → head_reads f (fmap blanked ls) next ≡ head_reads f ls next
unfolding either_plan
reads_blank f nil next = refl
reads_blank f (tree n cs rest) next = ap₂ (λ x y. either_plan (is n.kind Field) (reads f n.number x) y) (reads_blank (f + 1) rest next) (reads_blank f rest next)

abbrev pub lowering : Forest Node → Plan
lowering f = lower_lines (children f)

lower_blank : (ls : Forest Node) → lower_lines (fmap blanked ls) ≡ lower_lines ls
lower_blank ls = ap (over (plain Tree)) (reads_blank 0 ls (lowered_lines 1 0 (fmap blanked ls)) ∙ ap (head_reads 0 ls) (lines_blank 1 0 ls))

lowering_blank : (f : Forest Node) → lowering (fmap blanked f) ≡ lowering f
lowering_blank f = ap lower_lines (children_fmap blanked f) ∙ lower_blank (children f)

-- What holds of every node that the card brings holds of every node of the plan

abbrev pub brought : Turn → ℕ → Node → List Planned
brought bound_first i n = named Bind (own "t" (2048 + i)) ∷ plain If ∷ named Ref (own "t" (2048 + i)) ∷ []
brought above_datum i n = plain Add ∷ named Ref (world "datum") ∷ []
brought as_it_is i n = copy i n ∷ []

abbrev pub line_brought : LineTurn → ℕ → ℕ → List Planned
line_brought let_field i f = named Let (like i) ∷ plain Add ∷ plain Mul ∷ named Ref (hi f) ∷ counted Num 256 ∷ named Ref (lo f) ∷ []
line_brought let_def i f = named Let (like i) ∷ []
line_brought put_out i f = plain Put ∷ []

abbrev pub read_brought : ℕ → ℕ → List Planned
read_brought f n = named Let (hi f) ∷ counted Byte n ∷ named Let (lo f) ∷ counted Byte (n + 1) ∷ []

-- P holds of what each node of a card brings, of which Q holds at its place, where fewer than F fields stand before
pub record Brings (Q : ℕ → Node → Type 0) (P : Planned → Type 0) (F : ℕ) : Type 0 where
  pub root : P (plain Tree)
  pub end : P (plain End)
  pub expression : (i : ℕ) (n : Node) → Q i n → All P (brought (turn n.kind) i n)
  pub line : (i f : ℕ) (n : Node) → f < F → Q i n → All P (line_brought (line_turn n.kind) i f)
  pub read : (i f : ℕ) (n : Node) → f < F → Q i n → n.kind ≡ Field → All P (read_brought f n.number)

module _ (Q : ℕ → Node → Type 0) (P : Planned → Type 0) (F : ℕ) (br : Brings Q P F) where
  node_every : (t : Turn) (i : ℕ) (n : Node) (cs rest : Plan) → All P (brought t i n) → Every P cs → Every P rest → Every P (lowered_node t i n cs rest)
  node_every bound_first i n cs rest h a b =
      (h.0, every_beside P (first 1 cs) _ (every_first P 1 cs a) (h.1.0, (h.1.1.0, tt, (h.1.1.0, tt, every_after P 1 cs a)), tt), b)
  node_every above_datum i n cs rest h a b = (h.0, every_beside P cs _ a (h.1.0, tt, tt), b)
  node_every as_it_is i n cs rest h a b = (h.0, a, b)

  lowered_every : (i : ℕ) (f : Forest Node) → Throughout Q i f → Every P (lowered i f)
  lowered_every i nil h = tt
  lowered_every i (tree n cs rest) h =
      node_every (turn n.kind) i n (lowered (i + 1) cs) (lowered (i + 1 + size cs) rest) (br.expression i n h.0) (lowered_every (i + 1) cs h.1) (lowered_every (i + 1 + size cs) rest h.2)

  line_every : (t : LineTurn) (i f : ℕ) (body next : Plan) → All P (line_brought t i f) → Every P body → Every P next → Every P (lowered_line t i f body next)
  line_every let_field i f body next h a b =
      let joined = h.1.1.1 in
      (h.0, (h.1.0, (h.1.1.0, (joined.0, tt, (joined.1.0, tt, tt)), (joined.1.1.0, tt, tt)), b), tt)
  line_every let_def i f body next h a b = (h.0, every_beside P body next a b, tt)
  line_every put_out i f body next h a b = (h.0, every_beside P body next a b, tt)

  one_more : (t : LineTurn) (f : ℕ) → fields_after t f ≤ f + 1
  one_more let_field f = omega arith
  one_more let_def f = omega arith
  one_more put_out f = omega arith

  lines_every : (i f : ℕ) (ls : Forest Node) → f + width ls ≤ F → Throughout Q i ls → Every P (lowered_lines i f ls)
  lines_every i f nil l h = (br.end, tt, tt)
  lines_every i f (tree n cs rest) l h =
      let g = fields_after (line_turn n.kind) f in
      let k = one_more (line_turn n.kind) f in
      line_every (line_turn n.kind) i f (lowered (i + 1) cs) (lowered_lines (i + 1 + size cs) g rest) (br.line i f n (omega arith) h.0) (lowered_every (i + 1) cs h.1) (lines_every (i + 1 + size cs) g rest (omega arith) h.2)

  reads_every : (i f : ℕ) (ls : Forest Node) (next : Plan) → f + width ls ≤ F → Throughout Q i ls → Every P next → Every P (head_reads f ls next)
  reads_every i f nil next l h k = k
  reads_every i f (tree n cs rest) next l h k =
      go (is n.kind Field) refl (head_reads (f + 1) rest next) (head_reads f rest next) (reads_every (i + 1 + size cs) (f + 1) rest next (omega arith) h.2 k) (reads_every (i + 1 + size cs) f rest next (omega arith) h.2 k)
    where
      go : (b : Bool) → is n.kind Field ≡ b → (x y : Plan) → Every P x → Every P y → Every P (elim b [ true ↦ reads f n.number x | false ↦ y ])
      go true e x y u v =
          let r = br.read i f n (omega arith) h.0 (is_same n.kind Field e) in
          (r.0, (r.1.0, tt, (r.1.1.0, (r.1.1.1.0, tt, u), tt)), tt)
      go false e x y u v = v

  pub lower_every : (ls : Forest Node) → width ls ≤ F → Throughout Q 1 ls → Every P (lower_lines ls)
  lower_every ls l h = (br.root, reads_every 1 0 ls (lowered_lines 1 0 ls) (omega arith) h (lines_every 1 0 ls (omega arith) h), tt)

-- Where names come from

module _ (p : List Node) where
  node_sourced : (t : Turn) (i : ℕ) (n : Node) → kind_at p i ≡ n.kind → All (Sourced p) (brought t i n)
  node_sourced bound_first i n e = ((refl, refl), (refl, ((refl, refl), tt)))
  node_sourced above_datum i n e = (refl, ((refl, refl, refl), tt))
  node_sourced as_it_is i n e = (copy_sourced p i n e, tt)

  line_sourced : (t : LineTurn) (i f : ℕ) (k : Kind) → kind_at p i ≡ k → LineFact t k → All (Sourced p) (line_brought t i f)
  line_sourced let_field i f k e l = ((refl, ap has_name (e ∙ l), λ _. ap declares (e ∙ l)), (refl, (refl, ((refl, refl), (refl, ((refl, refl), tt))))))
  line_sourced let_def i f k e l = ((refl, ap has_name (e ∙ l), λ _. ap declares (e ∙ l)), tt)
  line_sourced put_out i f k e l = (refl, tt)

  abbrev Here : ℕ → Node → Type 0
  Here i n = kind_at p i ≡ n.kind

  sourced : (F : ℕ) → Brings Here (Sourced p) F
  sourced F =
      record {
        root = refl;
        end = refl;
        expression = λ i n e. node_sourced (turn n.kind) i n e;
        line = λ i f n l e. line_sourced (line_turn n.kind) i f n.kind e (line_fact n.kind);
        read = λ i f n l e k. ((refl, refl), (refl, ((refl, refl), (refl, tt))));
      }

  lowering_sourced : Every (Sourced p) (lowering (grow p))
  lowering_sourced =
      let ls = children (grow p) in
      let here = throughout_map (λ i n. node_at p i ≡ n) Here (λ i n e. ap (λ m. m.kind) e) 1 ls (placed_grown blank p) in
      let le : width ls ≤ width ls = omega arith in
      lower_every Here (Sourced p) (width ls) (sourced (width ls)) ls le here

pub lower_planner : Planner lower lowering
lower_planner = record { drafts = λ s. refl; nameless = lowering_blank; sourced = lowering_sourced }
