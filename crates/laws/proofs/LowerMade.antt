-- What lower makes of a card is of the tree language.
use Rattle.std.proofs.Common.{◌≡◌, ℕ, ◌+◌, ◌≤◌, Bool, true, false, not, ◌&&◌, List, [], ◌∷◌, replicate, Ok, sym, refl, ap, subst, arith}
use Rattle.std.specs.List.{AllByRecursion as All}
use Rattle.std.proofs.lemmas.Bool.{false≢true, and_from, leb-true, le-leb}
use Rattle.model.specs.declared.kinds.Kind.{Kind}
use Rattle.model.specs.declared.kinds.Kind.TheVariants.{Card, Tree, Field, Def, Out, First, Level}
use Rattle.model.specs.declared.kinds.Sort.{Sort}
use Rattle.model.specs.declared.kinds.Sort.TheVariants.{Root, Line, Statement, Expression}
use Rattle.model.specs.declared.nodes.Node.{Node}
use Rattle.model.specs.Kinds.{is, child_sorts, allowed, card_grammar, tree_grammar}
use Rattle.model.specs.Names.{root_of, nodes}
use Rattle.model.specs.Forest.{Forest, nil, tree, first, grow, size, width, children}
use Rattle.model.specs.Scopes.{card_order}
use Rattle.model.specs.Classes.{Draft, source_of}
use Rattle.model.specs.Plans.{Plan, plain}
use Rattle.model.specs.Lower.{Turn, bound_first, above_datum, as_it_is, turn, lowered_node, lowered, reads, head_reads, LineTurn, let_field, let_def, put_out, line_turn, fields_after, lowered_line, lowered_lines, lower_lines, lower_plan, lower_draft, lower}
use Rattle.model.specs.Fitting.{Of, Program}
use Rattle.model.specs.Rules.{drafted}
use Rattle.model.proofs.KindTables.{by_table, is_same}
use Rattle.laws.proofs.Forests.{Every, every_throughout, every_children}
use Rattle.laws.proofs.Orders.{all_replicate}
use Rattle.laws.proofs.Meanings.{accepted}
use Rattle.laws.proofs.Sorts.{Fills, fills_beside, fills_split, grown_fills, itself, Only, below_expression, allowed_sort, Numbered, NodeNumbered, PlanNumbered, grown_numbers, written, planned_of}
use Rattle.laws.proofs.Lowering.{LineFact, line_fact, TurnFact, turn_fact, brought, line_brought, read_brought, Brings, lower_every, lower_planner}

abbrev pub CardFills : List Sort → Forest Node → Type 0
CardFills ss f = Fills card_grammar Card itself ss f

-- a card is a root and its lines
pub record Carded (p : List Node) : Type 0 where
  pub lines : ℕ
  pub fills : CardFills (replicate lines Line) (children (grow p))
  pub few : lines ≤ 255
  pub root : is (root_of p) Card ≡ true

root_card : (k : Kind) → allowed card_grammar k Root k ≡ true → k ≡ Card
root_card k h = is_same k Card (by_table (λ j. allowed card_grammar j Root j) (λ j. is j Card) refl k h)

pub carded : (p : List Node) → Of card_grammar p → Carded p
carded [] o = absurd (false≢true o.fitting)
carded (n ∷ ns) o =
    let f = grown_fills card_grammar n.kind (Root ∷ []) (n ∷ ns) o.fitting in
    let e = root_card n.kind f.0 in
    let cs = children (grow (n ∷ ns)) in
    let m = grown_numbers (n ∷ ns) o.proper_nodes in
    record {
      lines = n.number;
      fills = subst (λ k. Fills card_grammar k itself (child_sorts k n.number) cs) e f.1;
      few = leb-true n.number 255 (subst (λ k. Numbered k n.number) e m.0);
      root = ap (λ k. is k Card) e;
    }

module _ (p : List Node) where
  abbrev TreeFills : List Sort → Plan → Type 0
  TreeFills ss f = Fills tree_grammar Tree (written p) ss f

  node_fills : (t : Turn) (i : ℕ) (n : Node) (ss : List Sort) (cs rest : Plan) → TurnFact t n.kind → allowed card_grammar Card Expression n.kind ≡ true → TreeFills (child_sorts n.kind n.number) cs → TreeFills ss rest → TreeFills (Expression ∷ ss) (lowered_node t i n cs rest)
  node_fills bound_first i n ss cs rest f a b c =
      let q = fills_split tree_grammar Tree (written p) (Expression ∷ []) (Expression ∷ []) cs (subst (λ k. TreeFills (child_sorts k n.number) cs) f b) in
      (refl, fills_beside tree_grammar Tree (written p) (Expression ∷ []) (Expression ∷ []) (first 1 cs) _ q.0 (refl, (refl, tt, (refl, tt, q.1)), tt), c)
  node_fills above_datum i n ss cs rest f a b c =
      (refl, fills_beside tree_grammar Tree (written p) (Expression ∷ []) (Expression ∷ []) cs _ (subst (λ k. TreeFills (child_sorts k n.number) cs) f b) (refl, tt, tt), c)
  node_fills as_it_is i n ss cs rest f a b c = (
    by_table (λ k. allowed card_grammar Card Expression k && (not (is k First) && not (is k Level))) (λ k. allowed tree_grammar Tree Expression k) refl n.kind
        (and_from (allowed card_grammar Card Expression n.kind) _ a (and_from (not (is n.kind First)) (not (is n.kind Level)) (ap not f.0) (ap not f.1))),
    b,
    c,
  )

  pub lowered_fills : (i : ℕ) (ss : List Sort) (f : Forest Node) → Only Expression ss → CardFills ss f → TreeFills ss (lowered i f)
  lowered_fills i [] nil o h = tt
  lowered_fills i [] (tree n cs rest) o h = absurd h
  lowered_fills i (s ∷ ss) nil o h = absurd h
  lowered_fills i (s ∷ ss) (tree n cs rest) o h =
      let a : allowed card_grammar Card Expression n.kind ≡ true = subst (λ t. allowed card_grammar Card t n.kind ≡ true) o.0 h.0 in
      let below = child_sorts n.kind n.number in
      let b = lowered_fills (i + 1) below cs (below_expression n.kind n.number (allowed_sort card_grammar Card Expression n.kind a)) h.1 in
      let c = lowered_fills (i + 1 + size cs) ss rest o.1 h.2 in
      subst (λ t. TreeFills (t ∷ ss) (lowered i (tree n cs rest))) (sym o.0) (node_fills (turn n.kind) i n ss (lowered (i + 1) cs) (lowered (i + 1 + size cs) rest) (turn_fact n.kind) a b c)

  pub out_line : (k : Kind) → allowed card_grammar Card Line k ≡ true → LineFact put_out k → k ≡ Out
  out_line k a f =
      is_same k Out (by_table (λ j. allowed card_grammar Card Line j && (not (is j Field) && not (is j Def))) (λ j. is j Out) refl k
      (and_from (allowed card_grammar Card Line k) _ a (and_from (not (is k Field)) (not (is k Def)) (ap not f.0) (ap not f.1))))

  line_fills : (t : LineTurn) (i j f : ℕ) (n : Node) (cs : Forest Node) (next : Plan) → LineFact t n.kind → allowed card_grammar Card Line n.kind ≡ true → CardFills (child_sorts n.kind n.number) cs → TreeFills (Statement ∷ []) next → TreeFills (Statement ∷ []) (lowered_line t i f (lowered j cs) next)
  line_fills let_field i j f n cs next l a b c = (refl, (refl, (refl, (refl, tt, (refl, tt, tt)), (refl, tt, tt)), c), tt)
  line_fills let_def i j f n cs next l a b c =
      (refl, fills_beside tree_grammar Tree (written p) (Expression ∷ []) (Statement ∷ []) (lowered j cs) next (lowered_fills j (Expression ∷ []) cs (refl, tt) (subst (λ k. CardFills (child_sorts k n.number) cs) l b)) c, tt)
  line_fills put_out i j f n cs next l a b c =
      (refl, fills_beside tree_grammar Tree (written p) (Expression ∷ []) (Statement ∷ []) (lowered j cs) next (lowered_fills j (Expression ∷ []) cs (refl, tt) (subst (λ k. CardFills (child_sorts k n.number) cs) (out_line n.kind a l) b)) c, tt)

  lines_fill : (i f : ℕ) (ss : List Sort) (ls : Forest Node) → Only Line ss → CardFills ss ls → TreeFills (Statement ∷ []) (lowered_lines i f ls)
  lines_fill i f [] nil o h = (refl, tt, tt)
  lines_fill i f [] (tree n cs rest) o h = absurd h
  lines_fill i f (s ∷ ss) nil o h = absurd h
  lines_fill i f (s ∷ ss) (tree n cs rest) o h =
      line_fills (line_turn n.kind) i (i + 1) f n cs (lowered_lines (i + 1 + size cs) (fields_after (line_turn n.kind) f) rest) (line_fact n.kind)
      (subst (λ t. allowed card_grammar Card t n.kind ≡ true) o.0 h.0) h.1
      (lines_fill (i + 1 + size cs) (fields_after (line_turn n.kind) f) ss rest o.1 h.2)

  reads_fill : (f : ℕ) (ls : Forest Node) (next : Plan) → TreeFills (Statement ∷ []) next → TreeFills (Statement ∷ []) (head_reads f ls next)
  reads_fill f nil next h = h
  reads_fill f (tree n cs rest) next h =
      go (is n.kind Field) (reads f n.number (head_reads (f + 1) rest next)) (head_reads f rest next)
      (refl, (refl, tt, (refl, (refl, tt, reads_fill (f + 1) rest next h), tt)), tt) (reads_fill f rest next h)
    where
      go : (b : Bool) (x y : Plan) → TreeFills (Statement ∷ []) x → TreeFills (Statement ∷ []) y → TreeFills (Statement ∷ []) (elim b [ true ↦ x | false ↦ y ])
      go true x y u v = u
      go false x y u v = v

  pub lower_fills : Of card_grammar p → TreeFills (Root ∷ []) (lower_plan p)
  lower_fills o =
      let c = carded p o in
      let ls = children (grow p) in
      (refl, reads_fill 0 ls (lowered_lines 1 0 ls) (lines_fill 1 0 (replicate c.lines Line) ls (all_replicate (λ s. s ≡ Line) c.lines Line refl) c.fills), tt)

-- Numbers

node_numbered : (t : Turn) (i : ℕ) (n : Node) → NodeNumbered n → All PlanNumbered (brought t i n)
node_numbered bound_first i n e = (refl, (refl, (refl, tt)))
node_numbered above_datum i n e = (refl, (refl, tt))
node_numbered as_it_is i n e = (e, tt)

line_numbered : (t : LineTurn) (i f : ℕ) → All PlanNumbered (line_brought t i f)
line_numbered let_field i f = (refl, (refl, (refl, (refl, (refl, (refl, tt))))))
line_numbered let_def i f = (refl, tt)
line_numbered put_out i f = (refl, tt)

-- a field's number and the one after it are bytes' numbers
read_numbered : (f : ℕ) (n : Node) → NodeNumbered n → n.kind ≡ Field → All PlanNumbered (read_brought f n.number)
read_numbered f n e k =
    let l : n.number ≤ 254 = leb-true n.number 254 (subst (λ j. Numbered j n.number) k e) in
    (refl, (le-leb n.number 255 (omega arith), (refl, (le-leb (n.number + 1) 255 (omega arith), tt))))

numbered : (F : ℕ) → Brings (λ i n. NodeNumbered n) PlanNumbered F
numbered F =
    record {
      root = refl;
      end = refl;
      expression = λ i n e. node_numbered (turn n.kind) i n e;
      line = λ i f n l e. line_numbered (line_turn n.kind) i f;
      read = λ i f n l e k. read_numbered f n e k;
    }

lower_numbered : (ls : Forest Node) → Every NodeNumbered ls → Every PlanNumbered (lower_lines ls)
lower_numbered ls h =
    let l : width ls ≤ width ls = omega arith in
    lower_every (λ i n. NodeNumbered n) PlanNumbered (width ls) (numbered (width ls)) ls l (every_throughout NodeNumbered 1 ls h)

pub lower_made : (p : List Node) (d : Draft) → Program card_grammar p → drafted lower p ≡ Ok d → Of tree_grammar (nodes d)
lower_made p d o e =
    let num = lower_numbered (children (grow p)) (every_children NodeNumbered (grow p) (grown_numbers p o.of.proper_nodes)) in
    subst (λ x. Of tree_grammar (nodes x)) (accepted lower p (lower_draft (source_of card_order p)) d refl e).0
    (planned_of tree_grammar p (plain Tree) _ o.of.proper_nodes (lower_fills p o.of) (lower_planner.sourced p) num)
