-- What flatten makes of a tree, if it is accepted, is of the flat language.
use Rattle.std.proofs.Common.{◌≡◌, ℕ, zero, suc, ◌+◌, ◌<◌, ◌≤◌, Bool, true, not, ◌&&◌, ◌||◌, List, [], ◌∷◌, length, get_or, replicate, Ok, sym, refl, ap, subst, one-add, arith}
use Rattle.std.proofs.lemmas.List.{length-map}
use Rattle.std.proofs.lemmas.Bool.{false≢true, and_from, le-leb}
use Rattle.model.specs.declared.kinds.Kind.{Kind}
use Rattle.model.specs.declared.kinds.Kind.TheVariants.{Tree, Flat, Let, Put, End, If, Bind}
use Rattle.model.specs.declared.kinds.Sort.{Sort}
use Rattle.model.specs.declared.kinds.Sort.TheVariants.{Root, Line, Statement, Step, Expression}
use Rattle.model.specs.declared.nodes.Node.{Node}
use Rattle.model.specs.Kinds.{row, is, same_sort, child_sorts, stands_under, allowed, tree_grammar, flat_grammar}
use Rattle.model.specs.Names.{nodes}
use Rattle.model.specs.Forest.{Forest, nil, tree, beside, over, grow, pre, size, width, children}
use Rattle.model.specs.Scopes.{tree_order}
use Rattle.model.specs.Classes.{Draft, source_of}
use Rattle.model.specs.Plans.{Plan, copy, spell, spell_out, counted}
use Rattle.model.specs.Flatten.{Flattened, nothing, all_steps, all_values, stored, branches, Turn, slot_let, emit_put, slot_bind, branch_if, end_here, as_it_is, turn, flattened_node, of_children, flattened, over_steps, flatten_draft, flatten}
use Rattle.model.specs.Fitting.{Of, Program}
use Rattle.model.specs.Rules.{drafted}
use Rattle.laws.proofs.Forests.{size_pre, Every, every_throughout, every_children}
use Rattle.model.proofs.KindTables.{by_table, is_same}
use Rattle.std.specs.List.{AllByRecursion as All}
use Rattle.laws.proofs.Meanings.{accepted}
use Rattle.laws.proofs.Sorts.{Fills, fills_beside, grown_fills, itself, Only, sort_same, below_expression, allowed_sort, fills_below, NodeNumbered, PlanNumbered, grown_numbers, written, planned_of}
use Rattle.laws.proofs.Flattening.{TurnFact, turn_fact, brought, all_steps_every, flatten_planner}

abbrev pub TreeFills : List Sort → Forest Node → Type 0
TreeFills ss f = Fills tree_grammar Tree itself ss f

module _ (p : List Node) where
  abbrev FlatFills : List Sort → Plan → Type 0
  FlatFills ss f = Fills flat_grammar Flat (written p) ss f

  -- each tree is a step
  abbrev Steps : Plan → Type 0
  Steps nil = Unit {0}
  Steps (tree m cs rest) = (allowed flat_grammar Flat Step m.kind ≡ true) × FlatFills (child_sorts m.kind m.number) cs × Steps rest

  steps_beside : (f g : Plan) → Steps f → Steps g → Steps (beside f g)
  steps_beside nil g a b = b
  steps_beside (tree m cs rest) g a b = (a.0, a.1, steps_beside rest g a.2 b)

  steps_fill : (f : Plan) → Steps f → FlatFills (replicate (width f) Step) f
  steps_fill nil a = tt
  steps_fill (tree m cs rest) a = subst (λ n. FlatFills (replicate n Step) (tree m cs rest)) (sym (one-add (width rest))) (a.0, a.1, steps_fill rest a.2)

  abbrev Value : Sort → Plan → Type 0
  Value Root v = Unit {0}
  Value Line v = Unit {0}
  Value Statement v = Unit {0}
  Value Step v = Unit {0}
  Value Expression v = FlatFills (Expression ∷ []) v

  abbrev Good : Sort → Flattened → Type 0
  Good s x = Steps x.steps × Value s x.value

  abbrev Goods : List Sort → List Flattened → Type 0
  Goods [] [] = Unit {0}
  Goods [] (x ∷ xs) = ⊥
  Goods (s ∷ ss) [] = ⊥
  Goods (s ∷ ss) (x ∷ xs) = Good s x × Goods ss xs

  goods_at : (ss : List Sort) (xs : List Flattened) (k : ℕ) → Goods ss xs → k < length ss → Good (get_or ss k Root) (get_or xs k nothing)
  goods_at [] xs k g l = absurd (omega arith)
  goods_at (s ∷ ss) [] k g l = absurd g
  goods_at (s ∷ ss) (x ∷ xs) zero g l = g.0
  goods_at (s ∷ ss) (x ∷ xs) (suc k) g l = goods_at ss xs k g.1 (omega arith)

  goods_steps : (ss : List Sort) (xs : List Flattened) → Goods ss xs → Steps (all_steps xs)
  goods_steps [] [] g = tt
  goods_steps [] (x ∷ xs) g = absurd g
  goods_steps (s ∷ ss) [] g = absurd g
  goods_steps (s ∷ ss) (x ∷ xs) g = steps_beside x.steps (all_steps xs) g.0.0 (goods_steps ss xs g.1)

  goods_values : (ss : List Sort) (xs : List Flattened) → Only Expression ss → Goods ss xs → FlatFills ss (all_values xs)
  goods_values [] [] o g = tt
  goods_values [] (x ∷ xs) o g = absurd g
  goods_values (s ∷ ss) [] o g = absurd g
  goods_values (s ∷ ss) (x ∷ xs) o g =
      let v : FlatFills (s ∷ []) x.value = subst (λ t. FlatFills (t ∷ []) x.value) (sym o.0) (subst (λ t. Value t x.value) o.0 g.0.1) in
      fills_beside flat_grammar Flat (written p) (s ∷ []) ss x.value (all_values xs) v (goods_values ss xs o.1 g.1)

  stored_steps : (i : ℕ) (x : Flattened) (next : Plan) → Good Expression x → Steps next → Steps (stored i x next)
  stored_steps i x next g k = steps_beside x.steps _ g.0 (refl, tt, (refl, g.1, k))

  branches_steps : (i : ℕ) (c a b : Flattened) → Good Expression c → Good Expression a → Good Expression b → Steps (branches i c a b)
  branches_steps i c a b hc ha hb =
      steps_beside c.steps _ hc.0 (
        refl,
        tt,
        (
          refl,
          hc.1,
          steps_beside a.steps _ ha.0 (
            refl,
            ha.1,
            (
              refl,
              tt,
              (
                refl,
                tt,
                steps_beside b.steps _ hb.0
                    (refl, hb.1, (refl, tt, tt)),
              ),
            ),
          ),
        ),
      )

  -- what a node of the tree becomes is good for the node's sort
  at_kind : (k l : Kind) (x : Flattened) → k ≡ l → Good (row l).sort x → Good (row k).sort x
  at_kind k l x e h = subst (λ j. Good (row j).sort x) (sym e) h

  abbrev copied : Kind → Bool
  copied k = stands_under Tree k && not (is k Let || is k Put || is k Bind || is k If || is k End)

  copied_good : (i : ℕ) (n : Node) (xs : List Flattened) → copied n.kind ≡ true → Goods (child_sorts n.kind n.number) xs → Good (row n.kind).sort (record { steps = all_steps xs; value = over (copy i n) (all_values xs) })
  copied_good i n xs c g =
      let below = child_sorts n.kind n.number in
      let e : same_sort (row n.kind).sort Expression ≡ true = by_table copied (λ k. same_sort (row k).sort Expression) refl n.kind c in
      let v : FlatFills (Expression ∷ []) (over (copy i n) (all_values xs)) = (by_table copied (λ k. allowed flat_grammar Flat Expression k) refl n.kind c, goods_values below xs (below_expression n.kind n.number e) g, tt) in
      subst (λ s. Good s (record { steps = all_steps xs; value = over (copy i n) (all_values xs) })) (sym (sort_same (row n.kind).sort Expression e)) (goods_steps below xs g, v)

  node_good : (t : Turn) (i : ℕ) (n : Node) (xs : List Flattened) → TurnFact t n.kind → stands_under Tree n.kind ≡ true → Goods (child_sorts n.kind n.number) xs → Good (row n.kind).sort (flattened_node t i n (get_or xs 0 nothing) (get_or xs 1 nothing) (get_or xs 2 nothing) xs)
  node_good slot_let i n xs f u g =
      let q : Goods (Expression ∷ Statement ∷ []) xs = subst (λ k. Goods (child_sorts k n.number) xs) f g in
      at_kind n.kind Let _ f (stored_steps i (get_or xs 0 nothing) (get_or xs 1 nothing).steps (goods_at (Expression ∷ Statement ∷ []) xs 0 q (omega arith)) (goods_at (Expression ∷ Statement ∷ []) xs 1 q (omega arith)).0, tt)
  node_good emit_put i n xs f u g =
      let q : Goods (Expression ∷ Statement ∷ []) xs = subst (λ k. Goods (child_sorts k n.number) xs) f g in
      let x = goods_at (Expression ∷ Statement ∷ []) xs 0 q (omega arith) in
      at_kind n.kind Put _ f (steps_beside (get_or xs 0 nothing).steps _ x.0 (refl, x.1, (goods_at (Expression ∷ Statement ∷ []) xs 1 q (omega arith)).0), tt)
  node_good slot_bind i n xs f u g =
      let q : Goods (Expression ∷ Expression ∷ []) xs = subst (λ k. Goods (child_sorts k n.number) xs) f g in
      let y = goods_at (Expression ∷ Expression ∷ []) xs 1 q (omega arith) in
      at_kind n.kind Bind _ f (stored_steps i (get_or xs 0 nothing) (get_or xs 1 nothing).steps (goods_at (Expression ∷ Expression ∷ []) xs 0 q (omega arith)) y.0, y.1)
  node_good branch_if i n xs f u g =
      let q : Goods (Expression ∷ Expression ∷ Expression ∷ []) xs = subst (λ k. Goods (child_sorts k n.number) xs) f g in
      let at = λ (k : ℕ) (l : k < 3). goods_at (Expression ∷ Expression ∷ Expression ∷ []) xs k q l in
      at_kind n.kind If _ f (branches_steps i (get_or xs 0 nothing) (get_or xs 1 nothing) (get_or xs 2 nothing) (at 0 (omega arith)) (at 1 (omega arith)) (at 2 (omega arith)), (refl, tt, tt))
  node_good end_here i n xs f u g = at_kind n.kind End nothing f (tt, tt)
  node_good as_it_is i n xs f u g = copied_good i n xs (and_from (stands_under Tree n.kind) _ u (ap not f)) g

  flattened_good : (i : ℕ) (ss : List Sort) (f : Forest Node) → TreeFills ss f → Every (λ n. stands_under Tree n.kind ≡ true) f → Goods ss (flattened i f)
  flattened_good i [] nil h u = tt
  flattened_good i [] (tree n cs rest) h u = absurd h
  flattened_good i (s ∷ ss) nil h u = absurd h
  flattened_good i (s ∷ ss) (tree n cs rest) h u =
      let x = of_children i n (flattened (i + 1) cs) in (
        subst (λ t. Good t x) (sort_same (row n.kind).sort s (allowed_sort tree_grammar Tree s n.kind h.0))
            (node_good (turn n.kind) i n (flattened (i + 1) cs) (turn_fact n.kind) u.0 (flattened_good (i + 1) (child_sorts n.kind n.number) cs h.1 u.1)),
        flattened_good (i + 1 + size cs) ss rest h.2 u.2,
      )

pub root_tree : (k : Kind) → allowed tree_grammar k Root k ≡ true → k ≡ Tree
root_tree k h = is_same k Tree (by_table (λ j. allowed tree_grammar j Root j) (λ j. is j Tree) refl k h)

-- a tree is a root and its statement
pub treed : (p : List Node) → Of tree_grammar p → TreeFills (Statement ∷ []) (children (grow p))
treed [] o = absurd (false≢true o.fitting)
treed (n ∷ ns) o =
    let f = grown_fills tree_grammar n.kind (Root ∷ []) (n ∷ ns) o.fitting in
    subst (λ k. Fills tree_grammar k itself (child_sorts k n.number) (children (grow (n ∷ ns)))) (root_tree n.kind f.0) f.1

pub treed_below : (p : List Node) → Of tree_grammar p → Every (λ n. stands_under Tree n.kind ≡ true) (children (grow p))
treed_below p o = fills_below tree_grammar Tree (Statement ∷ []) (children (grow p)) (refl, tt) (treed p o)

-- Numbers

node_numbered : (t : Turn) (i : ℕ) (n : Node) → NodeNumbered n → All PlanNumbered (brought t i n)
node_numbered slot_let i n e = (refl, (refl, tt))
node_numbered emit_put i n e = (refl, tt)
node_numbered slot_bind i n e = (refl, (refl, tt))
node_numbered branch_if i n e = (refl, (refl, (refl, (refl, (refl, (refl, (refl, tt)))))))
node_numbered end_here i n e = tt
node_numbered as_it_is i n e = (e, tt)

steps_numbered : (f : Forest Node) → Every NodeNumbered f → Every PlanNumbered (all_steps (flattened 1 f))
steps_numbered f h = all_steps_every PlanNumbered (λ i n. NodeNumbered n) (λ i n e. node_numbered (turn n.kind) i n e) f (every_throughout NodeNumbered 1 f h)

width_size : {A : Type 0} (f : Forest A) → width f ≤ size f
width_size nil = omega arith
width_size (tree a cs rest) = let h = width_size rest in omega arith

few_steps : (p : List Node) (ss : Plan) → length (spell_out p (over_steps ss)) ≤ 1024 → width ss ≤ 1023
few_steps p ss l =
    let m : length (spell_out p (over_steps ss)) ≡ length (pre (over_steps ss)) = length-map (pre (over_steps ss)) (spell p) in
    let z : size (over_steps ss) ≡ length (pre (over_steps ss)) = size_pre (over_steps ss) in
    let w = width_size ss in
    omega arith

pub flatten_made : (p : List Node) (d : Draft) → Program tree_grammar p → drafted flatten p ≡ Ok d → Of flat_grammar (nodes d)
flatten_made p d o e =
    let a = accepted flatten p (flatten_draft (source_of tree_order p)) d refl e in
    let f = children (grow p) in
    let ss = all_steps (flattened 1 f) in
    let num : Every PlanNumbered (over_steps ss) = (le-leb (width ss) 1023 (few_steps p ss a.1), steps_numbered f (every_children NodeNumbered (grow p) (grown_numbers p o.of.proper_nodes)), tt) in
    let good = flattened_good p 1 (Statement ∷ []) f (treed p o.of) (treed_below p o.of) in
    subst (λ x. Of flat_grammar (nodes x)) a.0
    (planned_of flat_grammar p (counted Flat (width ss)) ss o.of.proper_nodes (refl, steps_fill p ss (goods_steps p (Statement ∷ []) (flattened 1 f) good), tt) (flatten_planner.sourced p) num)
