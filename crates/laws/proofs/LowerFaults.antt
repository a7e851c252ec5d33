-- What lower makes of a card has no fault.
use Rattle.std.proofs.Common.{◌≡◌, ℕ, zero, suc, ◌+◌, ◌-◌, ◌*◌, ◌%◌, ◌<◌, ◌≤◌, Bool, true, false, cond, not, ◌||◌, eqb, leb, List, [], ◌∷◌, ◌++◌, map, length, get_or, replicate, Some, None, Option, sym, refl, ap, ◌∙◌, subst, ap₂, inl, inr, append_assoc, arith}
use mathlib.Core.List.{map-map}
use Prim.Native.String.{String}
use Rattle.std.specs.List.{AllByRecursion as All}
use Rattle.std.proofs.ByRecursion.{All-get_or, All-weaker}
use Rattle.std.proofs.lemmas.List.{get_or_append_left, get_or-append_right, get_or-replicate, length-replicate, length-append, map-append}
use Rattle.std.proofs.lemmas.Bool.{false≢true, true≢false, or_left, or_right, cases_lt, eq-eqb, le-leb, lt-leb, not-true}
use Rattle.model.specs.declared.kinds.Kind.{Kind}
use Rattle.model.specs.declared.kinds.Kind.TheVariants.{Card, Tree, Field, Let, Ref}
use Rattle.model.specs.declared.kinds.Role.{Role}
use Rattle.model.specs.declared.kinds.Role.TheVariants.{Plain, Declares, Refers}
use Rattle.model.specs.declared.kinds.Sort.{Sort}
use Rattle.model.specs.declared.kinds.Sort.TheVariants.{Root, Line, Expression}
use Rattle.model.specs.declared.nodes.Node.{Node}
use Rattle.model.specs.Lists.{any}
use Rattle.model.specs.Kinds.{row, is, declares, has_name, role_declares, child_sorts, allowed, card_grammar, tree_grammar}
use Rattle.model.specs.Names.{kind_at, node_at, blank, plainly}
use Rattle.model.specs.Fitting.{Of}
use Rattle.model.specs.Forest.{Forest, nil, tree, first, after, beside, grow, pre, size, width, children, kinds_only, shape}
use Rattle.model.specs.Scopes.{more, by_role, scopes_its_last, tree_nodes, tree_scopes, card_lines, card_scopes, card_order}
use Rattle.model.specs.declared.classes.Class.{Class}
use Rattle.model.specs.declared.classes.Class.TheVariants.{OfDeclaration, OfGroup}
use Rattle.model.specs.Classes.{Source, source_of, reach_at, class_of, together, is_inner}
use Rattle.model.specs.Plans.{like, Planned, Plan, named, copy, spell}
use Rattle.model.specs.Lower.{Turn, bound_first, above_datum, as_it_is, turn, lowered_node, lowered, reads, head_reads, joined, LineTurn, let_field, let_def, put_out, line_turn, fields_after, lowered_line, lowered_lines, lower_plan, lower_draft, lower}
use Rattle.model.specs.Rules.{Visible}
use Rattle.model.proofs.KindTables.{by_table}
use Rattle.laws.specs.Stages.{Unfaulted}
use Rattle.laws.proofs.Forests.{size_kinds, children_kinds, fmap, size_fmap, throughout_map, Placed, placed_whole, placed_grown, Every, every_pre}
use Rattle.laws.proofs.Orders.{orders_visible_lem, all_replicate}
use Rattle.laws.proofs.Reaches.{shape_kind, reached}
use Rattle.laws.proofs.Meanings.{unfaulted}
use Rattle.laws.proofs.Planning.{Sourced}
use Rattle.laws.proofs.Sorts.{fills_width, itself, written, Only, below_expression, just_expressions, just_below, allowed_sort, plan_kinds, plan_shape}
use Rattle.laws.proofs.Lowering.{LineFact, line_fact, TurnFact, turn_fact, brought, line_brought, Brings, lower_every, lower_planner}
use Rattle.laws.proofs.LowerMade.{CardFills, carded, lowered_fills, lower_fills, out_line}
use Rattle.laws.proofs.Faults.{no_node, Stemmed, class_in, same_together, like_class, Wants, wants_class, spelt_classes, Found, no_fault, copy_stemmed, copy_wants}

-- Stems: t from group 2048 on, hi and lo in turn before

abbrev stem_of : ℕ → String
stem_of g = cond (leb 2048 g) "t" (cond (eqb (g % 2) 0) "hi" "lo")

stem_at : (g m : ℕ) (b : Bool) → leb 2048 g ≡ b → g % 2 ≡ m → plainly (stem_of g) ≡ plainly (cond b "t" (cond (eqb m 0) "hi" "lo"))
stem_at g m b e h = ap₂ (λ c n. plainly (cond c "t" (cond (eqb n 0) "hi" "lo"))) e h

t_stem : (i : ℕ) → plainly "t" ≡ plainly (stem_of (2048 + i))
t_stem i = sym (stem_at (2048 + i) ((2048 + i) % 2) true (le-leb 2048 (2048 + i) (omega arith)) refl)

hi_stem : (f : ℕ) → f < 1024 → plainly "hi" ≡ plainly (stem_of (2 * f))
hi_stem f l = sym (stem_at (2 * f) 0 false (lt-leb 2048 (2 * f) (omega arith)) (omega arith))

lo_stem : (f : ℕ) → f < 1024 → plainly "lo" ≡ plainly (stem_of (2 * f + 1))
lo_stem f l = sym (stem_at (2 * f + 1) 1 false (lt-leb 2048 (2 * f + 1) (omega arith)) (omega arith))

abbrev S : Planned → Type 0
S m = Stemmed stem_of m

node_stemmed : (t : Turn) (i : ℕ) (n : Node) → All S (brought t i n)
node_stemmed bound_first i n = (t_stem i, (tt, (t_stem i, tt)))
node_stemmed above_datum i n = (tt, (tt, tt))
node_stemmed as_it_is i n = (copy_stemmed stem_of (has_name n.kind) i, tt)

line_stemmed : (t : LineTurn) (i f : ℕ) → f < 1024 → All S (line_brought t i f)
line_stemmed let_field i f l = (tt, (tt, (tt, (hi_stem f l, (tt, (lo_stem f l, tt))))))
line_stemmed let_def i f l = (tt, tt)
line_stemmed put_out i f l = (tt, tt)

stemmed : Brings (λ i n. Unit {0}) S 1024
stemmed =
    record {
      root = tt;
      end = tt;
      expression = λ i n e. node_stemmed (turn n.kind) i n;
      line = λ i f n l e. line_stemmed (line_turn n.kind) i f l;
      read = λ i f n l e k. (hi_stem f l, (tt, (lo_stem f l, (tt, tt))));
    }

lower_stemmed : (p : List Node) → Of card_grammar p → Every S (lower_plan p)
lower_stemmed p o =
    let c = carded p o in
    let ls = children (grow p) in
    let w = fills_width card_grammar Card itself (replicate c.lines Line) ls c.fills in
    let r = length-replicate c.lines Line in
    let few = c.few in
    lower_every (λ i n. Unit {0}) S 1024 stemmed ls (omega arith) (throughout_map (λ i n. node_at p i ≡ n) (λ i n. Unit {0}) (λ i n e. tt) 1 ls (placed_grown blank p))

-- Scopes of a plan, as classes

abbrev vis : Visible card_order
vis = orders_visible_lem.card

abbrev Env : Type 0
Env = List (Option Class)

abbrev Provided : Env → Class → Type 0
Provided env c = any (together (Some c)) env ≡ true

one_first : (f : Plan) → width f ≡ 2 → width (first 1 f) ≡ 1
one_first nil w = absurd (omega arith)
one_first (tree m cs rest) w = omega arith

module _ (p : List Node) where
  abbrev src : Source
  src = source_of card_order p

  abbrev cl : Planned → Option Class
  cl m = class_in src m

  -- a reference finds its class
  abbrev Finds : Env → Planned → Type 0
  Finds env m = declares m.kind ≡ false → is_inner (cl m) ≡ true → any (together (cl m)) env ≡ true

  abbrev under : Planned → Env → Env
  under m env = cond (scopes_its_last m.kind) (cl m ∷ env) env

  -- the first tree sees E, those after it see L
  abbrev Bound : Env → Env → Plan → Type 0
  Bound E L nil = Unit {0}
  Bound E L (tree m cs rest) = Finds E m × Bound E (under m E) cs × Bound L L rest

  bound_beside : (E : Env) (f g : Plan) → Bound E E f → Bound E E g → Bound E E (beside f g)
  bound_beside E nil g a b = b
  bound_beside E (tree m cs rest) g a b = (a.0, a.1, bound_beside E rest g a.2 b)

  bound_after : (E L : Env) (f g : Plan) → width f ≡ 1 → Bound E E f → Bound L L g → Bound E L (beside f g)
  bound_after E L nil g w a b = absurd (omega arith)
  bound_after E L (tree m cs nil) g w a b = (a.0, a.1, b)
  bound_after E L (tree m cs (tree n ds rest)) g w a b = absurd (omega arith)

  bound_front : (E : Env) (n : ℕ) (f : Plan) → Bound E E f → Bound E E (first n f)
  bound_front E zero f a = tt
  bound_front E (suc n) nil a = tt
  bound_front E (suc n) (tree m cs rest) a = (a.0, a.1, bound_front E n rest a.2)

  bound_back : (E : Env) (n : ℕ) (f : Plan) → Bound E E f → Bound E E (after n f)
  bound_back E zero f a = a
  bound_back E (suc n) nil a = tt
  bound_back E (suc n) (tree m cs rest) a = bound_back E n rest a.2

  finds : (env : Env) (m : Planned) → (declares m.kind ≡ false → Wants card_order vis p (Provided env) m.naming) → Finds env m
  finds env m w = λ d h. wants_class card_order vis p (λ c. any (together c) env ≡ true) (has_name m.kind) m.naming (w d) h

  -- Bound names are found in the tree order

  module _ (C : List (Option Class)) where
    abbrev env_of : List ℕ → Env
    env_of Γ = map (λ j. get_or C j None) Γ

    abbrev Pairs : List Planned → List (List ℕ) → Type 0
    Pairs [] [] = Unit {0}
    Pairs [] (Γ ∷ Γs) = ⊥
    Pairs (m ∷ ms) [] = ⊥
    Pairs (m ∷ ms) (Γ ∷ Γs) = Finds (env_of Γ) m × Pairs ms Γs

    pairs_append : (ms ns : List Planned) (Γs Δs : List (List ℕ)) → Pairs ms Γs → Pairs ns Δs → Pairs (ms ++ ns) (Γs ++ Δs)
    pairs_append [] ns [] Δs a b = b
    pairs_append [] ns (Γ ∷ Γs) Δs a b = absurd a
    pairs_append (m ∷ ms) ns [] Δs a b = absurd a
    pairs_append (m ∷ ms) ns (Γ ∷ Γs) Δs a b = (a.0, pairs_append ms ns Γs Δs a.1 b)

    pairs_at : (ms : List Planned) (Γs : List (List ℕ)) (i : ℕ) → Pairs ms Γs → Finds (env_of (get_or Γs i [])) (get_or ms i no_node)
    pairs_at [] [] i a = λ d h. absurd (false≢true h)
    pairs_at [] (Γ ∷ Γs) i a = absurd a
    pairs_at (m ∷ ms) [] i a = absurd a
    pairs_at (m ∷ ms) (Γ ∷ Γs) zero a = a.0
    pairs_at (m ∷ ms) (Γ ∷ Γs) (suc i) a = pairs_at ms Γs i a.1

    more_env : (b : Bool) (at : ℕ) (Γ : List ℕ) (c : Option Class) → get_or C at None ≡ c → cond b (c ∷ env_of Γ) (env_of Γ) ≡ env_of (more b at Γ)
    more_env true at Γ c e = ap (λ x. x ∷ env_of Γ) (sym e)
    more_env false at Γ c e = refl

    pairs : (at : ℕ) (Γ Λ : List ℕ) (f : Plan) → Placed None C at (fmap cl f) → Bound (env_of Γ) (env_of Λ) f → Pairs (pre f) (tree_nodes at Γ Λ (plan_kinds f))
    pairs at Γ Λ nil l b = tt
    pairs at Γ Λ (tree m cs rest) l b =
        let Θ = more (scopes_its_last m.kind) at Γ in
        let z = size (plan_kinds cs) in (
          b.0,
          pairs_append (pre cs) (pre rest) (tree_nodes (at + 1) Γ Θ (plan_kinds cs)) (tree_nodes (at + 1 + z) Λ Λ (plan_kinds rest))
              (pairs (at + 1) Γ Θ cs l.1 (subst (λ h. Bound (env_of Γ) h cs) (more_env (scopes_its_last m.kind) at Γ (cl m) l.0) b.1))
              (pairs (at + 1 + z) Λ Λ rest (subst (λ n. Placed None C (at + 1 + n) (fmap cl rest)) (size_fmap cl cs ∙ sym (size_fmap (λ x. x.kind) cs)) l.2) b.2),
        )

  -- Expressions

  -- what the references among n nodes from number i on reach is provided
  abbrev Known : Env → ℕ → ℕ → Type 0
  Known env i n = (k : ℕ) → i ≤ k → k < i + n → declares (kind_at p k) ≡ false → (d : ℕ) → reach_at src k ≡ Some d → Provided env (OfDeclaration d)

  more_provided : (x : Option Class) (env : Env) (c : Class) → Provided env c → Provided (x ∷ env) c
  more_provided x env c h = or_right (together (Some c) x) (any (together (Some c)) env) h

  group_provided : (g : ℕ) (env : Env) → Provided (Some (OfGroup g) ∷ env) (OfGroup g)
  group_provided g env = or_left (eqb g g) (any (together (Some (OfGroup g))) env) (eq-eqb g g refl)

  known_part : (env : Env) (i n j m : ℕ) → Known env i n → i ≤ j → j + m ≤ i + n → Known env j m
  known_part env i n j m h a b = λ k u v. h k (omega arith) (omega arith)

  abbrev t_env : ℕ → Env → Env
  t_env i env = Some (OfGroup (2048 + i)) ∷ env

  node_bound : (t : Turn) (i : ℕ) (n : Node) (env : Env) (cs rest : Plan) → TurnFact t n.kind → width cs ≡ length (child_sorts n.kind n.number) → allowed card_grammar Card Expression n.kind ≡ true → Finds env (copy i n) → Bound env env cs → Bound (t_env i env) (t_env i env) cs → Bound env env rest → Bound env env (lowered_node t i n cs rest)
  node_bound bound_first i n env cs rest t w a f b b1 c =
      let ref = λ (d : declares Ref ≡ false) (h : true ≡ true). group_provided (2048 + i) env in (
        (λ d. absurd (true≢false d)),
        bound_after env (t_env i env) (first 1 cs) _ (one_first cs (w ∙ ap (λ k. length (child_sorts k n.number)) t)) (bound_front env 1 cs b)
            ((λ d h. absurd (false≢true h)), (ref, tt, (ref, tt, bound_back (t_env i env) 1 cs b1)), tt),
        c,
      )
  node_bound above_datum i n env cs rest t w a f b b1 c = ((λ d h. absurd (false≢true h)), bound_beside env cs _ b ((λ d h. absurd (false≢true h)), tt, tt), c)
  node_bound as_it_is i n env cs rest t w a f b b1 c =
      let e = not-true (scopes_its_last n.kind) (by_table (λ k. allowed card_grammar Card Expression k) (λ k. not (scopes_its_last k)) refl n.kind a) in
      (f, subst (λ bit. Bound env (cond bit (cl (copy i n) ∷ env) env) cs) (sym e) b, c)

  lowered_bound : (i : ℕ) (ss : List Sort) (f : Forest Node) (env : Env) → Only Expression ss → CardFills ss f → Placed blank p i f → Known env i (size f) → Bound env env (lowered i f)
  lowered_bound i [] nil env o h l k = tt
  lowered_bound i [] (tree n cs rest) env o h l k = absurd h
  lowered_bound i (s ∷ ss) nil env o h l k = absurd h
  lowered_bound i (s ∷ ss) (tree n cs rest) env o h l k =
      let a : allowed card_grammar Card Expression n.kind ≡ true = subst (λ t. allowed card_grammar Card t n.kind ≡ true) o.0 h.0 in
      let below = child_sorts n.kind n.number in
      let only = below_expression n.kind n.number (allowed_sort card_grammar Card Expression n.kind a) in
      let kc : Known env (i + 1) (size cs) = known_part env i (size (tree n cs rest)) (i + 1) (size cs) k (omega arith) (omega arith) in
      let kr : Known env (i + 1 + size cs) (size rest) = known_part env i (size (tree n cs rest)) (i + 1 + size cs) (size rest) k (omega arith) (omega arith) in
      let e : kind_at p i ≡ n.kind = ap (λ m. m.kind) l.0 in
      node_bound (turn n.kind) i n env (lowered (i + 1) cs) (lowered (i + 1 + size cs) rest) (turn_fact n.kind)
      (fills_width tree_grammar Tree (written p) below (lowered (i + 1) cs) (lowered_fills p (i + 1) below cs only h.1))
      a
      (finds env (copy i n) (λ d. copy_wants card_order vis p (Provided env) (has_name n.kind) i (λ r q. k i (omega arith) (omega arith) (ap declares e ∙ d) r q)))
      (lowered_bound (i + 1) below cs env only h.1 l.1 kc)
      (lowered_bound (i + 1) below cs (t_env i env) only h.1 l.1 (λ x u v w d q. more_provided (Some (OfGroup (2048 + i))) env (OfDeclaration d) (kc x u v w d q)))
      (lowered_bound (i + 1 + size cs) ss rest env o.1 h.2 l.2 kr)

  -- Lines

  -- the groups of the fields before F are provided
  abbrev Groups : Env → ℕ → Type 0
  Groups env F = (x : ℕ) → x < F → Provided env (OfGroup (2 * x)) × Provided env (OfGroup (2 * x + 1))

  more_groups : (c : Option Class) (env : Env) (F : ℕ) → Groups env F → Groups (c ∷ env) F
  more_groups c env F g = λ x l. (more_provided c env (OfGroup (2 * x)) (g x l).0, more_provided c env (OfGroup (2 * x + 1)) (g x l).1)

  abbrev AllProvided : Env → List ℕ → Type 0
  AllProvided env Γ = All (λ d. Provided env (OfDeclaration d)) Γ

  -- what follows is bound wherever the groups and the declarations before it are provided
  abbrev Next : ℕ → List ℕ → Plan → Type 0
  Next F Γ next = (env : Env) → Groups env F → AllProvided env Γ → Bound env env next

  let_bound : (i F : ℕ) (k : Kind) (Γ : List ℕ) (env : Env) (next : Plan) → kind_at p i ≡ k → declares k ≡ true → Groups env F → AllProvided env Γ → Next F (more (declares k) i Γ) next → Bound (cl (named Let (like i)) ∷ env) (cl (named Let (like i)) ∷ env) next
  let_bound i F k Γ env next e d g a nx =
      let m = named Let (like i) in
      let here = same_together (Some (OfDeclaration i)) (cl m) refl (like_class card_order vis p m i refl refl (ap declares e ∙ d)) in
      let before = All-weaker (λ x. Provided env (OfDeclaration x)) (λ x. Provided (cl m ∷ env) (OfDeclaration x)) (λ x h. more_provided (cl m) env (OfDeclaration x) h) Γ a in
      nx (cl m ∷ env) (more_groups (cl m) env F g)
      (subst (λ b. AllProvided (cl m ∷ env) (more b i Γ)) (sym d) (or_left (together (Some (OfDeclaration i)) (cl m)) (any (together (Some (OfDeclaration i))) env) here, before))

  line_bound : (t : LineTurn) (i f F : ℕ) (n : Node) (Γ : List ℕ) (env : Env) (body next : Plan) → LineFact t n.kind → kind_at p i ≡ n.kind → allowed card_grammar Card Line n.kind ≡ true → width body ≡ length (child_sorts n.kind n.number) → fields_after t f ≤ F → Groups env F → AllProvided env Γ → Bound env env body → Next F (more (declares n.kind) i Γ) next → Bound env env (lowered_line t i f body next)
  line_bound let_field i f F n Γ env body next l e a w lf g q b nx =
      let h = g f (omega arith) in
      let value : Bound env env (children (joined f)) = ((λ d x. absurd (false≢true x)), ((λ d x. h.0), tt, ((λ d x. absurd (false≢true x)), tt, tt)), ((λ d x. h.1), tt, tt)) in
      ((λ d. absurd (true≢false d)), ((λ d x. absurd (false≢true x)), value, let_bound i F n.kind Γ env next e (ap declares l) g q nx), tt)
  line_bound let_def i f F n Γ env body next l e a w lf g q b nx = (
    (λ d. absurd (true≢false d)),
    bound_after env (cl (named Let (like i)) ∷ env) body next (w ∙ ap (λ k. length (child_sorts k n.number)) l) b (let_bound i F n.kind Γ env next e (ap declares l) g q nx),
    tt,
  )
  line_bound put_out i f F n Γ env body next l e a w lf g q b nx =
      let d = ap declares (out_line p n.kind a l) in
      ((λ x h. absurd (false≢true h)), bound_beside env body next b (nx env g (subst (λ b. AllProvided env (more b i Γ)) (sym d) q)), tt)

  abbrev fields : Forest Node → ℕ
  fields nil = 0
  fields (tree n cs rest) = cond (is n.kind Field) (1 + fields rest) (fields rest)

  fields_step : (t : LineTurn) (k : Kind) (f r : ℕ) → LineFact t k → fields_after t f + r ≡ f + cond (is k Field) (1 + r) r
  fields_step let_field k f r l = subst (λ j. f + 1 + r ≡ f + cond (is j Field) (1 + r) r) (sym l) (omega arith)
  fields_step let_def k f r l = subst (λ j. f + r ≡ f + cond (is j Field) (1 + r) r) (sym l) refl
  fields_step put_out k f r l = subst (λ b. f + r ≡ f + cond b (1 + r) r) (sym l.0) refl

  -- what the nodes of each line see
  module _ (D : List (List ℕ)) where
    abbrev Scoped : ℕ → List ℕ → Forest Node → Type 0
    Scoped i Γ nil = Unit {0}
    Scoped i Γ (tree n cs rest) = ((k : ℕ) → i ≤ k → k < i + 1 + size cs → get_or D k [] ≡ Γ) × Scoped (i + 1 + size cs) (more (declares n.kind) i Γ) rest

    scoped : (before : List (List ℕ)) (i : ℕ) (Γ : List ℕ) (ls : Forest Node) → D ≡ before ++ card_lines i Γ (kinds_only ls) → length before ≡ i → Scoped i Γ ls
    scoped before i Γ nil e l = tt
    scoped before i Γ (tree n cs rest) e l =
        let z = size_kinds cs in
        let c = size (kinds_only cs) in
        let R = replicate (1 + c) Γ in
        let Γ' = more (declares n.kind) i Γ in
        let X = card_lines (i + 1 + c) Γ' (kinds_only rest) in
        let r : length R ≡ 1 + c = length-replicate (1 + c) Γ in (
          (λ k a b. ap (λ ds. get_or ds k []) e
              ∙ (get_or-append_right before (R ++ X) i k [] l a
              ∙ (get_or_append_left R X [] (k - i) (omega arith)
              ∙ get_or-replicate (1 + c) (k - i) Γ [] (omega arith)))),
          subst (λ s. Scoped (i + 1 + s) Γ' rest) z
              (scoped (before ++ R) (i + 1 + c) Γ' rest (e ∙ sym (append_assoc before R X)) (length-append before R ∙ omega arith)),
        )

  role_known : (P : ℕ → Type 0) (r : Role) (k : ℕ) (ds : List ℕ) (d q : ℕ) → role_declares r ≡ false → q < length (by_role r k ds) → get_or (by_role r k ds) q 0 ≡ d → All P ds → P d
  role_known P Plain k ds d q f l e a = absurd (omega arith)
  role_known P Declares k ds d q f l e a = absurd (true≢false f)
  role_known P Refers k ds d q f l e a = subst P e (All-get_or P ds q 0 l a)

  abbrev D : List (List ℕ)
  D = card_scopes (shape p)

  -- a line's references reach what it sees
  line_known : (i n : ℕ) (Γ : List ℕ) (env : Env) → ((k : ℕ) → i ≤ k → k < i + 1 + n → get_or D k [] ≡ Γ) → AllProvided env Γ → Known env (i + 1) n
  line_known i n Γ env s a = λ k u v w d e.
      let r = reached card_order vis p k d e in
      role_known (λ x. Provided env (OfDeclaration x)) (row (get_or (pre (shape p)) k Card)).role k (get_or D k []) d r.place (ap declares (shape_kind p k) ∙ w) r.within r.seen
      (subst (AllProvided env) (sym (s k (omega arith) v)) a)

  lines_bound : (i f F : ℕ) (Γ : List ℕ) (ss : List Sort) (ls : Forest Node) → Only Line ss → CardFills ss ls → Placed blank p i ls → Scoped D i Γ ls → f + fields ls ≤ F → Next F Γ (lowered_lines i f ls)
  lines_bound i f F Γ [] nil o h l s m env g a = ((λ d x. absurd (false≢true x)), tt, tt)
  lines_bound i f F Γ [] (tree n cs rest) o h l s m env g a = absurd h
  lines_bound i f F Γ (t ∷ ss) nil o h l s m env g a = absurd h
  lines_bound i f F Γ (t ∷ ss) (tree n cs rest) o h l s m env g a =
      let al : allowed card_grammar Card Line n.kind ≡ true = subst (λ u. allowed card_grammar Card u n.kind ≡ true) o.0 h.0 in
      let below = child_sorts n.kind n.number in
      let only = just_below (row n.kind).children n.number (by_table (λ j. allowed card_grammar Card Line j) (λ j. just_expressions (row j).children) refl n.kind al) in
      let turned = line_turn n.kind in
      let f' = fields_after turned f in
      let st : f' + fields rest ≡ f + fields (tree n cs rest) = fields_step turned n.kind f (fields rest) (line_fact n.kind) in
      line_bound turned i f F n Γ env (lowered (i + 1) cs) (lowered_lines (i + 1 + size cs) f' rest) (line_fact n.kind) (ap (λ x. x.kind) l.0) al
      (fills_width tree_grammar Tree (written p) below (lowered (i + 1) cs) (lowered_fills p (i + 1) below cs only h.1))
      (omega arith) g a
      (lowered_bound (i + 1) below cs env only h.1 l.1 (line_known i (size cs) Γ env s.0 a))
      (lines_bound (i + 1 + size cs) f' F (more (declares n.kind) i Γ) ss rest o.1 h.2 l.2 s.1 (omega arith))

  -- the reads provide the groups
  head_bound : (F f : ℕ) (ls : Forest Node) (next : Plan) → f + fields ls ≡ F → ((env : Env) → Groups env F → Bound env env next) → (env : Env) → Groups env f → Bound env env (head_reads f ls next)
  head_bound F f nil next e nx env g = let z : f ≡ F = omega arith in nx env (subst (Groups env) z g)
  head_bound F f (tree n cs rest) next e nx env g =
      go (is n.kind Field) (head_reads (f + 1) rest next) (head_reads f rest next) e (λ q. head_bound F (f + 1) rest next q nx) (λ q. head_bound F f rest next q nx)
    where
      go : (b : Bool) (x y : Plan) → f + cond b (1 + fields rest) (fields rest) ≡ F → (f + 1 + fields rest ≡ F → (env : Env) → Groups env (f + 1) → Bound env env x) → (f + fields rest ≡ F → (env : Env) → Groups env f → Bound env env y) → Bound env env (elim b [ true ↦ reads f n.number x | false ↦ y ])
      go true x y q hx hy =
          let e1 : Env = Some (OfGroup (2 * f)) ∷ env in
          let e2 : Env = Some (OfGroup (2 * f + 1)) ∷ e1 in
          let g2 : Groups e2 (f + 1) = λ k l.
          elim (cases_lt k f) [
            | inl s ↦ more_groups (Some (OfGroup (2 * f + 1))) e1 f (more_groups (Some (OfGroup (2 * f))) env f g) k s
            | inr s ↦
                (let z : f ≡ k = omega arith in
                subst (λ j. Provided e2 (OfGroup (2 * j)) × Provided e2 (OfGroup (2 * j + 1))) z
                (more_provided (Some (OfGroup (2 * f + 1))) e1 (OfGroup (2 * f)) (group_provided (2 * f) env), group_provided (2 * f + 1) e1))
          ] in
          ((λ d. absurd (true≢false d)), ((λ d h. absurd (false≢true h)), tt, ((λ d. absurd (true≢false d)), ((λ d h. absurd (false≢true h)), tt, hx (omega arith) e2 g2), tt)), tt)
      go false x y q hx hy = hy q env g

-- The whole plan

plan_bound : (p : List Node) → Of card_grammar p → Bound p [] [] (lower_plan p)
plan_bound p o =
    let c = carded p o in
    let ls = children (grow p) in
    let e : 0 + fields p ls ≡ fields p ls = omega arith in
    let le : 0 + fields p ls ≤ fields p ls = omega arith in
    let sc = scoped p (card_scopes (shape p)) ([] ∷ []) 1 [] ls (ap (λ s. [] ∷ card_lines 1 [] s) (children_kinds (grow p))) refl in (
      (λ d h. absurd (false≢true h)),
      head_bound p (fields p ls) 0 ls (lowered_lines 1 0 ls) e
          (λ env g. lines_bound p 1 0 (fields p ls) [] (replicate c.lines Line) ls (all_replicate (λ s. s ≡ Line) c.lines Line refl) c.fills (placed_grown blank p) sc le env g tt)
          [] (λ x l. absurd (omega arith)),
      tt,
    )

any_map : {A B : Type 0} (t : B → Bool) (g : A → B) (xs : List A) → any t (map g xs) ≡ any (λ x. t (g x)) xs
any_map t g [] = refl
any_map t g (x ∷ xs) = ap (λ b. t (g x) || b) (any_map t g xs)

pre_fmap : {A B : Type 0} (g : A → B) (f : Forest A) → pre (fmap g f) ≡ map g (pre f)
pre_fmap g nil = refl
pre_fmap g (tree a cs rest) = ap (λ r. g a ∷ r) (ap₂ (λ x y. x ++ y) (pre_fmap g cs) (pre_fmap g rest) ∙ sym (map-append g (pre cs) (pre rest)))

module _ (p : List Node) (o : Of card_grammar p) where
  abbrev T : Plan
  T = lower_plan p

  abbrev xs : List Planned
  xs = pre T

  abbrev clss : List (Option Class)
  clss = spelt_classes (src p) xs

  placed_classes : Placed None clss 0 (fmap (cl p) T)
  placed_classes =
      subst (λ cs. Placed None cs 0 (fmap (cl p) T)) (pre_fmap (cl p) T ∙ sym (map-map (class_of (src p)) (spell p) xs)) (placed_whole None (fmap (cl p) T))

  found : Found (src p) xs tree_scopes
  found i d h =
      let scopes = tree_nodes 0 [] [] (plan_kinds T) in
      let m = get_or xs i no_node in
      subst (λ s. any (λ j. together (cl p m) (get_or clss j None)) (get_or (tree_scopes s) i []) ≡ true) (sym (plan_shape tree_grammar Tree p (Root ∷ []) T (lower_fills p o)))
      (sym (any_map (together (cl p m)) (λ j. get_or clss j None) (get_or scopes i [])) ∙ pairs_at p clss xs scopes i (pairs p clss 0 [] [] T placed_classes (plan_bound p o)) d h)

pub lower_unfaulted : Unfaulted lower
lower_unfaulted =
    unfaulted lower lower_draft (λ s. refl)
    (λ p o. no_fault card_order vis p stem_of (pre (lower_plan p)) (every_pre (Sourced p) (lower_plan p) (lower_planner.sourced p)) (every_pre S (lower_plan p) (lower_stemmed p o)) tree_scopes (found p o))
