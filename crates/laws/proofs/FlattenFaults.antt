-- What flatten makes of a tree has no fault.
use Rattle.std.proofs.Common.{◌≡◌, ℕ, zero, suc, ◌+◌, ◌*◌, ◌%◌, ◌<◌, ◌≤◌, Bool, true, false, cond, not, ◌&&◌, ◌||◌, eqb, ◌⊎◌, List, [], ◌∷◌, ◌++◌, length, get_or, Some, None, Option, sym, refl, ap, ◌∙◌, subst, inl, inr, add-zero, one-add, arith}
use Prim.Native.String.{String}
use Rattle.std.specs.List.{AllByRecursion as All}
use Rattle.std.proofs.lemmas.List.{get_or_past, get_or-replicate, length-map}
use Rattle.std.proofs.lemmas.Bool.{false≢true, and_from, or_left, or_right, cases_lt}
use Rattle.model.specs.declared.kinds.Kind.{Kind}
use Rattle.model.specs.declared.kinds.Kind.TheVariants.{Card, Tree, Let, Put, End, If, Bind}
use Rattle.model.specs.declared.kinds.Sort.{Sort}
use Rattle.model.specs.declared.kinds.Sort.TheVariants.{Root, Statement}
use Rattle.model.specs.declared.nodes.Node.{Node}
use Rattle.model.specs.Lists.{any}
use Rattle.model.specs.Kinds.{is, declares, has_name, child_sorts, stands_under, tree_grammar}
use Rattle.model.specs.Names.{kind_at, blank, plainly}
use Rattle.model.specs.Fitting.{Of}
use Rattle.model.specs.Forest.{Forest, nil, tree, beside, grow, pre, size, width, children}
use Rattle.model.specs.Scopes.{more, declarations, flat_scopes, tree_order}
use Rattle.model.specs.declared.classes.Class.{Class}
use Rattle.model.specs.declared.classes.Class.TheVariants.{OfDeclaration, OfGroup}
use Rattle.model.specs.Classes.{Source, source_of, together, is_inner}
use Rattle.model.specs.Plans.{Naming, nameless, like, own, world, Planned, Plan, own_name}
use Rattle.model.specs.Flatten.{Flattened, nothing, all_steps, stored, result, no_label, fin_label, branches, Turn, slot_let, emit_put, slot_bind, branch_if, end_here, as_it_is, turn, flattened_node, flattened, flatten_plan, flatten_draft, flatten}
use Rattle.model.specs.Rules.{Visible}
use Rattle.model.proofs.KindTables.{by_table}
use Rattle.laws.specs.Stages.{Unfaulted}
use Rattle.laws.proofs.Forests.{pre_grow, size_pre, Throughout, throughout_both, throughout_at, placed_grown, Every, every_pre, every_throughout}
use Rattle.laws.proofs.Orders.{orders_visible_lem, all_at}
use Rattle.laws.proofs.Reaches.{reached}
use Rattle.laws.proofs.Meanings.{unfaulted}
use Rattle.laws.proofs.Planning.{Sourced}
use Rattle.laws.proofs.Sorts.{Fills, grown_fills, itself, fills_width}
use Rattle.laws.proofs.Flattening.{TurnFact, turn_fact, brought, all_steps_every, flatten_planner}
use Rattle.laws.proofs.FlattenMade.{TreeFills, root_tree, treed, treed_below}
use Rattle.laws.proofs.Faults.{no_node, Stemmed, class_in, same_together, like_class, own_class, Wants, wants_class, spelt_classes, spelt_shape, class_is, kinds_are, kind_is, Found, no_fault, copy_stemmed}

-- Stems: by the remainder of the group by three

abbrev stem_of : ℕ → String
stem_of g = cond (eqb (g % 3) 0) "r" (cond (eqb (g % 3) 1) "no" "fin")

stem_at : (g m : ℕ) → g % 3 ≡ m → plainly (stem_of g) ≡ plainly (cond (eqb m 0) "r" (cond (eqb m 1) "no" "fin"))
stem_at g m e = ap (λ n. plainly (cond (eqb n 0) "r" (cond (eqb n 1) "no" "fin"))) e

r_stem : (i : ℕ) → plainly "r" ≡ plainly (stem_of (3 * i))
r_stem i = sym (stem_at (3 * i) 0 (omega arith))

no_stem : (i : ℕ) → plainly "no" ≡ plainly (stem_of (3 * i + 1))
no_stem i = sym (stem_at (3 * i + 1) 1 (omega arith))

fin_stem : (i : ℕ) → plainly "fin" ≡ plainly (stem_of (3 * i + 2))
fin_stem i = sym (stem_at (3 * i + 2) 2 (omega arith))

abbrev S : Planned → Type 0
S m = Stemmed stem_of m

node_stemmed : (t : Turn) (i : ℕ) (n : Node) → All S (brought t i n)
node_stemmed slot_let i n = (tt, (tt, tt))
node_stemmed emit_put i n = (tt, tt)
node_stemmed slot_bind i n = (tt, (tt, tt))
node_stemmed branch_if i n = (r_stem i, (no_stem i, (r_stem i, (fin_stem i, (no_stem i, (fin_stem i, (r_stem i, tt)))))))
node_stemmed end_here i n = tt
node_stemmed as_it_is i n = (copy_stemmed stem_of (has_name n.kind) i, tt)

flatten_stemmed : (p : List Node) → Every S (flatten_plan p)
flatten_stemmed p =
    (tt, all_steps_every S (λ i n. get_or p i blank ≡ n) (λ i n e. node_stemmed (turn n.kind) i n) (children (grow p)) (placed_grown blank p), tt)

-- The declarations of a plan

abbrev Bears : Naming → Plan → Type 0
Bears a nil = ⊥
Bears a (tree m cs rest) = ((declares m.kind ≡ true) × (m.naming ≡ a)) ⊎ (Bears a cs ⊎ Bears a rest)

bears_left : (a : Naming) (f g : Plan) → Bears a f → Bears a (beside f g)
bears_left a nil g b = absurd b
bears_left a (tree m cs rest) g (inl b) = inl b
bears_left a (tree m cs rest) g (inr (inl b)) = inr (inl b)
bears_left a (tree m cs rest) g (inr (inr b)) = inr (inr (bears_left a rest g b))

bears_right : (a : Naming) (f g : Plan) → Bears a g → Bears a (beside f g)
bears_right a nil g b = b
bears_right a (tree m cs rest) g b = inr (inr (bears_right a rest g b))

abbrev DeclaredAt : Naming → List Planned → Type 0
DeclaredAt a xs = (j : ℕ) × (declares (get_or xs j no_node).kind ≡ true) × ((get_or xs j no_node).naming ≡ a)

at_left : (a : Naming) (xs ys : List Planned) → DeclaredAt a xs → DeclaredAt a (xs ++ ys)
at_left a [] ys h = absurd (false≢true h.1)
at_left a (x ∷ xs) ys (zero, d, e) = (zero, d, e)
at_left a (x ∷ xs) ys (suc j, d, e) = let q = at_left a xs ys (j, d, e) in (suc q.0, q.1, q.2)

at_right : (a : Naming) (xs ys : List Planned) → DeclaredAt a ys → DeclaredAt a (xs ++ ys)
at_right a [] ys h = h
at_right a (x ∷ xs) ys h = let q = at_right a xs ys h in (suc q.0, q.1, q.2)

bears_at : (a : Naming) (f : Plan) → Bears a f → DeclaredAt a (pre f)
bears_at a nil b = absurd b
bears_at a (tree m cs rest) (inl b) = (0, b.0, b.1)
bears_at a (tree m cs rest) (inr (inl b)) = let q = at_left a (pre cs) (pre rest) (bears_at a cs b) in (suc q.0, q.1, q.2)
bears_at a (tree m cs rest) (inr (inr b)) = let q = at_right a (pre cs) (pre rest) (bears_at a rest b) in (suc q.0, q.1, q.2)

-- What the steps of a child declare, those of its node declare

abbrev sub : List Flattened → ℕ → Plan
sub xs k = (get_or xs k nothing).steps

length_flattened : (i : ℕ) (f : Forest Node) → length (flattened i f) ≡ width f
length_flattened i nil = refl
length_flattened i (tree n cs rest) = ap suc (length_flattened (i + 1 + size cs) rest) ∙ sym (one-add (width rest))

none_past : (a : Naming) (xs : List Flattened) (k : ℕ) → length xs ≤ k → Bears a (sub xs k) → ⊥
none_past a xs k l b = subst (λ x. Bears a x.steps) (get_or_past xs k nothing l) b

all_bears : (a : Naming) (xs : List Flattened) (k : ℕ) → Bears a (sub xs k) → Bears a (all_steps xs)
all_bears a [] k b = absurd b
all_bears a (x ∷ xs) zero b = bears_left a x.steps (all_steps xs) b
all_bears a (x ∷ xs) (suc k) b = bears_right a x.steps (all_steps xs) (all_bears a xs k b)

stored_bears : (i k : ℕ) (a : Naming) (xs : List Flattened) → length xs ≡ 2 → Bears a (sub xs k) → Bears a (stored i (get_or xs 0 nothing) (sub xs 1))
stored_bears i zero a xs l b = bears_left a (sub xs 0) _ b
stored_bears i (suc zero) a xs l b = bears_right a (sub xs 0) _ (inr (inr (inr (inr b))))
stored_bears i (suc (suc k)) a xs l b = absurd (none_past a xs (suc (suc k)) (omega arith) b)

branches_bears : (i k : ℕ) (a : Naming) (xs : List Flattened) → length xs ≡ 3 → Bears a (sub xs k) → Bears a (branches i (get_or xs 0 nothing) (get_or xs 1 nothing) (get_or xs 2 nothing))
branches_bears i zero a xs l b = bears_left a (sub xs 0) _ b
branches_bears i (suc zero) a xs l b = bears_right a (sub xs 0) _ (inr (inr (inr (inr (bears_left a (sub xs 1) _ b)))))
branches_bears i (suc (suc zero)) a xs l b =
    bears_right a (sub xs 0) _ (inr (inr (inr (inr (bears_right a (sub xs 1) _ (inr (inr (inr (inr (inr (inr (bears_left a (sub xs 2) _ b))))))))))))
branches_bears i (suc (suc (suc k))) a xs l b = absurd (none_past a xs (suc (suc (suc k))) (omega arith) b)

emitted_bears : (k : ℕ) (a : Naming) (m : Planned) (xs : List Flattened) → length xs ≡ 2 → Bears a (sub xs k) → Bears a (beside (sub xs 0) (tree m (get_or xs 0 nothing).value (sub xs 1)))
emitted_bears zero a m xs l b = bears_left a (sub xs 0) _ b
emitted_bears (suc zero) a m xs l b = bears_right a (sub xs 0) _ (inr (inr b))
emitted_bears (suc (suc k)) a m xs l b = absurd (none_past a xs (suc (suc k)) (omega arith) b)

node_bears : (t : Turn) (i k : ℕ) (n : Node) (a : Naming) (xs : List Flattened) → TurnFact t n.kind → length xs ≡ length (child_sorts n.kind n.number) → Bears a (sub xs k) → Bears a (flattened_node t i n (get_or xs 0 nothing) (get_or xs 1 nothing) (get_or xs 2 nothing) xs).steps
node_bears slot_let i k n a xs f m b = stored_bears i k a xs (m ∙ ap (λ j. length (child_sorts j n.number)) f) b
node_bears emit_put i k n a xs f m b = emitted_bears k a _ xs (m ∙ ap (λ j. length (child_sorts j n.number)) f) b
node_bears slot_bind i k n a xs f m b = stored_bears i k a xs (m ∙ ap (λ j. length (child_sorts j n.number)) f) b
node_bears branch_if i k n a xs f m b = branches_bears i k a xs (m ∙ ap (λ j. length (child_sorts j n.number)) f) b
node_bears end_here i k n a xs f m b = let l : length xs ≡ 0 = m ∙ ap (λ j. length (child_sorts j n.number)) f in absurd (none_past a xs k (omega arith) b)
node_bears as_it_is i k n a xs f m b = all_bears a xs k b

-- In the whole plan T

-- what a turn declares
abbrev declared_by : Turn → ℕ → List Naming
declared_by slot_let i = like i ∷ []
declared_by emit_put i = []
declared_by slot_bind i = like i ∷ []
declared_by branch_if i = result i ∷ no_label i ∷ fin_label i ∷ []
declared_by end_here i = []
declared_by as_it_is i = []

module _ (T : Plan) where
  abbrev Within : Plan → Type 0
  Within f = (a : Naming) → Bears a f → Bears a T

  -- what node n at place i declares is declared in T
  abbrev DeclaresHere : ℕ → Node → Type 0
  DeclaresHere i n = All (λ a. Bears a T) (declared_by (turn n.kind) i)

  stored_declared : (i : ℕ) (x : Flattened) (next : Plan) → Within (stored i x next) → Bears (like i) T
  stored_declared i x next w = w (like i) (bears_right (like i) x.steps _ (inl (refl, refl)))

  branches_declared : (i : ℕ) (c a b : Flattened) → Within (branches i c a b) → All (λ a. Bears a T) (declared_by branch_if i)
  branches_declared i c a b w = (
    w (result i) (bears_right (result i) c.steps _ (inl (refl, refl))),
    (
      w (no_label i) (bears_right (no_label i) c.steps _ (inr (inr (inr (inr (bears_right (no_label i) a.steps _ (inr (inr (inr (inr (inl (refl, refl)))))))))))),
      (
        w (fin_label i)
            (bears_right (fin_label i) c.steps _ (inr (inr (inr (inr (bears_right (fin_label i) a.steps _ (inr (inr (inr (inr (inr (inr (bears_right (fin_label i) b.steps _ (inr (inr (inl (refl, refl))))))))))))))))),
        tt,
      ),
    ),
  )

  node_declared : (t : Turn) (i : ℕ) (n : Node) (x y z : Flattened) (all : List Flattened) → Within (flattened_node t i n x y z all).steps → All (λ a. Bears a T) (declared_by t i)
  node_declared slot_let i n x y z all w = (stored_declared i x y.steps w, tt)
  node_declared emit_put i n x y z all w = tt
  node_declared slot_bind i n x y z all w = (stored_declared i x y.steps w, tt)
  node_declared branch_if i n x y z all w = branches_declared i x y z w
  node_declared end_here i n x y z all w = tt
  node_declared as_it_is i n x y z all w = tt

  flattened_declared : (i : ℕ) (ss : List Sort) (f : Forest Node) → TreeFills ss f → ((k : ℕ) → Within (sub (flattened i f) k)) → Throughout DeclaresHere i f
  flattened_declared i [] nil h w = tt
  flattened_declared i [] (tree n cs rest) h w = absurd h
  flattened_declared i (s ∷ ss) nil h w = absurd h
  flattened_declared i (s ∷ ss) (tree n cs rest) h w =
      let ps = flattened (i + 1) cs in
      let below = child_sorts n.kind n.number in
      let long : length ps ≡ length below = length_flattened (i + 1) cs ∙ fills_width tree_grammar Tree itself below cs h.1 in (
        node_declared (turn n.kind) i n (get_or ps 0 nothing) (get_or ps 1 nothing) (get_or ps 2 nothing) ps (w 0),
        flattened_declared (i + 1) below cs h.1 (λ k a b. w 0 a (node_bears (turn n.kind) i k n a ps (turn_fact n.kind) long b)),
        flattened_declared (i + 1 + size cs) ss rest h.2 (λ k. w (suc k)),
      )

  -- the transformation's own names are declared in T
  abbrev OwnDeclared : Naming → Type 0
  OwnDeclared nameless = Unit {0}
  OwnDeclared (like j) = Unit {0}
  OwnDeclared (own s g) = Bears (own s g) T
  OwnDeclared (world s) = Unit {0}

  abbrev Owned : Planned → Type 0
  Owned m = OwnDeclared m.naming

  node_owned : (t : Turn) (i : ℕ) (n : Node) → All (λ a. Bears a T) (declared_by t i) → All Owned (brought t i n)
  node_owned slot_let i n h = (tt, (tt, tt))
  node_owned emit_put i n h = (tt, tt)
  node_owned slot_bind i n h = (tt, (tt, tt))
  node_owned branch_if i n h = let no = h.1.0 in let fin = h.1.1.0 in (h.0, (no, (h.0, (fin, (no, (fin, (h.0, tt)))))))
  node_owned end_here i n h = tt
  node_owned as_it_is i n h = (copied (has_name n.kind), tt)
    where
      copied : (b : Bool) → OwnDeclared (own_name b i)
      copied true = tt
      copied false = tt

  -- so are the names of the source's declarations
  abbrev Kept : ℕ → Node → Type 0
  Kept i n = declares n.kind ≡ true → Bears (like i) T

  no_declaration : (k : Kind) → stands_under Tree k ≡ true → TurnFact as_it_is k → declares k ≡ true → ⊥
  no_declaration k u f d =
      false≢true (by_table (λ j. stands_under Tree j && (not (is j Let || is j Put || is j Bind || is j If || is j End) && declares j)) (λ j. false) refl k
      (and_from (stands_under Tree k) _ u (and_from (not (is k Let || is k Put || is k Bind || is k If || is k End)) (declares k) (ap not f) d)))

  node_kept : (t : Turn) (i : ℕ) (k : Kind) → TurnFact t k → All (λ a. Bears a T) (declared_by t i) → stands_under Tree k ≡ true → declares k ≡ true → Bears (like i) T
  node_kept slot_let i k f h u d = h.0
  node_kept emit_put i k f h u d = absurd (false≢true (sym (ap declares f) ∙ d))
  node_kept slot_bind i k f h u d = h.0
  node_kept branch_if i k f h u d = absurd (false≢true (sym (ap declares f) ∙ d))
  node_kept end_here i k f h u d = absurd (false≢true (sym (ap declares f) ∙ d))
  node_kept as_it_is i k f h u d = absurd (no_declaration k u f d)

  kept_none : (r : Kind) (i : ℕ) (f : Forest Node) → Fills tree_grammar r itself [] f → Throughout Kept i f
  kept_none r i nil h = tt
  kept_none r i (tree n cs rest) h = absurd h

-- The whole plan

module _ (p : List Node) (o : Of tree_grammar p) where
  abbrev T : Plan
  T = flatten_plan p

  within_whole : (k : ℕ) → Within T (sub (flattened 1 (children (grow p))) k)
  within_whole k a b = inr (inl (all_bears a (flattened 1 (children (grow p))) k b))

  declared : Throughout (DeclaresHere T) 1 (children (grow p))
  declared = flattened_declared T 1 (Statement ∷ []) (children (grow p)) (treed p o) within_whole

  owned : Every (Owned T) T
  owned = (tt, all_steps_every (Owned T) (DeclaresHere T) (λ i n h. node_owned T (turn n.kind) i n h) (children (grow p)) declared, tt)

  kept : Throughout (Kept T) 1 (children (grow p))
  kept =
      let under = every_throughout (λ n. stands_under Tree n.kind ≡ true) 1 (children (grow p)) (treed_below p o) in
      throughout_both (DeclaresHere T) (λ i n. stands_under Tree n.kind ≡ true) (Kept T) (λ i n h u. node_kept T (turn n.kind) i n.kind (turn_fact n.kind) h u) 1 (children (grow p)) declared under

kept_whole : (p : List Node) → Of tree_grammar p → Throughout (Kept (flatten_plan p)) 0 (grow p)
kept_whole [] o = tt
kept_whole (n ∷ ns) o =
    let f = grown_fills tree_grammar n.kind (Root ∷ []) (n ∷ ns) o.fitting in
    ((λ d. absurd (false≢true (sym (ap declares (root_tree n.kind f.0)) ∙ d))), kept (n ∷ ns) o, kept_none (flatten_plan (n ∷ ns)) n.kind _ _ f.2)

declared_whole : (p : List Node) → Of tree_grammar p → (d : ℕ) → declares (kind_at p d) ≡ true → Bears (like d) (flatten_plan p)
declared_whole p o d h =
    let e : 0 + d ≡ d = omega arith in
    subst (λ j. Bears (like j) (flatten_plan p)) e
    (throughout_at (Kept (flatten_plan p)) blank (λ i c. absurd (false≢true c)) 0 (grow p) d (kept_whole p o) (ap (λ q. declares (kind_at q d)) (pre_grow p) ∙ h))

-- Every declaration of the plan is seen

more_any : (t : ℕ → Bool) (b : Bool) (a : ℕ) (Γ : List ℕ) → any t Γ ≡ true → any t (more b a Γ) ≡ true
more_any t true a Γ h = or_right (t a) (any t Γ) h
more_any t false a Γ h = h

more_head : (t : ℕ → Bool) (b : Bool) (a : ℕ) (Γ : List ℕ) → b ≡ true → t a ≡ true → any t (more b a Γ) ≡ true
more_head t true a Γ e h = or_left (t a) (any t Γ) h
more_head t false a Γ e h = absurd (false≢true e)

any_declared : (t : ℕ → Bool) (ks : List Kind) (a j : ℕ) → declares (get_or ks j Card) ≡ true → t (a + j) ≡ true → any t (declarations a ks) ≡ true
any_declared t [] a j d h = absurd (false≢true d)
any_declared t (k ∷ ks) a zero d h = more_head t (declares k) a (declarations (a + 1) ks) d (subst (λ n. t n ≡ true) (add-zero a) h)
any_declared t (k ∷ ks) a (suc j) d h =
    let e : a + suc j ≡ a + 1 + j = omega arith in
    more_any t (declares k) a (declarations (a + 1) ks) (any_declared t ks (a + 1) j d (subst (λ n. t n ≡ true) e h))

abbrev vis : Visible tree_order
vis = orders_visible_lem.tree

module _ (p : List Node) (o : Of tree_grammar p) where
  abbrev src : Source
  src = source_of tree_order p

  abbrev xs : List Planned
  xs = pre (flatten_plan p)

  abbrev clss : List (Option Class)
  clss = spelt_classes src xs

  abbrev scopes_at : ℕ → List ℕ
  scopes_at i = get_or (flat_scopes (spelt_shape src xs)) i []

  inner_within : (i : ℕ) → is_inner (class_in src (get_or xs i no_node)) ≡ true → i < length xs
  inner_within i h =
      elim (cases_lt i (length xs)) [
        | inl l ↦ l
        | inr l ↦ absurd (false≢true (sym (ap (λ m. is_inner (class_in src m)) (get_or_past xs i no_node l)) ∙ h))
      ]

  all_seen : (i : ℕ) → i < length xs → scopes_at i ≡ declarations 0 (pre (spelt_shape src xs))
  all_seen i l =
      let shp = spelt_shape src xs in
      let z : size shp ≡ length xs = size_pre shp ∙ (ap length (kinds_are src xs) ∙ length-map xs (λ m. m.kind)) in
      get_or-replicate (size shp) i (declarations 0 (pre shp)) [] (omega arith)

  abbrev Seen : ℕ → Option Class → Type 0
  Seen i c = any (λ k. together c (get_or clss k None)) (scopes_at i) ≡ true

  -- a class that is declared is seen
  declared_seen : (i : ℕ) → i < length xs → (c : Option Class) → is_inner c ≡ true → (j : ℕ) → declares (get_or xs j no_node).kind ≡ true → class_in src (get_or xs j no_node) ≡ c → Seen i c
  declared_seen i l c h j d e =
      let z : 0 + j ≡ j = omega arith in
      subst (λ ds. any (λ k. together c (get_or clss k None)) ds ≡ true) (sym (all_seen i l))
      (any_declared (λ k. together c (get_or clss k None)) (pre (spelt_shape src xs)) 0 j (ap declares (kind_is src xs j) ∙ d)
      (same_together c (get_or clss (0 + j) None) h (ap (λ n. get_or clss n None) z ∙ (class_is src xs j ∙ e))))

  wants : (i : ℕ) → i < length xs → (a : Naming) → OwnDeclared (flatten_plan p) a → Wants tree_order vis p (λ c. Seen i (Some c)) a
  wants i l nameless h = tt
  wants i l (like j) h = λ d e.
      let r = (reached tree_order vis p j d e).declaration in
      let q = bears_at (like d) (flatten_plan p) (declared_whole p o d r) in
      declared_seen i l (Some (OfDeclaration d)) refl q.0 q.1 (like_class tree_order vis p (get_or xs q.0 no_node) d q.1 q.2 r)
  wants i l (own s g) h =
      let q = bears_at (own s g) (flatten_plan p) h in
      declared_seen i l (Some (OfGroup g)) refl q.0 q.1 (own_class tree_order vis p (get_or xs q.0 no_node) s g q.1 q.2)
  wants i l (world s) h = tt

  found : Found src xs flat_scopes
  found i d h =
      let m = get_or xs i no_node in
      wants_class tree_order vis p (Seen i) (has_name m.kind) m.naming
      (wants i (inner_within i h) m.naming (all_at (Owned (flatten_plan p)) xs no_node i (every_pre (Owned (flatten_plan p)) (flatten_plan p) (owned p o)) tt)) h

pub flatten_unfaulted : Unfaulted flatten
flatten_unfaulted =
    unfaulted flatten flatten_draft (λ s. refl)
    (λ p o. no_fault tree_order vis p stem_of (pre (flatten_plan p)) (every_pre (Sourced p) (flatten_plan p) (flatten_planner.sourced p)) (every_pre S (flatten_plan p) (flatten_stemmed p)) flat_scopes (found p o))
