-- Forests whose nodes stand where their sorts may stand, and what that is for lists.
use Rattle.std.proofs.Common.{◌≡◌, ℕ, zero, suc, Bool, true, false, not, ◌&&◌, List, [], ◌∷◌, ◌++◌, map, length, get_or, sym, refl, ap, ◌∙◌, subst, ap₂, subst₂, append_assoc, arith}
use Rattle.std.specs.List.{AllByRecursion as All}
use Rattle.std.proofs.lemmas.List.{append-nil, map-append}
use Rattle.std.proofs.lemmas.Bool.{false≢true, eqb-true, and_parts, and_from, not-true, cond-false}
use Rattle.model.specs.declared.kinds.Kind.{Kind}
use Rattle.model.specs.declared.kinds.Sort.{Sort}
use Rattle.model.specs.declared.kinds.Sort.TheVariants.{Root, Line, Statement, Step, Expression}
use Rattle.model.specs.declared.nodes.Node.{Node}
use Rattle.model.specs.Kinds.{row, sort_number, same_sort, Children, exactly, as_many, sorts_below, child_sorts, Grammar, allowed, has_name}
use Rattle.model.specs.Names.{name_at, kind_at, no_name, nodes}
use Rattle.model.specs.Forest.{Forest, nil, tree, first, after, beside, over, plant, grow, pre, width, kinds_only, Shape, shape}
use Rattle.model.specs.Plans.{Naming, nameless, like, own, world, Planned, Plan, spelled, spell, spell_out}
use Rattle.model.specs.Fitting.{fits, proper, number_fits, name_fits, Of}
use Rattle.laws.proofs.Forests.{pre_grow, fmap, Every, every_pre, pre_every}
use Rattle.model.proofs.KindTables.{all, every_kind, by_table}
use Rattle.laws.proofs.Orders.{all_replicate}
use Rattle.laws.proofs.Planning.{NamedFrom, Sourced}

module _ {A : Type 0} (g : Grammar) (root : Kind) (h : A → Node) where
  -- the trees fill the places of these sorts
  abbrev pub Fills : List Sort → Forest A → Type 0
  Fills [] nil = Unit {0}
  Fills [] (tree a cs rest) = ⊥
  Fills (s ∷ ss) nil = ⊥
  Fills (s ∷ ss) (tree a cs rest) = (allowed g root s (h a).kind ≡ true) × Fills (child_sorts (h a).kind (h a).number) cs × Fills ss rest

  pub fills_beside : (ss ts : List Sort) (f e : Forest A) → Fills ss f → Fills ts e → Fills (ss ++ ts) (beside f e)
  fills_beside [] ts nil e a b = b
  fills_beside [] ts (tree x cs rest) e a b = absurd a
  fills_beside (s ∷ ss) ts nil e a b = absurd a
  fills_beside (s ∷ ss) ts (tree x cs rest) e a b = (a.0, a.1, fills_beside ss ts rest e a.2 b)

  pub fills_split : (ss ts : List Sort) (f : Forest A) → Fills (ss ++ ts) f → Fills ss (first (length ss) f) × Fills ts (after (length ss) f)
  fills_split [] ts f a = (tt, a)
  fills_split (s ∷ ss) ts nil a = absurd a
  fills_split (s ∷ ss) ts (tree x cs rest) a = let r = fills_split ss ts rest a.2 in ((a.0, a.1, r.0), r.1)

  pub fills_fits : (ss ts : List Sort) (f : Forest A) (more : List Node) → Fills ss f → fits g root (ss ++ ts) (map h (pre f) ++ more) ≡ fits g root ts more
  fills_fits [] ts nil more a = refl
  fills_fits [] ts (tree x cs rest) more a = absurd a
  fills_fits (s ∷ ss) ts nil more a = absurd a
  fills_fits (s ∷ ss) ts (tree x cs rest) more a =
      let here = h x in
      let below = child_sorts here.kind here.number in
      ap (λ b. b && fits g root (below ++ (ss ++ ts)) (map h (pre cs ++ pre rest) ++ more)) a.0
      ∙ (ap (λ l. fits g root (below ++ (ss ++ ts)) l) (ap (λ l. l ++ more) (map-append h (pre cs) (pre rest)) ∙ append_assoc (map h (pre cs)) (map h (pre rest)) more)
      ∙ (fills_fits below (ss ++ ts) cs (map h (pre rest) ++ more) a.1
      ∙ fills_fits ss ts rest more a.2))

  pub fills_width : (ss : List Sort) (f : Forest A) → Fills ss f → width f ≡ length ss
  fills_width [] nil a = refl
  fills_width [] (tree x cs rest) a = absurd a
  fills_width (s ∷ ss) nil a = absurd a
  fills_width (s ∷ ss) (tree x cs rest) a = let e = fills_width ss rest a.2 in omega arith

  first_fills : (ss : List Sort) (f : Forest A) (e : Forest Node) → Fills ss f → first (length ss) (beside (fmap h f) e) ≡ fmap h f
  first_fills [] nil e a = refl
  first_fills [] (tree x cs rest) e a = absurd a
  first_fills (s ∷ ss) nil e a = absurd a
  first_fills (s ∷ ss) (tree x cs rest) e a = ap (λ r. tree (h x) (fmap h cs) r) (first_fills ss rest e a.2)

  after_fills : (ss : List Sort) (f : Forest A) (e : Forest Node) → Fills ss f → after (length ss) (beside (fmap h f) e) ≡ e
  after_fills [] nil e a = refl
  after_fills [] (tree x cs rest) e a = absurd a
  after_fills (s ∷ ss) nil e a = absurd a
  after_fills (s ∷ ss) (tree x cs rest) e a = after_fills ss rest e a.2

  -- the forest that grows from the nodes of a forest whose trees fill their places
  pub grow_fills : (ss : List Sort) (f : Forest A) (more : List Node) → Fills ss f → grow (map h (pre f) ++ more) ≡ beside (fmap h f) (grow more)
  grow_fills [] nil more a = refl
  grow_fills [] (tree x cs rest) more a = absurd a
  grow_fills (s ∷ ss) nil more a = absurd a
  grow_fills (s ∷ ss) (tree x cs rest) more a =
      let below = child_sorts (h x).kind (h x).number in
      let rest' = beside (fmap h rest) (grow more) in
      ap (λ l. plant (h x) (grow l)) (ap (λ l. l ++ more) (map-append h (pre cs) (pre rest)) ∙ append_assoc (map h (pre cs)) (map h (pre rest)) more)
      ∙ (ap (plant (h x)) (grow_fills below cs (map h (pre rest) ++ more) a.1 ∙ ap (beside (fmap h cs)) (grow_fills ss rest more a.2))
      ∙ ap₂ (tree (h x)) (first_fills below cs rest' a.1) (after_fills below cs rest' a.1))

abbrev pub itself : Node → Node
itself n = n

pub grown_fills : (g : Grammar) (root : Kind) (ss : List Sort) (p : List Node) → fits g root ss p ≡ true → Fills g root itself ss (grow p)
grown_fills g root [] [] e = tt
grown_fills g root [] (n ∷ ns) e = false≢true e
grown_fills g root (s ∷ ss) [] e = false≢true e
grown_fills g root (s ∷ ss) (n ∷ ns) e =
    let below = child_sorts n.kind n.number in
    let q = and_parts (allowed g root s n.kind) (fits g root (below ++ ss) ns) e in
    let r = fills_split g root itself below ss (grow ns) (grown_fills g root (below ++ ss) ns q.1) in
    (q.0, r.0, r.1)

-- Sorts

abbrev pub Only : Sort → List Sort → Type 0
Only t ss = All (λ s. s ≡ t) ss

sort_back : (s : Sort) → get_or (Root ∷ Line ∷ Statement ∷ Step ∷ Expression ∷ []) (sort_number s) Root ≡ s
sort_back Root = refl
sort_back Line = refl
sort_back Statement = refl
sort_back Step = refl
sort_back Expression = refl

pub sort_same : (s t : Sort) → same_sort s t ≡ true → s ≡ t
sort_same s t h =
    sym (sort_back s) ∙ (ap (λ n. get_or (Root ∷ Line ∷ Statement ∷ Step ∷ Expression ∷ []) n Root) (eqb-true (sort_number s) (sort_number t) h) ∙ sort_back t)

only_expressions : (ss : List Sort) → all (λ s. same_sort s Expression) ss ≡ true → Only Expression ss
only_expressions [] h = tt
only_expressions (s ∷ ss) h = let q = and_parts (same_sort s Expression) (all (λ t. same_sort t Expression) ss) h in (sort_same s Expression q.0, only_expressions ss q.1)

abbrev pub just_expressions : Children → Bool
just_expressions (exactly ss) = all (λ s. same_sort s Expression) ss
just_expressions (as_many s) = false

pub just_below : (c : Children) (n : ℕ) → just_expressions c ≡ true → Only Expression (sorts_below c n)
just_below (exactly ss) n h = only_expressions ss h
just_below (as_many s) n h = absurd (false≢true h)

-- below an expression stand expressions
pub below_expression : (k : Kind) (n : ℕ) → same_sort (row k).sort Expression ≡ true → Only Expression (child_sorts k n)
below_expression k n h = just_below (row k).children n (by_table (λ j. same_sort (row j).sort Expression) (λ j. just_expressions (row j).children) refl k h)

pub allowed_sort : (g : Grammar) (root : Kind) (s : Sort) (k : Kind) → allowed g root s k ≡ true → same_sort (row k).sort s ≡ true
allowed_sort g root s k h = (and_parts (same_sort (row k).sort s) _ h).0

-- below the root stand the kinds that the grammar lets stand there
abbrev Rootless : List Sort → Type 0
Rootless ss = All (λ s. same_sort s Root ≡ false) ss

abbrev rootless : Children → Bool
rootless (exactly ss) = all (λ s. not (same_sort s Root)) ss
rootless (as_many s) = not (same_sort s Root)

rootless_all : (ss : List Sort) → all (λ s. not (same_sort s Root)) ss ≡ true → Rootless ss
rootless_all [] h = tt
rootless_all (s ∷ ss) h =
    let q = and_parts (not (same_sort s Root)) (all (λ t. not (same_sort t Root)) ss) h in
    (not-true (same_sort s Root) q.0, rootless_all ss q.1)

rootless_below : (c : Children) (n : ℕ) → rootless c ≡ true → Rootless (sorts_below c n)
rootless_below (exactly ss) n h = rootless_all ss h
rootless_below (as_many s) n h = all_replicate (λ t. same_sort t Root ≡ false) n s (not-true (same_sort s Root) h)

pub fills_below : (g : Grammar) (root : Kind) (ss : List Sort) (f : Forest Node) → Rootless ss → Fills g root itself ss f → Every (λ n. g.below root n.kind ≡ true) f
fills_below g root [] nil r h = tt
fills_below g root [] (tree n cs rest) r h = absurd h
fills_below g root (s ∷ ss) nil r h = absurd h
fills_below g root (s ∷ ss) (tree n cs rest) r h =
    let a = (and_parts (same_sort (row n.kind).sort s) _ h.0).1 in (
      sym (cond-false (same_sort s Root) (g.roots n.kind) (g.below root n.kind) r.0) ∙ a,
      fills_below g root (child_sorts n.kind n.number) cs (rootless_below (row n.kind).children n.number (every_kind (λ k. rootless (row k).children) refl n.kind)) h.1,
      fills_below g root ss rest r.1 h.2,
    )

-- Proper nodes

abbrev pub Numbered : Kind → ℕ → Type 0
Numbered k n = number_fits (row k).most n ≡ true

abbrev pub NodeNumbered : Node → Type 0
NodeNumbered n = Numbered n.kind n.number

abbrev pub PlanNumbered : Planned → Type 0
PlanNumbered m = Numbered m.kind m.number

-- the three parts of a proper list
proper_parts : (n : Node) (ns : List Node) → proper (n ∷ ns) ≡ true → NodeNumbered n × (name_fits (has_name n.kind) n.name ≡ true) × (proper ns ≡ true)
proper_parts n ns h =
    let a = number_fits (row n.kind).most n.number in
    let b = name_fits (has_name n.kind) n.name in
    let q = and_parts (a && b) (proper ns) h in
    let r = and_parts a b q.0 in
    (r.0, r.1, q.1)

proper_numbers : (p : List Node) → proper p ≡ true → All NodeNumbered p
proper_numbers [] h = tt
proper_numbers (n ∷ ns) h = let q = proper_parts n ns h in (q.0, proper_numbers ns q.2)

proper_names : (p : List Node) → proper p ≡ true → (j : ℕ) → has_name (kind_at p j) ≡ true → name_fits true (name_at p j) ≡ true
proper_names [] h j e = absurd (false≢true e)
proper_names (n ∷ ns) h zero e = subst (λ b. name_fits b n.name ≡ true) e (proper_parts n ns h).1
proper_names (n ∷ ns) h (suc j) e = proper_names ns (proper_parts n ns h).2 j e

pub grown_numbers : (p : List Node) → proper p ≡ true → Every NodeNumbered (grow p)
grown_numbers p h = (pre_every NodeNumbered (grow p) [] (rw (append-nil, pre_grow) (proper_numbers p h))).0

name_proper : (p : List Node) → proper p ≡ true → (k : Kind) (a : Naming) → NamedFrom p k a → name_fits (has_name k) (spelled p a) ≡ true
name_proper p h k nameless e = subst (λ b. name_fits b no_name ≡ true) (sym e) refl
name_proper p h k (like j) e = subst (λ b. name_fits b (name_at p j) ≡ true) (sym e.0) (proper_names p h j e.1)
name_proper p h k (own s g) e = subst (λ b. name_fits b (spelled p (own s g)) ≡ true) (sym e.0) e.1
name_proper p h k (world s) e = subst (λ b. name_fits b (spelled p (world s)) ≡ true) (sym e.0) e.2

planned_proper : (p : List Node) → proper p ≡ true → (xs : List Planned) → All (Sourced p) xs → All PlanNumbered xs → proper (nodes (map (spell p) xs)) ≡ true
planned_proper p h [] a b = refl
planned_proper p h (m ∷ xs) a b =
    let x = number_fits (row m.kind).most m.number in
    let y = name_fits (has_name m.kind) (spelled p m.naming) in
    and_from (x && y) (proper (nodes (map (spell p) xs))) (and_from x y b.0 (name_proper p h m.kind m.naming a.0)) (planned_proper p h xs a.1 b.1)

-- the node that is spelled
abbrev pub written : List Node → Planned → Node
written p m = (spell p m).node

nodes_written : (p : List Node) (xs : List Planned) → nodes (map (spell p) xs) ≡ map (written p) xs
nodes_written p [] = refl
nodes_written p (m ∷ xs) = ap (λ r. written p m ∷ r) (nodes_written p xs)

plan_fits : (g : Grammar) (root : Kind) (p : List Node) (ss : List Sort) (f : Plan) → Fills g root (written p) ss f → fits g root ss (nodes (spell_out p f)) ≡ true
plan_fits g root p ss f a =
    subst₂ (λ ts xs. fits g root ts xs ≡ true) (append-nil ss) (append-nil (map (written p) (pre f)) ∙ sym (nodes_written p (pre f))) (fills_fits g root (written p) ss [] f [] a)

-- a plan whose trees fill their places, with proper names and numbers, spells a program
pub planned_of : (g : Grammar) (p : List Node) (m : Planned) (f : Plan) → proper p ≡ true → Fills g m.kind (written p) (Root ∷ []) (over m f) → Every (Sourced p) (over m f) → Every PlanNumbered (over m f) → Of g (nodes (spell_out p (over m f)))
planned_of g p m f h a b c =
    record {
      fitting = plan_fits g m.kind p (Root ∷ []) (over m f) a;
      proper_nodes = planned_proper p h (pre (over m f)) (every_pre (Sourced p) (over m f) b) (every_pre PlanNumbered (over m f) c);
    }

-- its shape
abbrev pub plan_kinds : Plan → Shape
plan_kinds f = fmap (λ m. m.kind) f

kinds_fmap : (p : List Node) (f : Plan) → kinds_only (fmap (written p) f) ≡ plan_kinds f
kinds_fmap p nil = refl
kinds_fmap p (tree m cs rest) = ap₂ (tree m.kind) (kinds_fmap p cs) (kinds_fmap p rest)

beside_nil : {A : Type 0} (f : Forest A) → beside f nil ≡ f
beside_nil nil = refl
beside_nil (tree a cs rest) = ap (tree a cs) (beside_nil rest)

pub plan_shape : (g : Grammar) (root : Kind) (p : List Node) (ss : List Sort) (f : Plan) → Fills g root (written p) ss f → shape (nodes (spell_out p f)) ≡ plan_kinds f
plan_shape g root p ss f a =
    ap (λ l. kinds_only (grow l)) (nodes_written p (pre f) ∙ sym (append-nil (map (written p) (pre f))))
    ∙ (ap kinds_only (grow_fills g root (written p) ss f [] a ∙ beside_nil (fmap (written p) f)) ∙ kinds_fmap p f)
