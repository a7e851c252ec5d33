-- The visible orders of the four languages, three of them as parts of the one by the root.
use Rattle.std.proofs.Common.{◌≡◌, ℕ, zero, suc, ◌+◌, ◌<◌, Bool, true, false, cond, List, [], ◌∷◌, ◌++◌, length, get_or, replicate, refl, ap, ◌∙◌, subst, add-zero, arith}
use Rattle.std.specs.List.{AllByRecursion as All}
use Rattle.std.proofs.ByRecursion.{All-get_or, All-append}
use Rattle.std.proofs.lemmas.Bool.{false≢true, true≢false, and_parts}
use Rattle.model.specs.declared.kinds.Kind.{Kind}
use Rattle.model.specs.declared.kinds.Kind.TheVariants.{Card, Tree, Flat}
use Rattle.model.specs.declared.kinds.Role.{Role}
use Rattle.model.specs.declared.kinds.Role.TheVariants.{Plain, Declares, Refers}
use Rattle.model.specs.declared.kinds.Sort.TheVariants.{Root}
use Rattle.model.specs.declared.nodes.Node.{Node}
use Rattle.model.specs.Kinds.{row, is, same_sort, declares, role_declares, role_named, child_sorts, Grammar, of_roots, allowed}
use Rattle.model.specs.Names.{root_of}
use Rattle.model.specs.Fitting.{fits, Of}
use Rattle.model.specs.Forest.{nil, tree, Shape, shape, size, children, pre}
use Rattle.model.specs.Scopes.{Language, order_of, owned, by_role, more, card_lines, card_scopes, scopes_its_last, tree_nodes, tree_scopes, declarations, flat_scopes, scopes_of, root_scopes, by_root}
use Rattle.model.specs.Rules.{Visible, Part}
use Rattle.model.proofs.KindTables.{by_table, is_same}
use Rattle.laws.specs.Orders.{OrdersVisible, LanguagesParts}
use Rattle.laws.proofs.Forests.{Placed, placed_whole, placed_children, size_pre}

pub all_replicate : {A : Type 0} (P : A → Type 0) (n : ℕ) (x : A) → P x → All P (replicate n x)
all_replicate P zero x h = tt
all_replicate P (suc n) x h = (h, all_replicate P n x h)

-- at every place, within the list and past it
pub all_at : {A : Type 0} (P : A → Type 0) (xs : List A) (d : A) (i : ℕ) → All P xs → P d → P (get_or xs i d)
all_at P [] d i a h = h
all_at P (x ∷ xs) d zero a h = a.0
all_at P (x ∷ xs) d (suc i) a h = all_at P xs d i a.1 h

-- Scopes hold declarations

abbrev Declared : List Kind → ℕ → Type 0
Declared ks d = declares (get_or ks d Card) ≡ true

module _ (ks : List Kind) where
  more_declared : (k : Kind) (b : Bool) (at : ℕ) (Γ : List ℕ) → get_or ks at Card ≡ k → (b ≡ true → declares k ≡ true) → All (Declared ks) Γ → All (Declared ks) (more b at Γ)
  more_declared k true at Γ e h a = (ap declares e ∙ h refl, a)
  more_declared k false at Γ e h a = a

  card_declared : (at : ℕ) (Γ : List ℕ) (f : Shape) → Placed Card ks at f → All (Declared ks) Γ → All (All (Declared ks)) (card_lines at Γ f)
  card_declared at Γ nil p g = tt
  card_declared at Γ (tree k cs rest) p g =
      All-append (All (Declared ks)) (replicate (1 + size cs) Γ) (card_lines (at + 1 + size cs) (more (declares k) at Γ) rest)
      (all_replicate (All (Declared ks)) (1 + size cs) Γ g)
      (card_declared (at + 1 + size cs) (more (declares k) at Γ) rest p.2 (more_declared k (declares k) at Γ p.0 (λ h. h) g))

  tree_declared : (at : ℕ) (Γ Λ : List ℕ) (f : Shape) → Placed Card ks at f → All (Declared ks) Γ → All (Declared ks) Λ → All (All (Declared ks)) (tree_nodes at Γ Λ f)
  tree_declared at Γ Λ nil p g l = tt
  tree_declared at Γ Λ (tree k cs rest) p g l =
      let Θ = more (scopes_its_last k) at Γ in (
        g,
        All-append (All (Declared ks)) (tree_nodes (at + 1) Γ Θ cs) (tree_nodes (at + 1 + size cs) Λ Λ rest)
            (tree_declared (at + 1) Γ Θ cs p.1 g (more_declared k (scopes_its_last k) at Γ p.0 (by_table scopes_its_last declares refl k) g))
            (tree_declared (at + 1 + size cs) Λ Λ rest p.2 l l),
      )

  -- each place of a list from `at` on
  abbrev Listed : ℕ → List Kind → Type 0
  Listed at [] = Unit {0}
  Listed at (x ∷ xs) = (get_or ks at Card ≡ x) × Listed (at + 1) xs

  listed_append : (at : ℕ) (xs ys : List Kind) → Listed at xs → Listed (at + length xs) ys → Listed at (xs ++ ys)
  listed_append at [] ys a b = rw add-zero at b
  listed_append at (x ∷ xs) ys a b =
      (a.0, listed_append (at + 1) xs ys a.1 (let e : at + suc (length xs) ≡ at + 1 + length xs = omega arith in subst (λ n. Listed n ys) e b))

  placed_listed : (at : ℕ) (f : Shape) → Placed Card ks at f → Listed at (pre f)
  placed_listed at nil p = tt
  placed_listed at (tree k cs rest) p = (
    p.0,
    listed_append (at + 1) (pre cs) (pre rest) (placed_listed (at + 1) cs p.1)
        (subst (λ n. Listed (at + 1 + n) (pre rest)) (size_pre cs) (placed_listed (at + 1 + size cs) rest p.2)),
  )

  flat_declared : (at : ℕ) (xs : List Kind) → Listed at xs → All (Declared ks) (declarations at xs)
  flat_declared at [] p = tt
  flat_declared at (k ∷ xs) p = more_declared k (declares k) at (declarations (at + 1) xs) p.0 (λ h. h) (flat_declared (at + 1) xs p.1)

abbrev DeclaredScopes : (Shape → List (List ℕ)) → Type 0
DeclaredScopes scopes = (s : Shape) → All (All (Declared (pre s))) (scopes s)

of_card : DeclaredScopes card_scopes
of_card s = (tt, card_declared (pre s) 1 [] (children s) (placed_children Card (pre s) s (placed_whole Card s)) tt)

of_tree : DeclaredScopes tree_scopes
of_tree s = tree_declared (pre s) 0 [] [] s (placed_whole Card s) tt tt

of_flat : DeclaredScopes flat_scopes
of_flat s = all_replicate (All (Declared (pre s))) (size s) (declarations 0 (pre s)) (flat_declared (pre s) 0 (pre s) (placed_listed (pre s) 0 s (placed_whole Card s)))

of_three : (P : List (List ℕ) → Type 0) (a b : Bool) (x y z : List (List ℕ)) → P x → P y → P z → P (cond a x (cond b y z))
of_three P true b x y z h i j = h
of_three P false true x y z h i j = i
of_three P false false x y z h i j = j

of_root : DeclaredScopes root_scopes
of_root nil = tt
of_root (tree k cs rest) =
    let s = tree k cs rest in
    of_three (All (All (Declared (pre s)))) (is k Card) (is k Tree) (card_scopes s) (tree_scopes s) (flat_scopes s) (of_card s) (of_tree s) (of_flat s)

-- A name's list goes by its role

role_declared : (ks : List Kind) (r : Role) (i k : ℕ) (ds : List ℕ) → (row (get_or ks i Card)).role ≡ r → All (Declared ks) ds → k < length (by_role r i ds) → Declared ks (get_or (by_role r i ds) k 0)
role_declared ks Plain i k ds e a l = absurd (omega arith)
role_declared ks Declares i zero ds e a l = ap role_declares e
role_declared ks Declares i (suc k) ds e a l = absurd (omega arith)
role_declared ks Refers i k ds e a l = All-get_or (Declared ks) ds k 0 l a

role_itself : (r : Role) (i : ℕ) (ds : List ℕ) → role_declares r ≡ true → by_role r i ds ≡ i ∷ []
role_itself Plain i ds h = absurd (false≢true h)
role_itself Declares i ds h = refl
role_itself Refers i ds h = absurd (false≢true h)

role_nothing : (r : Role) (i : ℕ) (ds : List ℕ) → role_named r ≡ false → by_role r i ds ≡ []
role_nothing Plain i ds h = refl
role_nothing Declares i ds h = absurd (true≢false h)
role_nothing Refers i ds h = absurd (true≢false h)

visible_of : (scopes : Shape → List (List ℕ)) → DeclaredScopes scopes → Visible (order_of scopes)
visible_of scopes g =
    record {
      declarations = λ s i k l. role_declared (pre s) (row (get_or (pre s) i Card)).role i k (get_or (scopes s) i []) refl (all_at (All (Declared (pre s))) (scopes s) [] i (g s) tt) l;
      itself = λ s i h. role_itself (row (get_or (pre s) i Card)).role i (get_or (scopes s) i []) h;
      nothing = λ s i h. role_nothing (row (get_or (pre s) i Card)).role i (get_or (scopes s) i []) h;
    }

pub orders_visible_lem : OrdersVisible
orders_visible_lem =
    record {
      card = visible_of card_scopes of_card;
      tree = visible_of tree_scopes of_tree;
      flat = visible_of flat_scopes of_flat;
      by_root = visible_of root_scopes of_root;
    }

-- Parts of the language by the root

-- the root of a program is one of the grammar's
pub root_among : (g : Grammar) (p : List Node) → Of g p → g.roots (root_of p) ≡ true
root_among g [] o = absurd (false≢true o.fitting)
root_among g (n ∷ ns) o =
    let a = (and_parts (allowed g n.kind Root n.kind) (fits g n.kind (child_sorts n.kind n.number ++ []) ns) o.fitting).0 in
    (and_parts (same_sort (row n.kind).sort Root) (g.roots n.kind) a).1

-- a language of one root, which sees as that root does
module _ (k : Kind) (scopes : Shape → List (List ℕ)) (root : same_sort (row k).sort Root ≡ true) (sees : (s : Shape) → scopes s ≡ scopes_of k s) where
  sees_whole : (p : List Node) → Of (of_roots (is k)) p → (i : ℕ) → order_of scopes (shape p) i ≡ by_root.visible (shape p) i
  sees_whole [] o i = absurd (false≢true o.fitting)
  sees_whole (n ∷ ns) o i =
      let s = shape (n ∷ ns) in
      let e : k ≡ n.kind = is_same k n.kind (root_among (of_roots (is k)) (n ∷ ns) o) in
      ap (λ ds. owned (pre s) ds i) (sees s ∙ ap (λ j. scopes_of j s) e)

  part_of : Part (record { grammar = of_roots (is k); visible = order_of scopes }) by_root
  part_of = record { roots = λ r h. subst (λ j. same_sort (row j).sort Root ≡ true) (is_same k r h) root; below = λ r j h. refl; visible = sees_whole }

pub languages_parts_lem : LanguagesParts
languages_parts_lem =
    record {
      card = part_of Card card_scopes refl (λ s. refl);
      tree = part_of Tree tree_scopes refl (λ s. refl);
      flat = part_of Flat flat_scopes refl (λ s. refl);
    }

-- a language is a part of itself
pub part_itself : (l : Language) → Part l l
part_itself l = record { roots = λ r h. h; below = λ r k h. refl; visible = λ p o i. refl }
