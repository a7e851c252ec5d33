-- Visible orders, and the declaration that a name reaches.
use Rattle.std.specs.Prelude.{ℕ, ◌+◌, Bool, cond, ◌||◌, List, [], ◌∷◌, ◌++◌, map, replicate, Option, slice_index_or}
use Rattle.model.specs.declared.kinds.Kind.{Kind}
use Rattle.model.specs.declared.kinds.Kind.TheVariants.{Card, Tree, Let, Bind}
use Rattle.model.specs.declared.kinds.Role.{Role}
use Rattle.model.specs.declared.kinds.Role.TheVariants.{Plain, Declares, Refers}
use Rattle.model.specs.declared.nodes.Name.{Name}
use Rattle.model.specs.declared.nodes.Node.{Node}
use Rattle.model.specs.Lists.{first_with, places}
use Rattle.model.specs.Kinds.{row, is, declares, Grammar, card_grammar, tree_grammar, flat_grammar, root_grammar}
use Rattle.model.specs.Names.{alike, name_at}
use Rattle.model.specs.Forest.{nil, tree, Shape, shape, size, children, pre}

-- for the name at a place, the declarations that it can see: it depends on kinds and nesting alone
abbrev pub Order : Type 0
Order = Shape → ℕ → List ℕ

-- node `at` too, where the test holds
abbrev pub more : Bool → ℕ → List ℕ → List ℕ
more b at Γ = cond b (at ∷ Γ) Γ

-- Card: the declarations among the lines before the reference's own, the latest first.
-- For each node of the lines from number `at` on, where Γ is declared before them
abbrev pub card_lines : ℕ → List ℕ → Shape → List (List ℕ)
card_lines at Γ nil = []
card_lines at Γ (tree k cs rest) = replicate (1 + size cs) Γ ++ card_lines (at + 1 + size cs) (more (declares k) at Γ) rest

abbrev pub card_scopes : Shape → List (List ℕ)
card_scopes s = [] ∷ card_lines 1 [] (children s)

-- Tree: the let and bind nodes in whose last child the reference stands, the innermost first.
-- Both have two children, so the last is the one after the first.
abbrev pub scopes_its_last : Kind → Bool
scopes_its_last k = is k Let || is k Bind

-- For each node from number `at` on, where the first tree sees Γ and those after it see Λ
abbrev pub tree_nodes : ℕ → List ℕ → List ℕ → Shape → List (List ℕ)
tree_nodes at Γ Λ nil = []
tree_nodes at Γ Λ (tree k cs rest) =
    Γ ∷ (tree_nodes (at + 1) Γ (more (scopes_its_last k) at Γ) cs ++ tree_nodes (at + 1 + size cs) Λ Λ rest)

abbrev pub tree_scopes : Shape → List (List ℕ)
tree_scopes s = tree_nodes 0 [] [] s

-- Flat: every declaration of the program, from first to last
abbrev pub declarations : ℕ → List Kind → List ℕ
declarations at [] = []
declarations at (k ∷ ks) = more (declares k) at (declarations (at + 1) ks)

abbrev pub flat_scopes : Shape → List (List ℕ)
flat_scopes s = replicate (size s) (declarations 0 (pre s))

-- a declaration's list is itself alone, and a node without a name has none
abbrev pub by_role : Role → ℕ → List ℕ → List ℕ
by_role Plain i ds = []
by_role Declares i ds = i ∷ []
by_role Refers i ds = ds

abbrev pub owned : List Kind → List (List ℕ) → ℕ → List ℕ
owned ks ds i = by_role (row (slice_index_or ks i Card)).role i (slice_index_or ds i [])

abbrev pub order_of : (Shape → List (List ℕ)) → Order
order_of scopes s = let ds = scopes s in let ks = pre s in λ i. owned ks ds i

abbrev pub card_order : Order
card_order = order_of card_scopes

abbrev pub tree_order : Order
tree_order = order_of tree_scopes

abbrev pub flat_order : Order
flat_order = order_of flat_scopes

-- the fourth goes by the root, and is one of the three
abbrev pub scopes_of : Kind → Shape → List (List ℕ)
scopes_of k s =
    let c = card_scopes s in
    let t = tree_scopes s in
    let f = flat_scopes s in
    cond (is k Card) c (cond (is k Tree) t f)

abbrev pub root_scopes : Shape → List (List ℕ)
root_scopes nil = []
root_scopes (tree k cs rest) = scopes_of k (tree k cs rest)

abbrev pub root_order : Order
root_order = order_of root_scopes

-- a language: a grammar, and its visible order
pub record Language : Type 0 where
  pub grammar : Grammar
  pub visible : Order

abbrev pub card : Language
card = record { grammar = card_grammar; visible = card_order }

abbrev pub tree_language : Language
tree_language = record { grammar = tree_grammar; visible = tree_order }

abbrev pub flat : Language
flat = record { grammar = flat_grammar; visible = flat_order }

abbrev pub by_root : Language
by_root = record { grammar = root_grammar; visible = root_order }

-- the first of the list that is spelled alike
abbrev pub reach_in : List Node → Name → List ℕ → Option ℕ
reach_in p a ds = first_with (λ d. alike a (name_at p d)) ds

-- what the name at place i reaches, where `sees` is the visible order at the program's shape
abbrev pub reach_by : (ℕ → List ℕ) → List Node → ℕ → Option ℕ
reach_by sees p i = reach_in p (name_at p i) (sees i)

abbrev pub reach : Order → List Node → ℕ → Option ℕ
reach order p i = reach_by (order (shape p)) p i

-- of each node
abbrev pub reaches : Order → List Node → List (Option ℕ)
reaches order p = let sees = order (shape p) in map (reach_by sees p) (places p)
