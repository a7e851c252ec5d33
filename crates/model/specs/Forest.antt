-- A list of nodes in preorder and the forest that grows from it: first child, next sibling.
use Rattle.std.specs.Prelude.{ℕ, zero, suc, ◌+◌, List, [], ◌∷◌, ◌++◌, length}
use Rattle.model.specs.declared.kinds.Kind.{Kind}
use Rattle.model.specs.declared.nodes.Node.{Node}
use Rattle.model.specs.Kinds.{child_sorts}

pub data Forest (A : Type 0) : Type 0 where
  nil : Forest A
  -- a node, its children, and the trees after it
  tree : A → Forest A → Forest A → Forest A

-- the first so many trees, and those after them
abbrev pub first : {A : Type 0} → ℕ → Forest A → Forest A
first zero f = nil
first (suc n) nil = nil
first (suc n) (tree a cs rest) = tree a cs (first n rest)

abbrev pub after : {A : Type 0} → ℕ → Forest A → Forest A
after zero f = f
after (suc n) nil = nil
after (suc n) (tree a cs rest) = after n rest

abbrev pub arity : Node → ℕ
arity n = length (child_sorts n.kind n.number)

-- a node before a forest takes as many of its trees for children as it wants
abbrev pub plant : Node → Forest Node → Forest Node
plant n f = tree n (first (arity n) f) (after (arity n) f)

abbrev pub grow : List Node → Forest Node
grow [] = nil
grow (n ∷ ns) = plant n (grow ns)

abbrev pub pre : {A : Type 0} → Forest A → List A
pre nil = []
pre (tree a cs rest) = a ∷ (pre cs ++ pre rest)

-- the trees of the one, then those of the other
abbrev pub beside : {A : Type 0} → Forest A → Forest A → Forest A
beside nil g = g
beside (tree a cs rest) g = tree a cs (beside rest g)

-- one tree; one without children
abbrev pub over : {A : Type 0} → A → Forest A → Forest A
over a cs = tree a cs nil

abbrev pub leaf : {A : Type 0} → A → Forest A
leaf a = tree a nil nil

abbrev pub size : {A : Type 0} → Forest A → ℕ
size nil = 0
size (tree a cs rest) = 1 + (size cs + size rest)

-- how many trees
abbrev pub width : {A : Type 0} → Forest A → ℕ
width nil = 0
width (tree a cs rest) = 1 + width rest

abbrev pub children : {A : Type 0} → Forest A → Forest A
children nil = nil
children (tree a cs rest) = cs

abbrev pub kinds_only : Forest Node → Forest Kind
kinds_only nil = nil
kinds_only (tree n cs rest) = tree n.kind (kinds_only cs) (kinds_only rest)

-- kinds and nesting, nothing else
abbrev pub Shape : Type 0
Shape = Forest Kind

abbrev pub shape : List Node → Shape
shape p = kinds_only (grow p)
