-- What a draft is made from, and the class of each of its names.
use Rattle.std.specs.Prelude.{ℕ, Bool, true, false, cond, List, map, Some, None, Option, ◌==◌, slice_index_or}
use Rattle.model.specs.declared.classes.Class.{Class}
use Rattle.model.specs.declared.classes.Class.TheVariants.{OfDeclaration, OfOuter, OfGroup}
use Rattle.model.specs.declared.nodes.Name.{Name}
use Rattle.model.specs.declared.nodes.Node.{Node}
use Rattle.model.specs.declared.nodes.Origin.{Origin}
use Rattle.model.specs.declared.nodes.Origin.TheVariants.{Copied, Private, Outer}
use Rattle.model.specs.declared.nodes.Entry.{Entry}
use Rattle.model.specs.Kinds.{has_name}
use Rattle.model.specs.Names.{alike, name_at}
use Rattle.model.specs.Scopes.{Order, reaches}

-- a draft: nodes in preorder, each name with its origin
abbrev pub Draft : Type 0
Draft = List Entry

-- what a draft is made from: a program and its reaches
pub record Source : Type 0 where
  pub program : List Node
  pub reached : List (Option ℕ)

abbrev pub source_of : Order → List Node → Source
source_of order p = record { program = p; reached = reaches order p }

abbrev pub reach_at : Source → ℕ → Option ℕ
reach_at s k = slice_index_or s.reached k None

-- copied from k: the class of the declaration that k reaches, or the outer class of k's spelling
abbrev pub of_copied : Source → ℕ → Option ℕ → Class
of_copied s k (Some d) = OfDeclaration d
of_copied s k None = OfOuter (name_at s.program k)

abbrev pub by_origin : Source → Name → Origin → Class
by_origin s a (Copied k) = of_copied s k (reach_at s k)
by_origin s a (Private g) = OfGroup g
by_origin s a Outer = OfOuter a

-- a node without a name has no class
abbrev pub class_of : Source → Entry → Option Class
class_of s e = cond (has_name e.node.kind) (Some (by_origin s e.node.name e.origin)) None

abbrev pub classes : Source → Draft → List (Option Class)
classes s d = map (class_of s) d

abbrev pub class_at : Source → Draft → ℕ → Option Class
class_at s d i = slice_index_or (classes s d) i None

abbrev pub same_class : Class → Class → Bool
same_class (OfDeclaration d) (OfDeclaration e) = d == e
same_class (OfDeclaration d) (OfOuter b) = false
same_class (OfDeclaration d) (OfGroup h) = false
same_class (OfOuter a) (OfDeclaration e) = false
same_class (OfOuter a) (OfOuter b) = alike a b
same_class (OfOuter a) (OfGroup h) = false
same_class (OfGroup g) (OfDeclaration e) = false
same_class (OfGroup g) (OfOuter b) = false
same_class (OfGroup g) (OfGroup h) = g == h

-- it is a name of that class
abbrev pub in_class : Class → Option Class → Bool
in_class c None = false
in_class c (Some e) = same_class c e

-- both are names, of one class
abbrev pub together : Option Class → Option Class → Bool
together None e = false
together (Some c) e = in_class c e

-- a name of outer class, and one of another
abbrev pub is_outer : Option Class → Bool
is_outer None = false
is_outer (Some (OfDeclaration d)) = false
is_outer (Some (OfOuter a)) = true
is_outer (Some (OfGroup g)) = false

abbrev pub is_inner : Option Class → Bool
is_inner None = false
is_inner (Some (OfDeclaration d)) = true
is_inner (Some (OfOuter a)) = false
is_inner (Some (OfGroup g)) = true
