-- Which lists of nodes are programs of a grammar.
use Rattle.std.specs.Prelude.{◌≡◌, ℕ, ◌≤◌, Bool, true, false, ◌&&◌, List, [], ◌∷◌, ◌++◌, length, Some, None, Option, ◌==◌, nat_le}
use Rattle.model.specs.declared.kinds.Kind.{Kind}
use Rattle.model.specs.declared.kinds.Sort.{Sort}
use Rattle.model.specs.declared.kinds.Sort.TheVariants.{Root}
use Rattle.model.specs.declared.nodes.Name.{Name}
use Rattle.model.specs.declared.nodes.Node.{Node}
use Rattle.model.specs.declared.nodes.Origin.{Origin}
use Rattle.model.specs.declared.nodes.Origin.TheVariants.{Copied, Private, Outer}
use Rattle.model.specs.declared.nodes.Entry.{Entry}
use Rattle.model.specs.Kinds.{row, has_name, Grammar, allowed, child_sorts}
use Rattle.model.specs.Names.{alike, no_name, letters, padded, root_of, nodes}
use Rattle.model.specs.Fields.{stem_form}

-- the nodes fill the places of these sorts, in a program of that root
abbrev pub fits : Grammar → Kind → List Sort → List Node → Bool
fits g root [] [] = true
fits g root [] (n ∷ ns) = false
fits g root (s ∷ ss) [] = false
fits g root (s ∷ ss) (n ∷ ns) = allowed g root s n.kind && fits g root (child_sorts n.kind n.number ++ ss) ns

abbrev pub number_fits : Option ℕ → ℕ → Bool
number_fits None n = n == 0
number_fits (Some most) n = nat_le n most

abbrev pub name_fits : Bool → Name → Bool
name_fits true a = stem_form (letters a.stem) && alike a (record { stem = padded (letters a.stem); mark = a.mark }) && nat_le a.mark 65535
name_fits false a = alike a no_name

-- every number is in its range, and every name is one
abbrev pub proper : List Node → Bool
proper [] = true
proper (n ∷ ns) = number_fits (row n.kind).most n.number && name_fits (has_name n.kind) n.name && proper ns

-- a program of the grammar, whatever its length
pub record Of (g : Grammar) (p : List Node) : Type 0 where
  pub fitting : fits g (root_of p) (Root ∷ []) p ≡ true
  pub proper_nodes : proper p ≡ true

-- one that a text can say
pub record Program (g : Grammar) (p : List Node) : Type 0 where
  pub of : Of g p
  pub few : length p ≤ 1024

-- with a name the origin's number is in its range; without one there is none to give
abbrev pub origin_fits : Bool → Origin → Bool
origin_fits true (Copied k) = nat_le k 1023
origin_fits true (Private g) = nat_le g 65535
origin_fits true Outer = true
origin_fits false (Copied k) = false
origin_fits false (Private g) = false
origin_fits false Outer = true

abbrev pub proper_origins : List Entry → Bool
proper_origins [] = true
proper_origins (e ∷ es) = origin_fits (has_name e.node.kind) e.origin && proper_origins es

pub record DraftProgram (g : Grammar) (d : List Entry) : Type 0 where
  pub program : Program g (nodes d)
  pub origins : proper_origins d ≡ true
