-- Plans: a draft before its names are spelled. They depend on kinds, numbers and nesting alone.
use Rattle.std.specs.Prelude.{ℕ, Bool, true, false, cond, List, map}
use Prim.Native.String.{String}
use Rattle.model.specs.declared.kinds.Kind.{Kind}
use Rattle.model.specs.declared.nodes.Name.{Name}
use Rattle.model.specs.declared.nodes.Node.{Node}
use Rattle.model.specs.declared.nodes.Origin.{Origin}
use Rattle.model.specs.declared.nodes.Origin.TheVariants.{Copied, Private, Outer}
use Rattle.model.specs.declared.nodes.Entry.{Entry}
use Rattle.model.specs.Kinds.{has_name}
use Rattle.model.specs.Names.{plainly, no_name, name_at}
use Rattle.model.specs.Forest.{Forest, pre}
use Rattle.model.specs.Classes.{Draft}

-- no name, the name of node k of the source, one of the transformation's own of a group, or one of the outside world
pub data Naming : Type 0 where
  nameless : Naming
  like : ℕ → Naming
  own : String → ℕ → Naming
  world : String → Naming

pub record Planned : Type 0 where
  pub kind : Kind
  pub number : ℕ
  pub naming : Naming

abbrev pub Plan : Type 0
Plan = Forest Planned

-- nodes with neither name nor number, with a number, with a name
abbrev pub plain : Kind → Planned
plain k = record { kind = k; number = 0; naming = nameless }

abbrev pub counted : Kind → ℕ → Planned
counted k n = record { kind = k; number = n; naming = nameless }

abbrev pub named : Kind → Naming → Planned
named k a = record { kind = k; number = 0; naming = a }

-- the name of node i, where it has one
abbrev pub own_name : Bool → ℕ → Naming
own_name true i = like i
own_name false i = nameless

-- node i as it is
abbrev pub copy : ℕ → Node → Planned
copy i n = record { kind = n.kind; number = n.number; naming = own_name (has_name n.kind) i }

abbrev pub spelled : List Node → Naming → Name
spelled p nameless = no_name
spelled p (like k) = name_at p k
spelled p (own stem g) = plainly stem
spelled p (world stem) = plainly stem

abbrev pub comes : Naming → Origin
comes nameless = Outer
comes (like k) = Copied k
comes (own stem g) = Private g
comes (world stem) = Outer

-- a node without a name has no origin to give
abbrev pub spell : List Node → Planned → Entry
spell p m =
    record {
      node = record { kind = m.kind; name = spelled p m.naming; number = m.number };
      origin = cond (has_name m.kind) (comes m.naming) Outer;
    }

-- the nodes of a plan in preorder, with the names of the source
abbrev pub spell_out : List Node → Plan → Draft
spell_out p f = map (spell p) (pre f)
