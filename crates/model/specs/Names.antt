-- Names, nodes and entries of a row.
use Rattle.std.specs.Prelude.{ℕ, Bool, cond, ◌&&◌, List, [], ◌∷◌, ◌++◌, take, replicate, codes, ◌==◌, slice_index_or}
use Prim.Native.String.{String}
use Rattle.std.specs.Str.{bytes_eq}
use Rattle.model.specs.declared.kinds.Kind.{Kind}
use Rattle.model.specs.declared.kinds.Kind.TheVariants.{Card}
use Rattle.model.specs.declared.nodes.Name.{Name}
use Rattle.model.specs.declared.nodes.Node.{Node}
use Rattle.model.specs.declared.nodes.Origin.TheVariants.{Outer}
use Rattle.model.specs.declared.nodes.Entry.{Entry}

-- Three questions are all that is ever asked of names.

-- spelled alike: stem and mark are equal
abbrev pub alike : Name → Name → Bool
alike a b = bytes_eq a.stem b.stem && a.mark == b.mark

abbrev pub same_stem : Name → Name → Bool
same_stem a b = bytes_eq a.stem b.stem

-- the same stem with another mark
abbrev pub with_mark : Name → ℕ → Name
with_mark a m = record { stem = a.stem; mark = m }

-- a stem is held in eight bytes, zeros after its characters
abbrev pub padded : List ℕ → List ℕ
padded cs = take 8 (cs ++ replicate 8 0)

-- the characters of a stem
abbrev pub letters : List ℕ → List ℕ
letters [] = []
letters (c ∷ cs) = cond (c == 0) [] (c ∷ letters cs)

-- a name with mark 0
abbrev pub plainly : String → Name
plainly s = record { stem = padded (codes s); mark = 0 }

-- what stands for a name where there is none
abbrev pub no_name : Name
no_name = plainly ""

-- what stands for a node where there is none: it has no name, not even an empty one
abbrev pub blank : Node
blank = record { kind = Card; name = record { stem = []; mark = 0 }; number = 0 }

abbrev pub node_at : List Node → ℕ → Node
node_at p i = slice_index_or p i blank

abbrev pub kind_at : List Node → ℕ → Kind
kind_at p i = (node_at p i).kind

abbrev pub name_at : List Node → ℕ → Name
name_at p i = (node_at p i).name

-- the root stands first
abbrev pub root_of : List Node → Kind
root_of p = kind_at p 0

abbrev pub respelled : Node → Name → Node
respelled n a = record { kind = n.kind; name = a; number = n.number }

abbrev pub blank_entry : Entry
blank_entry = record { node = blank; origin = Outer }

-- what an unused place of a row holds
abbrev pub unused_entry : Entry
unused_entry = record { node = record { kind = Card; name = no_name; number = 0 }; origin = Outer }

abbrev pub entry_at : List Entry → ℕ → Entry
entry_at d i = slice_index_or d i blank_entry

abbrev pub nodes : List Entry → List Node
nodes [] = []
nodes (e ∷ es) = e.node ∷ nodes es

-- nodes of a program, which has no origins
abbrev pub entries : List Node → List Entry
entries [] = []
entries (n ∷ ns) = record { node = n; origin = Outer } ∷ entries ns
