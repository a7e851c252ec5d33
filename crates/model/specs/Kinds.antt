-- The 25 kinds, each with its row: number, word, sort, role, largest number, children, and the roots that it stands under.
use Rattle.std.specs.Prelude.{ℕ, Bool, true, false, cond, ◌&&◌, List, [], ◌∷◌, map, replicate, Some, None, codes, Option, ◌==◌}
use Prim.Native.String.{String}
use Rattle.model.specs.declared.kinds.Kind.{Kind}
use Rattle.model.specs.declared.kinds.Kind.TheVariants.{Card, Tree, Flat, Field, Def, Out, Let, Put, End, Slot, Label, Set, Goto, Skip, Emit, Num, Ref, Byte, Add, Mul, Mean, If, Bind, First, Level}
use Rattle.model.specs.declared.kinds.Role.{Role}
use Rattle.model.specs.declared.kinds.Role.TheVariants.{Plain, Declares, Refers}
use Rattle.model.specs.declared.kinds.Sort.{Sort}
use Rattle.model.specs.declared.kinds.Sort.TheVariants.{Root, Line, Statement, Step, Expression}
use Rattle.model.specs.Lists.{keep, any}

pub data Children : Type 0 where
  exactly : List Sort → Children
  -- as many as the node's number says
  as_many : Sort → Children

pub record Row : Type 0 where
  pub number : ℕ
  pub word : List ℕ
  pub sort : Sort
  pub role : Role
  pub most : Option ℕ
  pub children : Children
  pub under : List Kind

abbrev mk : ℕ → String → Sort → Role → Option ℕ → Children → List Kind → Row
mk i w s r n c u = record { number = i; word = codes w; sort = s; role = r; most = n; children = c; under = u }

abbrev none : Children
none = exactly []

abbrev S : Children
S = exactly (Statement ∷ [])

abbrev X : Children
X = exactly (Expression ∷ [])

abbrev XX : Children
XX = exactly (Expression ∷ Expression ∷ [])

abbrev XXX : Children
XXX = exactly (Expression ∷ Expression ∷ Expression ∷ [])

abbrev XS : Children
XS = exactly (Expression ∷ Statement ∷ [])

abbrev nowhere : List Kind
nowhere = []

abbrev in_card : List Kind
in_card = Card ∷ []

abbrev in_tree : List Kind
in_tree = Tree ∷ []

abbrev in_flat : List Kind
in_flat = Flat ∷ []

abbrev in_card_or_tree : List Kind
in_card_or_tree = Card ∷ Tree ∷ []

abbrev anywhere : List Kind
anywhere = Card ∷ Tree ∷ Flat ∷ []

abbrev pub row : Kind → Row
row Card = mk 1 "card" Root Plain (Some 255) (as_many Line) nowhere
row Tree = mk 2 "tree" Root Plain None S nowhere
row Flat = mk 3 "flat" Root Plain (Some 1023) (as_many Step) nowhere
row Field = mk 4 "field" Line Declares (Some 254) none in_card
row Def = mk 5 "def" Line Declares None X in_card
row Out = mk 6 "out" Line Plain None X in_card
row Let = mk 7 "let" Statement Declares None XS in_tree
row Put = mk 8 "put" Statement Plain None XS in_tree
row End = mk 9 "end" Statement Plain None none in_tree
row Slot = mk 10 "slot" Step Declares None none in_flat
row Label = mk 11 "label" Step Declares None none in_flat
row Set = mk 12 "set" Step Refers None X in_flat
row Goto = mk 13 "goto" Step Refers None none in_flat
row Skip = mk 14 "skip" Step Refers None X in_flat
row Emit = mk 15 "emit" Step Plain None X in_flat
row Num = mk 16 "num" Expression Plain (Some 2147483647) none anywhere
row Ref = mk 17 "ref" Expression Refers None none anywhere
row Byte = mk 18 "byte" Expression Plain (Some 255) none anywhere
row Add = mk 19 "add" Expression Plain None XX anywhere
row Mul = mk 20 "mul" Expression Plain None XX anywhere
row Mean = mk 21 "mean" Expression Plain None XX anywhere
row If = mk 22 "if" Expression Plain None XXX in_card_or_tree
row Bind = mk 23 "bind" Expression Declares None XX in_tree
row First = mk 24 "first" Expression Plain None XX in_card
row Level = mk 25 "level" Expression Plain None X in_card

-- these are all there are
abbrev pub kinds : List Kind
kinds =
    Card ∷ Tree ∷ Flat ∷ Field ∷ Def ∷ Out ∷ Let ∷ Put ∷ End ∷ Slot ∷ Label ∷ Set ∷ Goto ∷ Skip ∷ Emit ∷ Num ∷ Ref ∷ Byte ∷ Add ∷ Mul ∷ Mean ∷ If ∷ Bind ∷ First ∷ Level ∷ []

abbrev pub kind_number : Kind → ℕ
kind_number k = (row k).number

-- the same kind
abbrev pub is : Kind → Kind → Bool
is k l = kind_number k == kind_number l

abbrev pub sort_number : Sort → ℕ
sort_number Root = 0
sort_number Line = 1
sort_number Statement = 2
sort_number Step = 3
sort_number Expression = 4

abbrev pub same_sort : Sort → Sort → Bool
same_sort s t = sort_number s == sort_number t

abbrev pub role_declares : Role → Bool
role_declares Plain = false
role_declares Declares = true
role_declares Refers = false

abbrev pub role_named : Role → Bool
role_named Plain = false
role_named Declares = true
role_named Refers = true

abbrev pub declares : Kind → Bool
declares k = role_declares (row k).role

abbrev pub has_name : Kind → Bool
has_name k = role_named (row k).role

abbrev pub sorts_below : Children → ℕ → List Sort
sorts_below (exactly ss) n = ss
sorts_below (as_many s) n = replicate n s

-- the sorts of the children of a kind with a number
abbrev pub child_sorts : Kind → ℕ → List Sort
child_sorts k n = sorts_below (row k).children n

-- a grammar gives its roots, and the kinds that may stand below each
pub record Grammar : Type 0 where
  pub roots : Kind → Bool
  pub below : Kind → Kind → Bool

-- the kind rows that a grammar has below a root
abbrev pub rows_below : Grammar → Kind → List Row
rows_below g root = map row (keep (g.below root) kinds)

-- the kinds whose row names the root
abbrev pub stands_under : Kind → Kind → Bool
stands_under root k = any (is root) (row k).under

abbrev pub of_roots : (Kind → Bool) → Grammar
of_roots roots = record { roots = roots; below = stands_under }

abbrev pub card_grammar : Grammar
card_grammar = of_roots (is Card)

abbrev pub tree_grammar : Grammar
tree_grammar = of_roots (is Tree)

abbrev pub flat_grammar : Grammar
flat_grammar = of_roots (is Flat)

-- all three, each below its own root
abbrev pub root_grammar : Grammar
root_grammar = of_roots (λ k. same_sort (row k).sort Root)

-- the kind may stand where the sort is wanted, in a program of that root
abbrev pub allowed : Grammar → Kind → Sort → Kind → Bool
allowed g root s k = same_sort (row k).sort s && cond (same_sort s Root) (g.roots k) (g.below root k)
