-- The fields of a line: which a kind has, what each may be, and how it is written.
use Rattle.std.specs.Prelude.{ℕ, ◌+◌, ◌-◌, ◌*◌, Bool, false, cond, not, ◌&&◌, ◌||◌, List, [], ◌∷◌, ◌++◌, length, Some, None, decimal, Option, ◌==◌, nat_le}
use Rattle.std.specs.Str.{bytes_eq, all_ascii_digits}
use Rattle.model.specs.declared.kinds.Kind.{Kind}
use Rattle.model.specs.declared.kinds.Role.{Role}
use Rattle.model.specs.declared.kinds.Role.TheVariants.{Plain, Declares, Refers}
use Rattle.model.specs.declared.nodes.Name.{Name}
use Rattle.model.specs.declared.nodes.Origin.{Origin}
use Rattle.model.specs.declared.nodes.Origin.TheVariants.{Copied, Private, Outer}
use Rattle.model.specs.declared.nodes.Entry.{Entry}
use Rattle.model.specs.Lists.{any, first_with, between, empty, if_some}
use Rattle.model.specs.Kinds.{row, kinds}
use Rattle.model.specs.Names.{padded, letters, no_name}

-- the pieces between the separators: one more than there are separators
abbrev pub joins : ℕ → ℕ → List (List ℕ) → List (List ℕ)
joins sep b [] = []
joins sep b (p ∷ ps) = cond (b == sep) ([] ∷ p ∷ ps) ((b ∷ p) ∷ ps)

abbrev pub pieces : ℕ → List ℕ → List (List ℕ)
pieces sep [] = [] ∷ []
pieces sep (b ∷ bs) = joins sep b (pieces sep bs)

-- Numbers: decimal, without leading zeros

-- the number that digits write, after those that write n
abbrev pub value_from : ℕ → List ℕ → ℕ
value_from n [] = n
value_from n (c ∷ cs) = value_from (n * 10 + (c - 48)) cs

-- digits, at least one, and no leading zero
abbrev pub decimal_form : List ℕ → Bool
decimal_form [] = false
decimal_form (c ∷ cs) = all_ascii_digits (c ∷ cs) && (not (c == 48) || empty cs)

-- a decimal number of at most `most`
abbrev pub number_field : ℕ → List ℕ → Option ℕ
number_field most f = cond (decimal_form f && nat_le (value_from 0 f) most) (Some (value_from 0 f)) None

-- Names: a stem, or a stem, an apostrophe and a mark

abbrev pub small_letter : ℕ → Bool
small_letter c = between 97 122 c

abbrev pub letter_or_digit : ℕ → Bool
letter_or_digit c = small_letter c || between 48 57 c

-- 1 to 8 characters, a to z first, then a to z or 0 to 9
abbrev pub stem_form : List ℕ → Bool
stem_form [] = false
stem_form (c ∷ cs) = small_letter c && not (any (λ d. not (letter_or_digit d)) cs) && nat_le (length (c ∷ cs)) 8

abbrev pub named : List ℕ → ℕ → Option Name
named stem m = cond (stem_form stem) (Some (record { stem = padded stem; mark = m })) None

-- a mark that is written is not 0
abbrev pub written_mark : List ℕ → Option ℕ
written_mark f = if_some (number_field 65535 f) (λ m. cond (m == 0) None (Some m))

abbrev pub of_pieces : List (List ℕ) → Option Name
of_pieces [] = None
of_pieces (stem ∷ []) = named stem 0
of_pieces (stem ∷ m ∷ []) = if_some (written_mark m) (named stem)
of_pieces (stem ∷ m ∷ more ∷ ps) = None

abbrev pub name_field : List ℕ → Option Name
name_field f = of_pieces (pieces 39 f)

abbrev pub write_mark : ℕ → List ℕ
write_mark m = cond (m == 0) [] (39 ∷ decimal m)

abbrev pub write_name : Name → List ℕ
write_name a = letters a.stem ++ write_mark a.mark

-- Origins: `o`, or `s` and a node number, or `p` and a group

abbrev pub copied_field : List ℕ → Option Origin
copied_field cs = if_some (number_field 1023 cs) (λ k. Some (Copied k))

abbrev pub private_field : List ℕ → Option Origin
private_field cs = if_some (number_field 65535 cs) (λ g. Some (Private g))

abbrev pub origin_field : List ℕ → Option Origin
origin_field [] = None
origin_field (c ∷ cs) =
    cond (c == 115) (copied_field cs) (cond (c == 112) (private_field cs) (cond (c == 111 && empty cs) (Some Outer) None))

abbrev pub write_origin : Origin → List ℕ
write_origin (Copied k) = 115 ∷ decimal k
write_origin (Private g) = 112 ∷ decimal g
write_origin Outer = 111 ∷ []

-- Which fields a line has after its word: the name, the number, and in a draft the origin of the name

pub data Form : Type 0 where
  plain : Form
  draft : Form

pub data Wanted : Type 0 where
  a_name : Wanted
  a_number : ℕ → Wanted
  an_origin : Wanted

abbrev pub the_name : Role → List Wanted
the_name Plain = []
the_name Declares = a_name ∷ []
the_name Refers = a_name ∷ []

abbrev pub the_number : Option ℕ → List Wanted
the_number None = []
the_number (Some most) = a_number most ∷ []

abbrev pub the_origin : Form → Role → List Wanted
the_origin plain r = []
the_origin draft Plain = []
the_origin draft Declares = an_origin ∷ []
the_origin draft Refers = an_origin ∷ []

abbrev pub wanted : Form → Kind → List Wanted
wanted form k = the_name (row k).role ++ (the_number (row k).most ++ the_origin form (row k).role)

-- an entry with a field filled in, unless the field is wrong
abbrev pub read_field : Wanted → List ℕ → Entry → Option Entry
read_field a_name f e =
    if_some (name_field f) (λ a. Some (record { node = record { kind = e.node.kind; name = a; number = e.node.number }; origin = e.origin }))
read_field (a_number most) f e =
    if_some (number_field most f) (λ m. Some (record { node = record { kind = e.node.kind; name = e.node.name; number = m }; origin = e.origin }))
read_field an_origin f e = if_some (origin_field f) (λ o. Some (record { node = e.node; origin = o }))

-- as many fields as are wanted, each right
abbrev pub read_fields : List Wanted → List (List ℕ) → Entry → Option Entry
read_fields [] [] e = Some e
read_fields [] (f ∷ fs) e = None
read_fields (w ∷ ws) [] e = None
read_fields (w ∷ ws) (f ∷ fs) e = if_some (read_field w f e) (λ x. read_fields ws fs x)

abbrev pub write_field : Wanted → Entry → List ℕ
write_field a_name e = write_name e.node.name
write_field (a_number most) e = decimal e.node.number
write_field an_origin e = write_origin e.origin

-- each after a tab
abbrev pub write_fields : List Wanted → Entry → List ℕ
write_fields [] e = []
write_fields (w ∷ ws) e = 9 ∷ (write_field w e ++ write_fields ws e)

-- the kind of a word
unfoldable pub kind_of : List ℕ → Option Kind
kind_of word = first_with (λ k. bytes_eq word (row k).word) kinds

-- a kind alone
abbrev pub bare : Kind → Entry
bare k = record { node = record { kind = k; name = no_name; number = 0 }; origin = Outer }
