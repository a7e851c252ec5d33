-- A line's entry, field by field.
use Rattle.std.specs.Prelude.{◌≡◌, ℕ, Bool, false, List, [], ◌∷◌, Some, None, Option}
use Rattle.model.specs.declared.kinds.Role.{Role}
use Rattle.model.specs.declared.kinds.Role.TheVariants.{Plain, Declares, Refers}
use Rattle.model.specs.declared.nodes.Name.{Name}
use Rattle.model.specs.declared.nodes.Origin.{Origin}
use Rattle.model.specs.declared.nodes.Origin.TheVariants.{Outer}
use Rattle.model.specs.declared.nodes.Entry.{Entry}
use Rattle.model.specs.Lists.{if_some}
use Rattle.model.specs.Kinds.{role_named}
use Rattle.model.specs.Names.{no_name}
use Rattle.model.specs.Fields.{Form, plain, draft, pieces, name_field, number_field, origin_field}
use Rattle.model.specs.Reading.{of_fields}

-- a value, and the fields after its own
pub record Value (A : Type 0) : Type 0 where
  pub value : A
  pub rest : List (List ℕ)

abbrev pub a_field : {A : Type 0} → (List ℕ → Option A) → List (List ℕ) → Option (Value A)
a_field read [] = None
a_field read (f ∷ fs) = if_some (read f) (λ a. Some (record { value = a; rest = fs }))

-- the name, if the role has one
abbrev pub name_from : Role → List (List ℕ) → Option (Value Name)
name_from Plain fs = Some (record { value = no_name; rest = fs })
name_from Declares fs = a_field name_field fs
name_from Refers fs = a_field name_field fs

-- the number, if the kind has one
abbrev pub number_from : Option ℕ → List (List ℕ) → Option (Value ℕ)
number_from None fs = Some (record { value = 0; rest = fs })
number_from (Some most) fs = a_field (number_field most) fs

-- the origin, if the text is a draft's and the role has a name
abbrev pub origin_from : Form → Role → List (List ℕ) → Option (Value Origin)
origin_from plain r fs = Some (record { value = Outer; rest = fs })
origin_from draft Plain fs = Some (record { value = Outer; rest = fs })
origin_from draft Declares fs = a_field origin_field fs
origin_from draft Refers fs = a_field origin_field fs

abbrev pub origin_wanted : Form → Role → Bool
origin_wanted plain r = false
origin_wanted draft r = role_named r

-- the value taken, and the fields after it
abbrev pub IsTaken : {A : Type 0} → Option (Value A) → Option A → List (List ℕ) → Type 0
IsTaken w None rest = w ≡ None
IsTaken w (Some a) rest = w ≡ Some (record { value = a; rest = rest })

-- the entry of a whole line, without its end
unfoldable pub entry_of : Form → List ℕ → Option Entry
entry_of form bs = of_fields form (pieces 9 bs)
