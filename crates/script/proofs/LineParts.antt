-- A line's fields by their places, and the entry that they make.
use Rattle.std.proofs.Common.{◌≡◌, ℕ, List, [], ◌∷◌, ◌++◌, Some, None, Option, sym, refl, ap, ◌∙◌}
use Rattle.model.specs.declared.kinds.Kind.{Kind}
use Rattle.model.specs.declared.kinds.KindRow.{KindRow}
use Rattle.model.specs.declared.kinds.Role.{Role}
use Rattle.model.specs.declared.kinds.Role.TheVariants.{Plain, Declares, Refers}
use Rattle.model.specs.declared.nodes.Name.{Name}
use Rattle.model.specs.declared.nodes.Origin.{Origin}
use Rattle.model.specs.declared.nodes.Origin.TheVariants.{Outer}
use Rattle.model.specs.declared.nodes.Entry.{Entry}
use Rattle.model.specs.Lists.{if_some}
use Rattle.model.specs.Kinds.{row}
use Rattle.model.specs.Names.{no_name}
use Rattle.model.specs.Fields.{Form, plain, draft, the_name, the_number, the_origin, wanted, pieces, read_fields, bare, kind_of, name_field, number_field, origin_field}
use Rattle.model.specs.Reading.{of_fields}
use Rattle.model.specs.Table.{RowOf, shown, row_of}
use Rattle.script.specs.LineReads.{Value, a_field, name_from, number_from, origin_from, entry_of}

-- The entry that the fields make

abbrev made : Kind → Name → ℕ → Origin → Entry
made k a m o = record { node = record { kind = k; name = a; number = m }; origin = o }

abbrev ended : Kind → Name → ℕ → Origin → List (List ℕ) → Option Entry
ended k a m o [] = Some (made k a m o)
ended k a m o (f ∷ fs) = None

abbrev traced : Form → Role → Kind → Name → ℕ → List (List ℕ) → Option Entry
traced form r k a m fs = if_some (origin_from form r fs) (λ z. ended k a m z.value z.rest)

abbrev numbered : Form → Role → Option ℕ → Kind → Name → List (List ℕ) → Option Entry
numbered form r most k a fs = if_some (number_from most fs) (λ y. traced form r k a y.value y.rest)

-- by the role and the largest number of the kind
abbrev pub entry_by : Form → Role → Option ℕ → Kind → List (List ℕ) → Option Entry
entry_by form r most k fs = if_some (name_from r fs) (λ x. numbered form r most k x.value x.rest)

no_more : (k : Kind) (a : Name) (m : ℕ) (o : Origin) (fs : List (List ℕ)) → read_fields [] fs (made k a m o) ≡ ended k a m o fs
no_more k a m o [] = refl
no_more k a m o (f ∷ fs) = refl

origin_field_part : (k : Kind) (a : Name) (m : ℕ) (fs : List (List ℕ)) → read_fields (the_origin draft Declares) fs (made k a m Outer) ≡ if_some (a_field origin_field fs) (λ z. ended k a m z.value z.rest)
origin_field_part k a m [] = refl
origin_field_part k a m (f ∷ fs) = go (origin_field f)
  where
    go : (x : Option Origin) → if_some (if_some x (λ o. Some (made k a m o))) (λ n. read_fields [] fs n) ≡ if_some {A = Value Origin} (if_some x (λ o. Some (record { value = o; rest = fs }))) (λ z. ended k a m z.value z.rest)
    go None = refl
    go (Some o) = no_more k a m o fs

origin_part : (form : Form) (r : Role) (k : Kind) (a : Name) (m : ℕ) (fs : List (List ℕ)) → read_fields (the_origin form r) fs (made k a m Outer) ≡ traced form r k a m fs
origin_part plain r k a m fs = no_more k a m Outer fs
origin_part draft Plain k a m fs = no_more k a m Outer fs
origin_part draft Declares k a m fs = origin_field_part k a m fs
origin_part draft Refers k a m fs = origin_field_part k a m fs

number_part : (form : Form) (r : Role) (most : Option ℕ) (k : Kind) (a : Name) (fs : List (List ℕ)) → read_fields (the_number most ++ the_origin form r) fs (made k a 0 Outer) ≡ numbered form r most k a fs
number_part form r None k a fs = origin_part form r k a 0 fs
number_part form r (Some most) k a [] = refl
number_part form r (Some most) k a (f ∷ fs) = go (number_field most f)
  where
    go : (x : Option ℕ) → if_some (if_some x (λ m. Some (made k a m Outer))) (λ n. read_fields (the_origin form r) fs n) ≡ if_some {A = Value ℕ} (if_some x (λ m. Some (record { value = m; rest = fs }))) (λ y. traced form r k a y.value y.rest)
    go None = refl
    go (Some m) = origin_part form r k a m fs

-- after the name, these fields are wanted
named_part : (form : Form) (r : Role) (most : Option ℕ) (k : Kind) (fs : List (List ℕ)) → read_fields (the_name Declares ++ (the_number most ++ the_origin form r)) fs (bare k) ≡ if_some (a_field name_field fs) (λ x. numbered form r most k x.value x.rest)
named_part form r most k [] = refl
named_part form r most k (f ∷ fs) = go (name_field f)
  where
    go : (x : Option Name) → if_some (if_some x (λ a. Some (made k a 0 Outer))) (λ n. read_fields (the_number most ++ the_origin form r) fs n) ≡ if_some {A = Value Name} (if_some x (λ a. Some (record { value = a; rest = fs }))) (λ y. numbered form r most k y.value y.rest)
    go None = refl
    go (Some a) = number_part form r most k a fs

entry_made : (form : Form) (r : Role) (most : Option ℕ) (k : Kind) (fs : List (List ℕ)) → read_fields (the_name r ++ (the_number most ++ the_origin form r)) fs (bare k) ≡ entry_by form r most k fs
entry_made form Plain most k fs = number_part form Plain most k no_name fs
entry_made form Declares most k fs = named_part form Declares most k fs
entry_made form Refers most k fs = named_part form Refers most k fs

-- The ways out of a line

pub line_no_word : (form : Form) (bs : List ℕ) → pieces 9 bs ≡ [] → entry_of form bs ≡ None
unfolding entry_of
line_no_word form bs e = ap (of_fields form) e

module _ (form : Form) (bs w : List ℕ) (fs : List (List ℕ)) (are : pieces 9 bs ≡ w ∷ fs) where
  line_at : (o : Option Kind) → kind_of w ≡ o → entry_of form bs ≡ if_some o (λ k. read_fields (wanted form k) fs (bare k))
  unfolding entry_of
  line_at o h = ap (of_fields form) are ∙ ap (λ (x : Option Kind). if_some x (λ k. read_fields (wanted form k) fs (bare k))) h

  pub line_no_kind : kind_of w ≡ None → entry_of form bs ≡ None
  line_no_kind h = line_at None h

  module _ (k : Kind) (x : KindRow) (word : kind_of w ≡ Some k) (row_is : shown x ≡ row_of k) where
    line_kind : entry_of form bs ≡ entry_by form x.role x.most k fs
    line_kind =
        line_at (Some k) word
        ∙ (entry_made form (row k).role (row k).most k fs ∙ ap (λ (t : RowOf). entry_by form t.row.role t.row.most k fs) (sym row_is))

    pub line_no_name : name_from x.role fs ≡ None → entry_of form bs ≡ None
    line_no_name h = line_kind ∙ ap (λ (t : Option (Value Name)). if_some t (λ y. numbered form x.role x.most k y.value y.rest)) h

    module _ (a : Name) (gs : List (List ℕ)) (name : name_from x.role fs ≡ Some (record { value = a; rest = gs })) where
      name_got : entry_of form bs ≡ numbered form x.role x.most k a gs
      name_got = line_kind ∙ ap (λ (t : Option (Value Name)). if_some t (λ y. numbered form x.role x.most k y.value y.rest)) name

      pub line_no_number : number_from x.most gs ≡ None → entry_of form bs ≡ None
      line_no_number h = name_got ∙ ap (λ (t : Option (Value ℕ)). if_some t (λ y. traced form x.role k a y.value y.rest)) h

      module _ (m : ℕ) (hs : List (List ℕ)) (number : number_from x.most gs ≡ Some (record { value = m; rest = hs })) where
        number_got : entry_of form bs ≡ traced form x.role k a m hs
        number_got = name_got ∙ ap (λ (t : Option (Value ℕ)). if_some t (λ y. traced form x.role k a y.value y.rest)) number

        pub line_no_origin : origin_from form x.role hs ≡ None → entry_of form bs ≡ None
        line_no_origin h = number_got ∙ ap (λ (t : Option (Value Origin)). if_some t (λ z. ended k a m z.value z.rest)) h

        module _ (o : Origin) (is : List (List ℕ)) (origin : origin_from form x.role hs ≡ Some (record { value = o; rest = is })) where
          origin_got : entry_of form bs ≡ ended k a m o is
          origin_got = number_got ∙ ap (λ (t : Option (Value Origin)). if_some t (λ z. ended k a m z.value z.rest)) origin

          pub line_done : is ≡ [] → entry_of form bs ≡ Some (made k a m o)
          line_done e = origin_got ∙ ap (ended k a m o) e

          pub line_over : (f : List ℕ) (gs : List (List ℕ)) → is ≡ f ∷ gs → entry_of form bs ≡ None
          line_over f gs e = origin_got ∙ ap (ended k a m o) e
