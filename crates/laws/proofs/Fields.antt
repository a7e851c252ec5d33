-- The fields of a line, in three parts: name, number, origin.
use Rattle.std.proofs.Common.{◌≡◌, ℕ, ◌^◌, ◌<◌, Bool, true, false, cond, ◌&&◌, eqb, leb, List, [], ◌∷◌, ◌++◌, Some, None, decimal, Option, sym, refl, ap, ◌∙◌, subst, arith}
use Rattle.std.proofs.lemmas.Bool.{cond-true, cond-false, and_parts, le-leb, leb-true, eq-eqb, eqb-true}
use Rattle.std.proofs.lemmas.Option.{none-some, cond_some}
use Rattle.model.specs.declared.kinds.Kind.{Kind}
use Rattle.model.specs.declared.nodes.Name.{Name}
use Rattle.model.specs.declared.kinds.Role.{Role}
use Rattle.model.specs.declared.kinds.Role.TheVariants.{Plain, Declares, Refers}
use Rattle.model.specs.declared.nodes.Origin.{Origin}
use Rattle.model.specs.declared.nodes.Origin.TheVariants.{Copied, Private, Outer}
use Rattle.model.specs.declared.nodes.Entry.{Entry}
use Rattle.model.specs.Lists.{if_some, empty}
use Rattle.model.specs.Kinds.{row, role_named, has_name}
use Rattle.model.specs.Names.{no_name}
use Rattle.model.specs.Fields.{Form, plain, draft, Wanted, a_name, a_number, an_origin, the_name, the_number, the_origin, wanted, read_field, read_fields, bare, name_field, number_field, origin_field, write_name, write_origin}
use Rattle.model.specs.Fitting.{name_fits, number_fits, origin_fits}
use Rattle.laws.proofs.Pieces.{Over, went}
use Rattle.laws.proofs.Numbers.{number_written, number_read, over_decimal}
use Rattle.laws.proofs.NamesRead.{alike_same, same_alike, name_written, name_read}
use Rattle.laws.proofs.KindTests.{SmallMost, most_small}

-- An origin's field

pub origin_written : (o : Origin) → origin_fits true o ≡ true → origin_field (write_origin o) ≡ Some o
origin_written (Copied k) h =
    let l = leb-true k 1023 h in
    ap (λ (x : Option ℕ). if_some x (λ j. Some (Copied j))) (number_written 1023 k l (omega arith))
origin_written (Private g) h =
    let l = leb-true g 65535 h in
    ap (λ (x : Option ℕ). if_some x (λ j. Some (Private j))) (number_written 65535 g l (omega arith))
origin_written Outer h = refl

pub record Originated (f : List ℕ) (o : Origin) : Type 0 where
  pub written : f ≡ write_origin o
  pub fits : origin_fits true o ≡ true

-- a letter, and a number of at most so much
lettered_read : (letter most : ℕ) (made : ℕ → Origin) → most < 2 ^ 64 → ((k : ℕ) → write_origin (made k) ≡ letter ∷ decimal k) → ((k : ℕ) → origin_fits true (made k) ≡ leb k most) → (c : ℕ) (cs : List ℕ) (o : Origin) → c ≡ letter → if_some (number_field most cs) (λ k. Some (made k)) ≡ Some o → Originated (c ∷ cs) o
lettered_read letter most made l spelled limit c cs o e h =
    let w = went (number_field most cs) (λ k. Some (made k)) o h in
    let r = number_read most w.value cs l w.was in
    let s : made w.value ≡ o = (let g = w.gave in cc) in
    record {
      written = ap (λ (x : ℕ). x ∷ cs) e ∙ ap (λ (x : List ℕ). letter ∷ x) r.0 ∙ sym (spelled w.value) ∙ ap write_origin s;
      fits = ap (origin_fits true) (sym s) ∙ limit w.value ∙ le-leb w.value most r.1;
    }

copied_read : (c : ℕ) (cs : List ℕ) (o : Origin) → c ≡ 115 → if_some (number_field 1023 cs) (λ k. Some (Copied k)) ≡ Some o → Originated (c ∷ cs) o
copied_read = lettered_read 115 1023 Copied (omega arith) (λ k. refl) (λ k. refl)

private_read : (c : ℕ) (cs : List ℕ) (o : Origin) → c ≡ 112 → if_some (number_field 65535 cs) (λ k. Some (Private k)) ≡ Some o → Originated (c ∷ cs) o
private_read = lettered_read 112 65535 Private (omega arith) (λ k. refl) (λ k. refl)

is_empty : (cs : List ℕ) → empty cs ≡ true → cs ≡ []
is_empty [] h = refl
is_empty (c ∷ cs) h = let z : ◌≡◌ {A = ℕ} 0 1 = cc in absurd (omega arith)

outer_read : (c : ℕ) (cs : List ℕ) (o : Origin) → cond (eqb c 111 && empty cs) (Some Outer) None ≡ Some o → Originated (c ∷ cs) o
outer_read c cs o h =
    let k = cond_some (eqb c 111 && empty cs) Outer o h in
    let p = and_parts (eqb c 111) (empty cs) k.0 in
    record {
      written = ap (λ (x : ℕ). x ∷ cs) (eqb-true c 111 p.0) ∙ ap (λ (x : List ℕ). 111 ∷ x) (is_empty cs p.1) ∙ ap write_origin k.1;
      fits = ap (origin_fits true) (sym k.1);
    }

pub origin_read : (f : List ℕ) (o : Origin) → origin_field f ≡ Some o → Originated f o
origin_read [] o h = absurd (none-some o h)
origin_read (c ∷ cs) o h = go (eqb c 115) refl (eqb c 112) refl
  where
    go : (t : Bool) → eqb c 115 ≡ t → (u : Bool) → eqb c 112 ≡ u → Originated (c ∷ cs) o
    go true e u d = copied_read c cs o (eqb-true c 115 e) (sym (cond-true (eqb c 115) _ _ e) ∙ h)
    go false e true d = private_read c cs o (eqb-true c 112 d) (sym (cond-true (eqb c 112) _ _ d) ∙ (sym (cond-false (eqb c 115) _ _ e) ∙ h))
    go false e false d = outer_read c cs o (sym (cond-false (eqb c 112) _ _ d) ∙ (sym (cond-false (eqb c 115) _ _ e) ∙ h))

pub over_origin : (o : Origin) → origin_fits true o ≡ true → Over 48 (write_origin o)
over_origin (Copied k) h = let l = leb-true k 1023 h in (omega arith, over_decimal k (omega arith))
over_origin (Private g) h = let l = leb-true g 65535 h in (omega arith, over_decimal g (omega arith))
over_origin Outer h = (omega arith, tt)

-- The fields that a node is written with

abbrev pub name_fields : Role → Name → List (List ℕ)
name_fields Plain a = []
name_fields Declares a = write_name a ∷ []
name_fields Refers a = write_name a ∷ []

abbrev pub number_fields : Option ℕ → ℕ → List (List ℕ)
number_fields None n = []
number_fields (Some most) n = decimal n ∷ []

abbrev pub origin_fields : Form → Role → Origin → List (List ℕ)
origin_fields plain r o = []
origin_fields draft Plain o = []
origin_fields draft Declares o = write_origin o ∷ []
origin_fields draft Refers o = write_origin o ∷ []

abbrev pub fields : Form → Entry → List (List ℕ)
fields form n =
    name_fields (row n.node.kind).role n.node.name
    ++ (number_fields (row n.node.kind).most n.node.number ++ origin_fields form (row n.node.kind).role n.origin)

-- without an origin's field it is Outer
abbrev pub origin_ok : Form → Bool → Origin → Bool
origin_ok plain b o = origin_fits false o
origin_ok draft b o = origin_fits b o

pub record ProperNode (form : Form) (n : Entry) : Type 0 where
  pub name : name_fits (has_name n.node.kind) n.node.name ≡ true
  pub number : number_fits (row n.node.kind).most n.node.number ≡ true
  pub origin : origin_ok form (has_name n.node.kind) n.origin ≡ true

abbrev with_name : Entry → Name → Entry
with_name n a = record { node = record { kind = n.node.kind; name = a; number = n.node.number }; origin = n.origin }

abbrev with_number : Entry → ℕ → Entry
with_number n m = record { node = record { kind = n.node.kind; name = n.node.name; number = m }; origin = n.origin }

abbrev with_origin : Entry → Origin → Entry
with_origin n o = record { node = n.node; origin = o }

-- One list of fields after another

fields_append : (ws vs : List Wanted) (fs gs : List (List ℕ)) (n m : Entry) → read_fields ws fs n ≡ Some m → read_fields (ws ++ vs) (fs ++ gs) n ≡ read_fields vs gs m
fields_append [] vs [] gs n m h = let e : n ≡ m = cc in ap (read_fields vs gs) e
fields_append [] vs (f ∷ fs) gs n m h = absurd (none-some m h)
fields_append (w ∷ ws) vs [] gs n m h = absurd (none-some m h)
fields_append (w ∷ ws) vs (f ∷ fs) gs n m h =
    let p = went (read_field w f n) (λ x. read_fields ws fs x) m h in
    ap (λ (o : Option Entry). if_some o (λ x. read_fields (ws ++ vs) (fs ++ gs) x)) p.was ∙ fields_append ws vs fs gs p.value m p.gave

record Parted (ws vs : List Wanted) (fs : List (List ℕ)) (n m : Entry) : Type 0 where
  front : List (List ℕ)
  rest : List (List ℕ)
  middle : Entry
  are : fs ≡ front ++ rest
  first : read_fields ws front n ≡ Some middle
  then : read_fields vs rest middle ≡ Some m

parted : (ws vs : List Wanted) (fs : List (List ℕ)) (n m : Entry) → read_fields (ws ++ vs) fs n ≡ Some m → Parted ws vs fs n m
parted [] vs fs n m h = record { front = []; rest = fs; middle = n; are = refl; first = refl; then = h }
parted (w ∷ ws) vs [] n m h = absurd (none-some m h)
parted (w ∷ ws) vs (f ∷ fs) n m h =
    let p = went (read_field w f n) (λ x. read_fields (ws ++ vs) fs x) m h in
    let q = parted ws vs fs p.value m p.gave in
    record {
      front = f ∷ q.front;
      rest = q.rest;
      middle = q.middle;
      are = ap (λ (l : List (List ℕ)). f ∷ l) q.are;
      first = ap (λ (o : Option Entry). if_some o (λ x. read_fields ws q.front x)) p.was ∙ q.first;
      then = q.then;
    }

none_wanted : (fs : List (List ℕ)) (n m : Entry) → read_fields [] fs n ≡ Some m → (fs ≡ []) × (n ≡ m)
none_wanted [] n m h = (refl, cc)
none_wanted (f ∷ fs) n m h = absurd (none-some m h)

record One (w : Wanted) (fs : List (List ℕ)) (n m : Entry) : Type 0 where
  field : List ℕ
  are : fs ≡ field ∷ []
  put : read_field w field n ≡ Some m

one_wanted : (w : Wanted) (fs : List (List ℕ)) (n m : Entry) → read_fields (w ∷ []) fs n ≡ Some m → One w fs n m
one_wanted w [] n m h = absurd (none-some m h)
one_wanted w (f ∷ fs) n m h =
    let p = went (read_field w f n) (λ x. read_fields [] fs x) m h in
    let q = none_wanted fs p.value m p.gave in
    record { field = f; are = ap (λ (l : List (List ℕ)). f ∷ l) q.0; put = p.was ∙ ap Some q.1 }

-- The parts, written

part_taken : {A : Type 0} (w : Wanted) (field : List ℕ → Option A) (put : A → Entry) (f : List ℕ) (a : A) (n : Entry) → read_field w f n ≡ if_some (field f) (λ b. Some (put b)) → field f ≡ Some a → read_fields (w ∷ []) (f ∷ []) n ≡ Some (put a)
part_taken w field put f a n is e = ap (λ (o : Option Entry). if_some o (λ x. read_fields [] [] x)) (is ∙ ap (λ o. if_some o (λ b. Some (put b))) e)

name_taken : (a : Name) (n : Entry) → name_fits true a ≡ true → read_fields (a_name ∷ []) (write_name a ∷ []) n ≡ Some (with_name n a)
name_taken a n h = part_taken a_name name_field (with_name n) (write_name a) a n refl (name_written a h)

name_part : (r : Role) (a : Name) (n : Entry) → n.node.name ≡ no_name → name_fits (role_named r) a ≡ true → read_fields (the_name r) (name_fields r a) n ≡ Some (with_name n a)
name_part Plain a n z h = ap (λ (b : Name). Some (with_name n b)) (z ∙ sym (alike_same a no_name h))
name_part Declares a n z h = name_taken a n h
name_part Refers a n z h = name_taken a n h

number_part : (o : Option ℕ) (x : ℕ) (n : Entry) → SmallMost o → n.node.number ≡ 0 → number_fits o x ≡ true → read_fields (the_number o) (number_fields o x) n ≡ Some (with_number n x)
number_part None x n s z h = ap (λ (m : ℕ). Some (with_number n m)) (z ∙ sym (eqb-true x 0 h))
number_part (Some most) x n s z h =
    let l = leb-true x most h in
    part_taken (a_number most) (number_field most) (with_number n) (decimal x) x n refl (number_written most x l (omega arith))

origin_taken : (o : Origin) (n : Entry) → origin_fits true o ≡ true → read_fields (an_origin ∷ []) (write_origin o ∷ []) n ≡ Some (with_origin n o)
origin_taken o n h = part_taken an_origin origin_field (with_origin n) (write_origin o) o n refl (origin_written o h)

pub outer_is : (o : Origin) → origin_fits false o ≡ true → o ≡ Outer
outer_is (Copied k) h = let z : ◌≡◌ {A = ℕ} 0 1 = cc in absurd (omega arith)
outer_is (Private g) h = let z : ◌≡◌ {A = ℕ} 0 1 = cc in absurd (omega arith)
outer_is Outer h = refl

origin_kept : (o : Origin) (n : Entry) → n.origin ≡ Outer → origin_fits false o ≡ true → Some n ≡ Some (with_origin n o)
origin_kept o n z h = ap (λ (b : Origin). Some (with_origin n b)) (z ∙ sym (outer_is o h))

origin_part : (form : Form) (r : Role) (o : Origin) (n : Entry) → n.origin ≡ Outer → origin_ok form (role_named r) o ≡ true → read_fields (the_origin form r) (origin_fields form r o) n ≡ Some (with_origin n o)
origin_part plain r o n z h = origin_kept o n z h
origin_part draft Plain o n z h = origin_kept o n z h
origin_part draft Declares o n z h = origin_taken o n h
origin_part draft Refers o n z h = origin_taken o n h

-- a node's fields that are written are read
pub fields_written : (form : Form) (n : Entry) → ProperNode form n → read_fields (wanted form n.node.kind) (fields form n) (bare n.node.kind) ≡ Some n
fields_written form n p =
    let k = n.node.kind in
    let r = (row k).role in
    let b = bare k in
    let c = with_name b n.node.name in
    let d = with_number c n.node.number in
    fields_append (the_name r) (the_number (row k).most ++ the_origin form r) (name_fields r n.node.name) (number_fields (row k).most n.node.number ++ origin_fields form r n.origin) b c
    (name_part r n.node.name b refl p.name)
    ∙ fields_append (the_number (row k).most) (the_origin form r) (number_fields (row k).most n.node.number) (origin_fields form r n.origin) c d
    (number_part (row k).most n.node.number c (most_small k) refl p.number)
    ∙ origin_part form r n.origin d refl p.origin

-- The parts, read

-- what a part of an entry was read from: the value's fields, and it fits
record PartRead {A : Type 0} (texts : A → List (List ℕ)) (put : A → Entry) (ok : A → Bool) (fs : List (List ℕ)) (m : Entry) : Type 0 where
  value : A
  are : fs ≡ texts value
  made : m ≡ put value
  fits : ok value ≡ true

-- from one field
part_got : {A : Type 0} (w : Wanted) (field : List ℕ → Option A) (put : A → Entry) (text : A → List ℕ) (ok : A → Bool) (fs : List (List ℕ)) (n m : Entry)
    → ((f : List ℕ) → read_field w f n ≡ if_some (field f) (λ a. Some (put a)))
    → ((f : List ℕ) (a : A) → field f ≡ Some a → (f ≡ text a) × (ok a ≡ true))
    → read_fields (w ∷ []) fs n ≡ Some m → PartRead (λ a. text a ∷ []) put ok fs m
part_got w field put text ok fs n m is back h =
    let o = one_wanted w fs n m h in
    let x = went (field o.field) (λ a. Some (put a)) m (sym (is o.field) ∙ o.put) in
    let q = back o.field x.value x.was in
    record {
      value = x.value;
      are = o.are ∙ ap (λ (l : List ℕ). l ∷ []) q.0;
      made = (let g = x.gave in cc);
      fits = q.1;
    }

-- from none, where the entry has the value already
part_kept : {A : Type 0} (put : A → Entry) (ok : A → Bool) (a : A) (fs : List (List ℕ)) (n m : Entry) → n ≡ put a → ok a ≡ true → read_fields [] fs n ≡ Some m → PartRead (λ a. []) put ok fs m
part_kept put ok a fs n m e k h =
    let q = none_wanted fs n m h in
    record { value = a; are = q.0; made = sym q.1 ∙ e; fits = k }

name_got : (fs : List (List ℕ)) (n m : Entry) → read_fields (a_name ∷ []) fs n ≡ Some m → PartRead (λ a. write_name a ∷ []) (with_name n) (name_fits true) fs m
name_got fs n m h = part_got a_name name_field (with_name n) write_name (name_fits true) fs n m (λ f. refl) (λ f a e. let q = name_read f a e in (q.written, q.fits)) h

name_back : (r : Role) (fs : List (List ℕ)) (n m : Entry) → n.node.name ≡ no_name → read_fields (the_name r) fs n ≡ Some m → PartRead (name_fields r) (with_name n) (name_fits (role_named r)) fs m
name_back Plain fs n m z h = part_kept (with_name n) (name_fits false) n.node.name fs n m refl (same_alike n.node.name no_name z) h
name_back Declares fs n m z h = name_got fs n m h
name_back Refers fs n m z h = name_got fs n m h

number_back : (o : Option ℕ) (fs : List (List ℕ)) (n m : Entry) → SmallMost o → n.node.number ≡ 0 → read_fields (the_number o) fs n ≡ Some m → PartRead (number_fields o) (with_number n) (number_fits o) fs m
number_back None fs n m s z h = part_kept (with_number n) (number_fits None) n.node.number fs n m refl (eq-eqb n.node.number 0 z) h
number_back (Some most) fs n m s z h =
    part_got (a_number most) (number_field most) (with_number n) decimal (number_fits (Some most)) fs n m (λ f. refl) (λ f x e. let q = number_read most x f (omega arith) e in (q.0, le-leb x most q.1)) h

origin_got : (fs : List (List ℕ)) (n m : Entry) → read_fields (an_origin ∷ []) fs n ≡ Some m → PartRead (λ o. write_origin o ∷ []) (with_origin n) (origin_fits true) fs m
origin_got fs n m h = part_got an_origin origin_field (with_origin n) write_origin (origin_fits true) fs n m (λ f. refl) (λ f o e. let q = origin_read f o e in (q.written, q.fits)) h

origin_none : (fs : List (List ℕ)) (n m : Entry) → n.origin ≡ Outer → read_fields [] fs n ≡ Some m → PartRead (λ o. []) (with_origin n) (origin_fits false) fs m
origin_none fs n m z h = part_kept (with_origin n) (origin_fits false) n.origin fs n m refl (ap (origin_fits false) z) h

origin_back : (form : Form) (r : Role) (fs : List (List ℕ)) (n m : Entry) → n.origin ≡ Outer → read_fields (the_origin form r) fs n ≡ Some m → PartRead (origin_fields form r) (with_origin n) (origin_ok form (role_named r)) fs m
origin_back plain r fs n m z h = origin_none fs n m z h
origin_back draft Plain fs n m z h = origin_none fs n m z h
origin_back draft Declares fs n m z h = origin_got fs n m h
origin_back draft Refers fs n m z h = origin_got fs n m h

pub record FieldsRead (form : Form) (k : Kind) (fs : List (List ℕ)) (n : Entry) : Type 0 where
  pub kind : n.node.kind ≡ k
  pub are : fs ≡ fields form n
  pub proper : ProperNode form n

made_of : Kind → Name → ℕ → Origin → Entry
made_of k a x o = record { node = record { kind = k; name = a; number = x }; origin = o }

-- fields that are read are those that the node is written with
pub fields_read : (form : Form) (k : Kind) (fs : List (List ℕ)) (n : Entry) → read_fields (wanted form k) fs (bare k) ≡ Some n → FieldsRead form k fs n
unfolding made_of
fields_read form k fs n h =
    let r = (row k).role in
    let p = parted (the_name r) (the_number (row k).most ++ the_origin form r) fs (bare k) n h in
    let a = name_back r p.front (bare k) p.middle refl p.first in
    let q = parted (the_number (row k).most) (the_origin form r) p.rest p.middle n p.then in
    let x = number_back (row k).most q.front p.middle q.middle (most_small k) (ap (λ (m : Entry). m.node.number) a.made) q.first in
    let c : q.middle ≡ with_number (with_name (bare k) a.value) x.value = x.made ∙ ap (λ (m : Entry). with_number m x.value) a.made in
    let o = origin_back form r q.rest q.middle n (ap (λ (m : Entry). m.origin) c) q.then in
    let e : made_of k a.value x.value o.value ≡ n = sym (o.made ∙ ap (λ (m : Entry). with_origin m o.value) c) in
    subst (FieldsRead form k fs) e
    (record {
      kind = refl;
      are = p.are ∙ (ap (λ (l : List (List ℕ)). l ++ p.rest) a.are ∙ ap (λ (l : List (List ℕ)). name_fields r a.value ++ l) (q.are ∙ (ap (λ (l : List (List ℕ)). l ++ q.rest) x.are ∙ ap (λ (l : List (List ℕ)). number_fields (row k).most x.value ++ l) o.are)));
      proper = record { name = a.fits; number = x.fits; origin = o.fits };
    })
