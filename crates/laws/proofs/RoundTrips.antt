-- Whole texts: reading and writing undo one another.
use Rattle.std.proofs.Common.{◌≡◌, ℕ, suc, ◌≤◌, Bool, true, false, ◌&&◌, leb, List, [], ◌∷◌, ◌++◌, map, length, Some, None, Ok, Err, Option, sym, refl, ap, ◌∙◌, subst, append_assoc, arith}
use Rattle.std.specs.List.{AllByRecursion as All}
use Rattle.std.proofs.lemmas.List.{map-append}
use Rattle.std.proofs.lemmas.Bool.{and_parts, and_from, le-leb}
use Rattle.model.specs.declared.kinds.Role.{Role}
use Rattle.model.specs.declared.kinds.Role.TheVariants.{Plain, Declares, Refers}
use Rattle.model.specs.declared.kinds.Sort.TheVariants.{Root}
use Rattle.model.specs.declared.nodes.Node.{Node}
use Rattle.model.specs.declared.nodes.Origin.{Origin}
use Rattle.model.specs.declared.nodes.Origin.TheVariants.{Outer}
use Rattle.model.specs.declared.nodes.Entry.{Entry}
use Rattle.model.specs.declared.faults.ReadFault.TheVariants.{TooLong}
use Rattle.model.specs.Lists.{and_then}
use Rattle.model.specs.Kinds.{row, has_name, Grammar}
use Rattle.model.specs.Names.{root_of, nodes, entries}
use Rattle.model.specs.Fields.{Form, plain, draft, Wanted, the_name, the_number, the_origin, wanted, write_field, write_fields}
use Rattle.model.specs.Reading.{lines, ReadOut, read_lines, read}
use Rattle.model.specs.Writing.{write_line, write_lines, write}
use Rattle.model.specs.Fitting.{fits, name_fits, number_fits, proper, Program, origin_fits, proper_origins}
use Rattle.laws.specs.RoundTrips.{WrittenIsRead, ReadIsWritten, ReadAsEntries, DraftWrittenIsRead, DraftReadIsWritten, RoundTrips, DraftRoundTrips, WrittenIsShort, DraftWrittenIsShort}
use Rattle.laws.proofs.Pieces.{after_each, unlines_lines}
use Rattle.laws.proofs.Fields.{name_fields, number_fields, origin_fields, fields, outer_is, ProperNode}
use Rattle.laws.proofs.Lines.{body, text, lines_text, lines_written, LinesRead, lines_read}
use Rattle.laws.proofs.Lengths.{text_short}

-- The text of an entry, as the rules write it

written_fields : (ws : List Wanted) (e : Entry) → write_fields ws e ≡ after_each 9 (map (λ w. write_field w e) ws)
written_fields [] e = refl
written_fields (w ∷ ws) e = ap (λ (l : List ℕ). 9 ∷ (write_field w e ++ l)) (written_fields ws e)

name_wanted : (r : Role) (e : Entry) → map (λ w. write_field w e) (the_name r) ≡ name_fields r e.node.name
name_wanted Plain e = refl
name_wanted Declares e = refl
name_wanted Refers e = refl

number_wanted : (o : Option ℕ) (e : Entry) → map (λ w. write_field w e) (the_number o) ≡ number_fields o e.node.number
number_wanted None e = refl
number_wanted (Some most) e = refl

origin_wanted : (form : Form) (r : Role) (e : Entry) → map (λ w. write_field w e) (the_origin form r) ≡ origin_fields form r e.origin
origin_wanted plain r e = refl
origin_wanted draft Plain e = refl
origin_wanted draft Declares e = refl
origin_wanted draft Refers e = refl

fields_wanted : (form : Form) (e : Entry) → map (λ w. write_field w e) (wanted form e.node.kind) ≡ fields form e
fields_wanted form e =
    let k = e.node.kind in
    let r = (row k).role in
    map-append (λ w. write_field w e) (the_name r) (the_number (row k).most ++ the_origin form r)
    ∙ ap (λ (l : List (List ℕ)). l ++ map (λ w. write_field w e) (the_number (row k).most ++ the_origin form r)) (name_wanted r e)
    ∙ ap (λ (l : List (List ℕ)). name_fields r e.node.name ++ l)
    (map-append (λ w. write_field w e) (the_number (row k).most) (the_origin form r)
    ∙ ap (λ (l : List (List ℕ)). l ++ map (λ w. write_field w e) (the_origin form r)) (number_wanted (row k).most e)
    ∙ ap (λ (l : List (List ℕ)). number_fields (row k).most e.node.number ++ l) (origin_wanted form r e))

-- a line and what comes after it
line_is : (form : Form) (e : Entry) (rest : List ℕ) → write_line form e ++ rest ≡ body form e ++ (10 ∷ rest)
line_is form e rest =
    let w = (row e.node.kind).word in
    ap (λ (l : List ℕ). (w ++ (l ++ (10 ∷ []))) ++ rest) (written_fields (wanted form e.node.kind) e ∙ ap (after_each 9) (fields_wanted form e))
    ∙ ap (λ (l : List ℕ). l ++ rest) (sym (append_assoc w (after_each 9 (fields form e)) (10 ∷ [])))
    ∙ append_assoc (body form e) (10 ∷ []) rest

text_is : (form : Form) (d : List Entry) → write_lines form d ≡ text form d
text_is form [] = refl
text_is form (e ∷ es) = line_is form e (write_lines form es) ∙ ap (λ (l : List ℕ). body form e ++ (10 ∷ l)) (text_is form es)

-- Proper nodes, one by one

draft_nodes : (d : List Entry) → proper (nodes d) ≡ true → proper_origins d ≡ true → All (ProperNode draft) d
draft_nodes [] p o = tt
draft_nodes (n ∷ ns) p o =
    let k = n.node.kind in
    let q = and_parts (number_fits (row k).most n.node.number && name_fits (has_name k) n.node.name) (proper (nodes ns)) p in
    let u = and_parts (number_fits (row k).most n.node.number) (name_fits (has_name k) n.node.name) q.0 in
    let v = and_parts (origin_fits (has_name k) n.origin) (proper_origins ns) o in
    (record { name = u.1; number = u.0; origin = v.0 }, draft_nodes ns q.1 v.1)

entries_nodes : (p : List Node) → nodes (entries p) ≡ p
entries_nodes [] = refl
entries_nodes (n ∷ ns) = ap (λ (l : List Node). n ∷ l) (entries_nodes ns)

plain_nodes : (p : List Node) → proper p ≡ true → All (ProperNode plain) (entries p)
plain_nodes [] p = tt
plain_nodes (n ∷ ns) p =
    let k = n.kind in
    let q = and_parts (number_fits (row k).most n.number && name_fits (has_name k) n.name) (proper ns) p in
    let u = and_parts (number_fits (row k).most n.number) (name_fits (has_name k) n.name) q.0 in
    (record { name = u.1; number = u.0; origin = refl }, plain_nodes ns q.1)

nodes_proper : (form : Form) (d : List Entry) → All (ProperNode form) d → proper (nodes d) ≡ true
nodes_proper form [] h = refl
nodes_proper form (n ∷ ns) h = and_from _ _ (and_from _ _ h.0.number h.0.name) (nodes_proper form ns h.1)

origins_proper : (d : List Entry) → All (ProperNode draft) d → proper_origins d ≡ true
origins_proper [] h = refl
origins_proper (n ∷ ns) h = and_from _ _ h.0.origin (origins_proper ns h.1)

pub length_nodes : (d : List Entry) → length (nodes d) ≡ length d
length_nodes [] = refl
length_nodes (n ∷ ns) = ap suc (length_nodes ns)

outer_entries : (es : List Entry) → All (ProperNode plain) es → es ≡ entries (nodes es)
outer_entries [] h = refl
outer_entries (e ∷ es) h =
    ap (λ (o : Origin). record { node = e.node; origin = o } ∷ es) (outer_is e.origin h.0.origin)
    ∙ ap (λ (l : List Entry). record { node = e.node; origin = Outer } ∷ l) (outer_entries es h.1)

-- Either form

short_enough : (form : Form) (d : List Entry) → length d ≤ 1024 → All (ProperNode form) d → length (text form d) ≤ 32768
short_enough plain d l h = omega (arith, text_short plain d h)
short_enough draft d l h = omega (arith, text_short draft d h)

read_short : (g : Grammar) (form : Form) (t : List ℕ) (b : Bool) → b ≡ true → ◌≡◌ {A = ReadOut} (elim b [ true ↦ read_lines g form None (Root ∷ []) 0 (lines t) | false ↦ Err TooLong ]) (read_lines g form None (Root ∷ []) 0 (lines t))
read_short g form t b e = rw e

text_read : (g : Grammar) (form : Form) (d : List Entry) → length d ≤ 1024 → All (ProperNode form) d → fits g (root_of (nodes d)) (Root ∷ []) (nodes d) ≡ true → read g form (text form d) ≡ Ok d
text_read g form d l h f =
    read_short g form (text form d) (leb (length (text form d)) 32768) (le-leb _ 32768 (short_enough form d l h))
    ∙ ap (read_lines g form None (Root ∷ []) 0) (lines_text form d h)
    ∙ lines_written g form None (Root ∷ []) 0 d (omega arith) h f

too_long : (d : List Entry) → ◌≡◌ {A = ReadOut} (Err TooLong) (Ok d) → ⊥
too_long d h = let z : ◌≡◌ {A = ℕ} 0 1 = cc in omega arith

read_text_at : (g : Grammar) (form : Form) (t : List ℕ) (d : List Entry) (b : Bool) → ◌≡◌ {A = ReadOut} (elim b [ true ↦ read_lines g form None (Root ∷ []) 0 (lines t) | false ↦ Err TooLong ]) (Ok d) → LinesRead g form None (Root ∷ []) 0 (lines t) d
read_text_at g form t d true h = lines_read g form None (Root ∷ []) 0 (lines t) d h
read_text_at g form t d false h = absurd (too_long d h)

read_text : (g : Grammar) (form : Form) (t : List ℕ) (d : List Entry) → read g form t ≡ Ok d → LinesRead g form None (Root ∷ []) 0 (lines t) d
read_text g form t d h = read_text_at g form t d (leb (length t) 32768) h

program_read : (g : Grammar) (form : Form) (t : List ℕ) (d : List Entry) → LinesRead g form None (Root ∷ []) 0 (lines t) d → Program g (nodes d)
program_read g form t d r =
    record {
      of = record { fitting = r.fitting; proper_nodes = nodes_proper form d r.proper };
      few = omega (arith, r.few (omega arith), length_nodes d);
    }

-- The theorems

draft_written_is_read : (g : Grammar) → DraftWrittenIsRead g
draft_written_is_read g d s =
    ap (read g draft) (text_is draft d)
    ∙ text_read g draft d (omega (arith, s.program.few, length_nodes d)) (draft_nodes d s.program.of.proper_nodes s.origins) s.program.of.fitting

draft_read_is_written : (g : Grammar) → DraftReadIsWritten g
draft_read_is_written g t d h =
    let r = read_text g draft t d h in
    (record { program = program_read g draft t d r; origins = origins_proper d r.proper }, text_is draft d ∙ (sym r.are ∙ unlines_lines t))

written_is_read : (g : Grammar) → WrittenIsRead g
written_is_read g p s =
    let d = entries p in
    let e = entries_nodes p in
    let t : write p ≡ text plain d = text_is plain d in
    ap (λ (r : ReadOut). and_then r (λ ns. Ok (nodes ns)))
    (ap (read g plain) t ∙ text_read g plain d (omega (arith, s.few, length_nodes d, ap length e)) (plain_nodes p s.of.proper_nodes) (ap (λ (q : List Node). fits g (root_of q) (Root ∷ []) q) e ∙ s.of.fitting))
    ∙ ap Ok e

record CameOut (r : ReadOut) (p : List Node) : Type 0 where
  draft_of : List Entry
  was : r ≡ Ok draft_of
  are : nodes draft_of ≡ p

nodes_of : (r : ReadOut) (p : List Node) → and_then r (λ ns. Ok (nodes ns)) ≡ Ok p → CameOut r p
nodes_of (Ok d) p h = record { draft_of = d; was = refl; are = cc }
nodes_of (Err e) p h = let z : ◌≡◌ {A = ℕ} 0 1 = cc in absurd (omega arith)

read_is_written : (g : Grammar) → ReadIsWritten g
read_is_written g t p h =
    let n = nodes_of (read g plain t) p h in
    let d = n.draft_of in
    let r = read_text g plain t d n.was in
    (subst (Program g) n.are (program_read g plain t d r), ap write (sym n.are) ∙ (ap (write_lines plain) (sym (outer_entries d r.proper)) ∙ (text_is plain d ∙ (sym r.are ∙ unlines_lines t))))

pub written_is_short_lem : WrittenIsShort
written_is_short_lem p h =
    let d = entries p in
    let e = entries_nodes p in
    let t : write p ≡ text plain d = text_is plain d in
    omega (arith, ap length t, text_short plain d (plain_nodes p h), length_nodes d, ap length e)

pub draft_written_is_short : DraftWrittenIsShort
draft_written_is_short d h o = omega (arith, ap length (text_is draft d), text_short draft d (draft_nodes d h o))

read_as_entries : (g : Grammar) → ReadAsEntries g
read_as_entries g t es h = outer_entries es (read_text g plain t es h).proper

pub round_trips_lem : (g : Grammar) → RoundTrips g
round_trips_lem g = record { read_is_written = read_is_written g; written_is_read = written_is_read g; read_as_entries = read_as_entries g }

pub draft_round_trips_lem : (g : Grammar) → DraftRoundTrips g
draft_round_trips_lem g = record { read_is_written = draft_read_is_written g; written_is_read = draft_written_is_read g }
