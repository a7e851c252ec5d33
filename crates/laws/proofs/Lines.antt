-- Lines of nodes: what is written is read, and what is read is what would be written.
use Rattle.std.proofs.Common.{◌≡◌, ℕ, ◌+◌, ◌≤◌, Bool, true, false, eqb, List, [], ◌∷◌, ◌++◌, length, Some, None, Ok, Err, decimal, Option, sym, refl, ap, ◌∙◌, subst, arith}
use Rattle.std.specs.List.{AllByRecursion as All}
use Rattle.std.proofs.ByRecursion.{All-append}
use Rattle.std.proofs.lemmas.Bool.{and_parts, and_from, leb-true, ne_eqb, eqb-false}
use Rattle.std.proofs.lemmas.Option.{none-some}
use Rattle.model.specs.declared.kinds.Kind.{Kind}
use Rattle.model.specs.declared.nodes.Name.{Name}
use Rattle.model.specs.declared.kinds.Role.{Role}
use Rattle.model.specs.declared.kinds.Role.TheVariants.{Plain, Declares, Refers}
use Rattle.model.specs.declared.kinds.Sort.{Sort}
use Rattle.model.specs.declared.nodes.Origin.{Origin}
use Rattle.model.specs.declared.nodes.Entry.{Entry}
use Rattle.model.specs.declared.faults.ReadFault.TheVariants.{WrongLine, Misplaced, TooManyNodes}
use Rattle.model.specs.Lists.{if_some}
use Rattle.model.specs.Kinds.{row, role_named, Grammar, allowed, child_sorts}
use Rattle.model.specs.Names.{root_of, nodes}
use Rattle.model.specs.Fields.{Form, plain, draft, read_fields, wanted, bare, kind_of}
use Rattle.model.specs.Reading.{TextLine, lines, of_fields, read_line, heading, ReadOut, with_entry, read_lines}
use Rattle.model.specs.Fitting.{fits, name_fits, number_fits}
use Rattle.laws.proofs.Pieces.{Over, Free, over_less, free_over, after_each, AllFree, pieces_joined, cut, line_of, lines_ended, end_of, unlines, went}
use Rattle.laws.proofs.Numbers.{over_decimal}
use Rattle.laws.proofs.NamesRead.{over_name}
use Rattle.laws.proofs.KindTests.{SmallMost, most_small, word_over, word_is, word_read}
use Rattle.laws.proofs.Fields.{name_fields, number_fields, origin_fields, fields, origin_ok, ProperNode, over_origin, fields_written, fields_read}

-- a node's line without its end
abbrev pub body : Form → Entry → List ℕ
body form n = (row n.node.kind).word ++ after_each 9 (fields form n)

abbrev pub text : Form → List Entry → List ℕ
text form [] = []
text form (n ∷ ns) = body form n ++ (10 ∷ text form ns)

-- No tab and no line end in a field

AllOver : List (List ℕ) → Type 0
AllOver fs = All (Over 39) fs

name_fields_over : (r : Role) (a : Name) → name_fits (role_named r) a ≡ true → AllOver (name_fields r a)
unfolding AllOver
name_fields_over Plain a h = tt
name_fields_over Declares a h = (over_name a h, tt)
name_fields_over Refers a h = (over_name a h, tt)

number_fields_over : (o : Option ℕ) (x : ℕ) → SmallMost o → number_fits o x ≡ true → AllOver (number_fields o x)
unfolding AllOver
number_fields_over None x s h = tt
number_fields_over (Some most) x s h = let l = leb-true x most h in (over_less 39 48 (decimal x) (omega arith) (over_decimal x (omega arith)), tt)

origin_fields_over : (form : Form) (r : Role) (o : Origin) → origin_ok form (role_named r) o ≡ true → AllOver (origin_fields form r o)
unfolding AllOver
origin_fields_over plain r o h = tt
origin_fields_over draft Plain o h = tt
origin_fields_over draft Declares o h = (over_less 39 48 _ (omega arith) (over_origin o h), tt)
origin_fields_over draft Refers o h = (over_less 39 48 _ (omega arith) (over_origin o h), tt)

fields_over : (form : Form) (n : Entry) → ProperNode form n → AllOver (fields form n)
unfolding AllOver
fields_over form n p =
    let k = n.node.kind in
    All-append (Over 39) (name_fields (row k).role n.node.name) (number_fields (row k).most n.node.number ++ origin_fields form (row k).role n.origin)
    (name_fields_over (row k).role n.node.name p.name)
    (All-append (Over 39) (number_fields (row k).most n.node.number) (origin_fields form (row k).role n.origin)
    (number_fields_over (row k).most n.node.number (most_small k) p.number)
    (origin_fields_over form (row k).role n.origin p.origin))

all_free : (fs : List (List ℕ)) → AllOver fs → AllFree 9 fs
unfolding AllOver
all_free [] h = tt
all_free (f ∷ fs) h = (free_over 39 9 f (omega arith) h.0, all_free fs h.1)

free_after : (fs : List (List ℕ)) → AllOver fs → Free 10 (after_each 9 fs)
unfolding AllOver
free_after [] h = tt
free_after (f ∷ fs) h =
    (λ e. omega arith, All-append (λ b. b ≡ 10 → ⊥) f (after_each 9 fs) (free_over 39 10 f (omega arith) h.0) (free_after fs h.1))

pub body_free : (form : Form) (n : Entry) → ProperNode form n → Free 10 (body form n)
body_free form n p =
    let w = (row n.node.kind).word in
    All-append (λ b. b ≡ 10 → ⊥) w (after_each 9 (fields form n)) (free_over 48 10 w (omega arith) (word_over n.node.kind)) (free_after (fields form n) (fields_over form n p))

-- One line

pub line_written : (form : Form) (n : Entry) → ProperNode form n → read_line form (line_of (body form n)) ≡ Some n
line_written form n p =
    let k = n.node.kind in
    let w = (row k).word in
    ap (of_fields form) (pieces_joined 9 w (fields form n) (free_over 48 9 w (omega arith) (word_over k)) (all_free (fields form n) (fields_over form n p)))
    ∙ ap (λ (o : Option Kind). if_some o (λ j. read_fields (wanted form j) (fields form n) (bare j))) (word_read k)
    ∙ fields_written form n p

pub record LineRead (form : Form) (l : TextLine) (n : Entry) : Type 0 where
  pub is : l ≡ line_of (body form n)
  pub proper : ProperNode form n

fields_line : (form : Form) (bs : List ℕ) (w : List ℕ) (fs : List (List ℕ)) (n : Entry) → bs ≡ w ++ after_each 9 fs → of_fields form (w ∷ fs) ≡ Some n → LineRead form (line_of bs) n
fields_line form bs w fs n e h =
    let p = went (kind_of w) (λ k. read_fields (wanted form k) fs (bare k)) n h in
    let q = fields_read form p.value fs n p.gave in
    let here : w ≡ (row n.node.kind).word = word_is w p.value p.was ∙ ap (λ (k : Kind). (row k).word) (sym q.kind) in
    record {
      is = ap line_of (e ∙ (ap (λ (v : List ℕ). v ++ after_each 9 fs) here ∙ ap (λ (gs : List (List ℕ)). (row n.node.kind).word ++ after_each 9 gs) q.are));
      proper = q.proper;
    }

line_read_at : (form : Form) (bs : List ℕ) (t : Bool) (n : Entry) → read_line form (record { bytes = bs; ended = t }) ≡ Some n → LineRead form (record { bytes = bs; ended = t }) n
line_read_at form bs true n h = let c = cut 9 bs in fields_line form bs c.first c.more n c.together (ap (of_fields form) (sym c.are) ∙ h)
line_read_at form bs false n h = absurd (none-some n h)

pub line_read : (form : Form) (l : TextLine) (n : Entry) → read_line form l ≡ Some n → LineRead form l n
line_read form l n h = line_read_at form l.bytes l.ended n h

-- All lines

abbrev pub text_lines : Form → List Entry → List TextLine
text_lines form [] = []
text_lines form (n ∷ ns) = line_of (body form n) ∷ text_lines form ns

pub lines_text : (form : Form) (d : List Entry) → All (ProperNode form) d → lines (text form d) ≡ text_lines form d
lines_text form [] h = refl
lines_text form (n ∷ ns) h =
    lines_ended (body form n) (text form ns) (body_free form n h.0) ∙ ap (λ (ls : List TextLine). line_of (body form n) ∷ ls) (lines_text form ns h.1)

-- the root's kind, for a program of which some nodes may be read
abbrev pub headed : Option Kind → List Entry → Kind
headed None d = root_of (nodes d)
headed (Some r) d = r

headed_first : (root : Option Kind) (n : Entry) (ns : List Entry) → headed root (n ∷ ns) ≡ heading root n.node.kind
headed_first None n ns = refl
headed_first (Some r) n ns = refl

step : (b : Bool) (o : Option Entry) (n : Entry) (at : ℕ) (f : Entry → Bool) (more : Entry → ReadOut) → b ≡ false → o ≡ Some n → f n ≡ true
    → elim b [ true ↦ Err TooManyNodes | false ↦ elim o [ None ↦ Err (WrongLine at) | Some m ↦ elim (f m) [ false ↦ Err (Misplaced at) | true ↦ with_entry m (more m) ] ] ] ≡ with_entry n (more n)
step b o n at f more e h k = rw (e, h, k)

pub lines_written : (g : Grammar) (form : Form) (root : Option Kind) (ss : List Sort) (at : ℕ) (d : List Entry) → at + length d ≤ 1024 → All (ProperNode form) d → fits g (headed root d) ss (nodes d) ≡ true → read_lines g form root ss at (text_lines form d) ≡ Ok d
lines_written g form root [] at [] l p h = refl
lines_written g form root (s ∷ ss) at [] l p h = let z : ◌≡◌ {A = ℕ} 0 1 = cc in absurd (omega arith)
lines_written g form root [] at (n ∷ ns) l p h = let z : ◌≡◌ {A = ℕ} 0 1 = cc in absurd (omega arith)
lines_written g form root (s ∷ ss) at (n ∷ ns) l p h =
    let k = n.node.kind in
    let r = heading root k in
    let q = and_parts (allowed g (headed root (n ∷ ns)) s k) (fits g (headed root (n ∷ ns)) (child_sorts k n.node.number ++ ss) (nodes ns)) h in
    let e = headed_first root n ns in
    step (eqb at 1024) (read_line form (line_of (body form n))) n at (λ m. allowed g (heading root m.node.kind) s m.node.kind) (λ m. read_lines g form (Some (heading root m.node.kind)) (child_sorts m.node.kind m.node.number ++ ss) (at + 1) (text_lines form ns))
    (ne_eqb at 1024 (λ z. omega arith)) (line_written form n p.0) (ap (λ (j : Kind). allowed g j s k) (sym e) ∙ q.0)
    ∙ ap (with_entry n) (lines_written g form (Some r) (child_sorts k n.node.number ++ ss) (at + 1) ns (omega arith) p.1 (ap (λ (j : Kind). fits g j (child_sorts k n.node.number ++ ss) (nodes ns)) (sym e) ∙ q.1))

record Stepped (b : Bool) (o : Option Entry) (f : Entry → Bool) (more : Entry → ReadOut) (d : List Entry) : Type 0 where
  node : Entry
  rest : List Entry
  within : b ≡ false
  line : o ≡ Some node
  placed : f node ≡ true
  on : more node ≡ Ok rest
  are : node ∷ rest ≡ d

err_ok : {A E : Type 0} (e : E) (x : A) → Err e ≡ Ok x → ⊥
err_ok e x h = let z : ◌≡◌ {A = ℕ} 0 1 = cc in omega arith

node_on : (n : Entry) (r : ReadOut) (d : List Entry) → with_entry n r ≡ Ok d → (ns : List Entry) × (r ≡ Ok ns) × (n ∷ ns ≡ d)
node_on n (Ok ns) d h = (ns, refl, cc)
node_on n (Err e) d h = absurd (err_ok e d h)

placed_step : (n : Entry) (at : ℕ) (f : Entry → Bool) (more : Entry → ReadOut) (d : List Entry) (t : Bool) → f n ≡ t → ◌≡◌ {A = ReadOut} (elim t [ false ↦ Err (Misplaced at) | true ↦ with_entry n (more n) ]) (Ok d) → Stepped false (Some n) f more d
placed_step n at f more d false e h = absurd (err_ok (Misplaced at) d h)
placed_step n at f more d true e h =
    let q = node_on n (more n) d h in
    record { node = n; rest = q.0; within = refl; line = refl; placed = e; on = q.1; are = q.2 }

stepped : (b : Bool) (o : Option Entry) (at : ℕ) (f : Entry → Bool) (more : Entry → ReadOut) (d : List Entry)
    → ◌≡◌ {A = ReadOut} (elim b [ true ↦ Err TooManyNodes | false ↦ elim o [ None ↦ Err (WrongLine at) | Some m ↦ elim (f m) [ false ↦ Err (Misplaced at) | true ↦ with_entry m (more m) ] ] ]) (Ok d) → Stepped b o f more d
stepped true o at f more d h = absurd (err_ok TooManyNodes d h)
stepped false None at f more d h = absurd (err_ok (WrongLine at) d h)
stepped false (Some n) at f more d h = placed_step n at f more d (f n) refl h

pub record LinesRead (g : Grammar) (form : Form) (root : Option Kind) (ss : List Sort) (at : ℕ) (ls : List TextLine) (d : List Entry) : Type 0 where
  pub are : unlines ls ≡ text form d
  pub proper : All (ProperNode form) d
  pub fitting : fits g (headed root d) ss (nodes d) ≡ true
  pub few : at ≤ 1024 → at + length d ≤ 1024

no_more : (ss : List Sort) (at : ℕ) (g : Grammar) (form : Form) (root : Option Kind) (d : List Entry) → read_lines g form root ss at [] ≡ Ok d → LinesRead g form root ss at [] d
no_more [] at g form root [] h = record { are = refl; proper = tt; fitting = refl; few = λ l. omega arith }
no_more [] at g form root (n ∷ ns) h = let z : ◌≡◌ {A = ℕ} 0 1 = cc in absurd (omega arith)
no_more (s ∷ ss) at g form root d h = let z : ◌≡◌ {A = ℕ} 0 1 = cc in absurd (omega arith)

one_more : (g : Grammar) (form : Form) (root : Option Kind) (s : Sort) (ss : List Sort) (at : ℕ) (l : TextLine) (ls : List TextLine) (n : Entry) (ns : List Entry)
    → eqb at 1024 ≡ false → LineRead form l n → allowed g (heading root n.node.kind) s n.node.kind ≡ true
    → LinesRead g form (Some (heading root n.node.kind)) (child_sorts n.node.kind n.node.number ++ ss) (at + 1) ls ns
    → LinesRead g form root (s ∷ ss) at (l ∷ ls) (n ∷ ns)
one_more g form root s ss at l ls n ns w r a m =
    let k = n.node.kind in
    let e = headed_first root n ns in
    let apart = eqb-false at 1024 w in
    record {
      are = ap (λ (x : TextLine). x.bytes ++ (end_of x.ended ++ unlines ls)) r.is ∙ ap (λ (x : List ℕ). body form n ++ (10 ∷ x)) m.are;
      proper = (r.proper, m.proper);
      fitting = and_from _ _ (ap (λ (j : Kind). allowed g j s k) e ∙ a) (ap (λ (j : Kind). fits g j (child_sorts k n.node.number ++ ss) (nodes ns)) e ∙ m.fitting);
      few = λ h. let b : at + 1 ≤ 1024 = omega (arith, apart) in omega (arith, m.few b);
    }

pub lines_read : (g : Grammar) (form : Form) (root : Option Kind) (ss : List Sort) (at : ℕ) (ls : List TextLine) (d : List Entry) → read_lines g form root ss at ls ≡ Ok d → LinesRead g form root ss at ls d
lines_read g form root ss at [] d h = no_more ss at g form root d h
lines_read g form root [] at (l ∷ ls) d h = let z : ◌≡◌ {A = ℕ} 0 1 = cc in absurd (omega arith)
lines_read g form root (s ∷ ss) at (l ∷ ls) d h =
    let q = stepped (eqb at 1024) (read_line form l) at (λ m. allowed g (heading root m.node.kind) s m.node.kind) (λ m. read_lines g form (Some (heading root m.node.kind)) (child_sorts m.node.kind m.node.number ++ ss) (at + 1) ls) d h in
    let n = q.node in
    let k = n.node.kind in
    subst (LinesRead g form root (s ∷ ss) at (l ∷ ls)) q.are
    (one_more g form root s ss at l ls n q.rest q.within (line_read form l n q.line) q.placed
    (lines_read g form (Some (heading root k)) (child_sorts k n.node.number ++ ss) (at + 1) ls q.rest q.on))
