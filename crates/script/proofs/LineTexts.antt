-- The text of a line by the code's row of its kind, and lines one after another.
use Rattle.std.proofs.Common.{◌≡◌, ℕ, zero, suc, ◌+◌, ◌^◌, ◌<◌, ◌≤◌, true, leb, eqb, List, [], ◌∷◌, ◌++◌, length, get_or, take, drop, Some, None, decimal, Option, sym, refl, ap, ◌∙◌, append_assoc, append-nil, arith, length-append, take-append-drop}
use Rattle.std.proofs.lemmas.List.{take_more}
use Rattle.std.proofs.lemmas.Fmt.{length-decimal-le}
use Rattle.std.proofs.lemmas.Bool.{cond-true, cond-false, ne_eqb, leb-true}
use Rattle.model.specs.declared.kinds.Kind.{Kind}
use Rattle.model.specs.declared.kinds.Role.{Role}
use Rattle.model.specs.declared.kinds.Role.TheVariants.{Plain, Declares, Refers}
use Rattle.model.specs.declared.kinds.KindRow.{KindRow}
use Rattle.model.specs.declared.nodes.Name.{Name}
use Rattle.model.specs.declared.nodes.Origin.TheVariants.{Outer}
use Rattle.model.specs.declared.nodes.Entry.{Entry}
use Rattle.model.specs.Kinds.{row, role_named}
use Rattle.model.specs.Names.{nodes}
use Rattle.model.specs.Fields.{plain, the_name, the_number, write_mark, write_name, write_fields}
use Rattle.model.specs.Writing.{write_line, write_lines, write}
use Rattle.model.specs.Table.{RowOf, shown, row_of}
use Rattle.model.proofs.KindTables.{every_kind}
use Rattle.script.specs.Buffers.{name_text, number_text}

pub mark_some : (m : ℕ) → (m ≡ 0 → ⊥) → write_mark m ≡ 39 ∷ decimal m
mark_some m e = cond-false (eqb m 0) _ _ (ne_eqb m 0 e)

pub mark_short : (m : ℕ) → m < 2 ^ 16 → length (write_mark m) ≤ 6
mark_short zero h = omega arith
mark_short (suc k) h = omega (arith, ap length (mark_some (suc k) (λ e. omega (arith, e))), length-decimal-le 5 (suc k) (omega arith) (omega (arith, h)) (omega (arith, h)))

pub a_name_text : (r : Role) (a : Name) → role_named r ≡ true → name_text r a ≡ 9 ∷ write_name a
a_name_text r a e = cond-true (role_named r) (9 ∷ write_name a) [] e

number_fields : (o : Option ℕ) (e : Entry) → write_fields (the_number o ++ []) e ≡ number_text o e.node.number
number_fields None e = refl
number_fields (Some most) e = ap (λ (l : List ℕ). 9 ∷ l) (append-nil (decimal e.node.number))

text_fields : (r : Role) (o : Option ℕ) (e : Entry) → write_fields (the_name r ++ (the_number o ++ [])) e ≡ name_text r e.node.name ++ number_text o e.node.number
text_fields Plain o e = number_fields o e
text_fields Declares o e = ap (λ (l : List ℕ). 9 ∷ (write_name e.node.name ++ l)) (number_fields o e)
text_fields Refers o e = ap (λ (l : List ℕ). 9 ∷ (write_name e.node.name ++ l)) (number_fields o e)

-- an entry's line, by the code's row
abbrev pub line_by : KindRow → Entry → List ℕ
line_by x e = x.word.now ++ (name_text x.role e.node.name ++ (number_text x.most e.node.number ++ (10 ∷ [])))

pub line_parts : (x : KindRow) (e : Entry) → shown x ≡ row_of e.node.kind → write_line plain e ≡ line_by x e
line_parts x e s =
    let k = e.node.kind in
    let a = name_text (row k).role e.node.name in
    let m = number_text (row k).most e.node.number in
    ap (λ (l : List ℕ). (row k).word ++ (l ++ (10 ∷ []))) (text_fields (row k).role (row k).most e)
    ∙ (ap (λ (l : List ℕ). (row k).word ++ l) (append_assoc a m (10 ∷ []))
    ∙ sym (ap (λ (t : RowOf). t.row.word ++ (name_text t.row.role e.node.name ++ (number_text t.row.most e.node.number ++ (10 ∷ [])))) s))

word_short : (k : Kind) → length (row k).word ≤ 5
word_short k = leb-true (length (row k).word) 5 (every_kind (λ l. leb (length (row l).word) 5) refl k)

pub row_word_short : (x : KindRow) (k : Kind) → shown x ≡ row_of k → length x.word.now ≤ 5
row_word_short x k s = omega (arith, ap (λ (t : RowOf). length t.row.word) s, word_short k)

pub number_short : (o : Option ℕ) (n : ℕ) → n < 2 ^ 32 → length (number_text o n) ≤ 11
number_short None n h = omega arith
number_short (Some most) n h = omega (arith, length-decimal-le 10 n (omega arith) (omega (arith, h)) (omega (arith, h)))

-- Lines

pub write_append : (p q : List Entry) → write_lines plain (p ++ q) ≡ write_lines plain p ++ write_lines plain q
write_append [] q = refl
write_append (n ∷ p) q =
    ap (λ (l : List ℕ). write_line plain n ++ l) (write_append p q) ∙ sym (append_assoc (write_line plain n) (write_lines plain p) (write_lines plain q))

pub front_more : (p : List Entry) (i : ℕ) (d : Entry) → i < length p → write_lines plain (take (i + 1) p) ≡ write_lines plain (take i p) ++ write_line plain (get_or p i d)
front_more p i d h =
    ap (write_lines plain) (take_more p i d h)
    ∙ (write_append (take i p) (get_or p i d ∷ []) ∙ ap (λ (l : List ℕ). write_lines plain (take i p) ++ l) (append-nil (write_line plain (get_or p i d))))

pub front_short : (p : List Entry) (i : ℕ) → length (write_lines plain (take i p)) ≤ length (write_lines plain p)
front_short p i =
    omega (arith, ap (λ (l : List Entry). length (write_lines plain l)) (take-append-drop i p), ap length (write_append (take i p) (drop i p)), length-append (write_lines plain (take i p)) (write_lines plain (drop i p)))

-- a plain text does not look at origins
same_line : (e : Entry) → write_line plain (record { node = e.node; origin = Outer }) ≡ write_line plain e
same_line e =
    let k = e.node.kind in
    ap (λ (l : List ℕ). (row k).word ++ (l ++ (10 ∷ [])))
    (text_fields (row k).role (row k).most (record { node = e.node; origin = Outer }) ∙ sym (text_fields (row k).role (row k).most e))

pub same_text : (es : List Entry) → write (nodes es) ≡ write_lines plain es
same_text [] = refl
same_text (e ∷ es) = ap (λ (l : List ℕ). l ++ write (nodes es)) (same_line e) ∙ ap (λ (l : List ℕ). write_line plain e ++ l) (same_text es)
