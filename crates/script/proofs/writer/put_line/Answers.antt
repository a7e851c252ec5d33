use Rattle.std.proofs.Common.{◌≡◌, List, ℕ, ◌+◌, ◌≤◌, [], ◌∷◌, ◌++◌, length, min, ap, sym, refl, ◌∙◌, arith, length-append}
use Rattle.model.specs.declared.kinds.KindRow.{KindRow}
use Rattle.model.specs.declared.nodes.Entry.{Entry}
use Rattle.model.specs.Fields.{plain}
use Rattle.model.specs.Writing.{write_line}
use Rattle.model.specs.Table.{shown, row_of}
use Rattle.script.specs.Buffers.{name_text, number_text}
use Rattle.script.proofs.LineTexts.{line_parts, row_word_short, number_short}
use Rattle.script.proofs.Sinks.{first_room, next_room, some_room, some_left, both_put}
use Rattle.script.proofs.writer.put_line.Goals as goal

-- what comes after the word, and after the name
after_name : KindRow → Entry → List ℕ
after_name x e = number_text x.most e.node.number ++ (10 ∷ [])

after_word : KindRow → Entry → List ℕ
after_word x e = name_text x.role e.node.name ++ after_name x e

starts_so : (x : KindRow) (e : Entry) (w : List ℕ) → shown x ≡ row_of e.node.kind → w ≡ x.word.now → write_line plain e ≡ w ++ after_word x e
unfolding after_word after_name
starts_so x e w s h = line_parts x e s ∙ ap (λ (l : List ℕ). l ++ after_word x e) (sym h)

word_then : (x : KindRow) (e : Entry) → after_word x e ≡ name_text x.role e.node.name ++ after_name x e
unfolding after_word
word_then x e = refl

name_then : (x : KindRow) (e : Entry) → after_name x e ≡ number_text x.most e.node.number ++ (10 ∷ [])
unfolding after_name
name_then x e = refl

-- how long its parts are together
long_as : (x : KindRow) (e : Entry) (w : List ℕ) → shown x ≡ row_of e.node.kind → w ≡ x.word.now → length (write_line plain e) ≡ length w + (length (name_text x.role e.node.name) + (length (number_text x.most e.node.number) + 1))
long_as x e w s h =
    omega (arith, ap length (starts_so x e w s h), length-append w (after_word x e), ap length (word_then x e), length-append (name_text x.role e.node.name) (after_name x e), ap length (name_then x e), length-append (number_text x.most e.node.number) (10 ∷ []))

first_short : (x : KindRow) (e : Entry) (w : List ℕ) → shown x ≡ row_of e.node.kind → w ≡ x.word.now → length w ≤ 5
first_short x e w s h = omega (arith, ap length h, row_word_short x e.node.kind s)

line_short : (x : KindRow) (e : Entry) (w : List ℕ) → shown x ≡ row_of e.node.kind → w ≡ x.word.now → length (name_text x.role e.node.name) ≤ 15 → length (number_text x.most e.node.number) ≤ 11 → length (write_line plain e) ≤ 32
line_short x e w s h a n = omega (arith, long_as x e w s h, first_short x e w s h, a, n)

pub put-requires : goal.put-requires
put-requires g c =
    let x = c.row-row.result.now in
    let e = c.args.entry.now in
    let w = c.as_bytes.result.now in
    some_room g.S.Sink.laws _ _ _ c.requires (length w) (omega (arith, long_as x e w c.row-row.ensures c.as_bytes.ensures.value)) (omega (arith, first_short x e w c.row-row.ensures c.as_bytes.ensures.value))

pub put_name_field-requires : goal.put_name_field-requires
put_name_field-requires g c =
    let x = c.row-row.result.now in
    let e = c.args.entry.now in
    let w = c.as_bytes.result.now in
    let n = min (length (name_text x.role e.node.name)) 15 in
    some_left g.S.Sink.laws _ _ _ c.requires _ w n (omega (arith, long_as x e w c.row-row.ensures c.as_bytes.ensures.value)) (omega (arith, first_short x e w c.row-row.ensures c.as_bytes.ensures.value)) c.put.ensures

pub put_number_field-requires : goal.put_number_field-requires
put_number_field-requires g c =
    let x = c.row-row.result.now in
    let e = c.args.entry.now in
    let room = some_room g.S.Sink.laws _ _ _ c.requires (length (write_line plain e)) (omega arith) (line_short x e _ c.row-row.ensures c.as_bytes.ensures.value c.put_name_field.ensures.short (number_short x.most e.node.number (omega arith))) in
    let r = next_room g.S.Sink.laws _ _ _ _ (starts_so x e _ c.row-row.ensures c.as_bytes.ensures.value) room _ c.put.ensures in
    let q = next_room g.S.Sink.laws _ _ _ _ (word_then x e) r _ c.put_name_field.ensures.put in
    first_room g.S.Sink.laws _ _ _ _ (name_then x e) q

pub put-requires-2 : goal.put-requires-2
put-requires-2 g c =
    let x = c.row-row.result.now in
    let e = c.args.entry.now in
    let room = some_room g.S.Sink.laws _ _ _ c.requires (length (write_line plain e)) (omega arith) (line_short x e _ c.row-row.ensures c.as_bytes.ensures.value c.put_name_field.ensures.short c.put_number_field.ensures.short) in
    let r = next_room g.S.Sink.laws _ _ _ _ (starts_so x e _ c.row-row.ensures c.as_bytes.ensures.value) room _ c.put.ensures in
    let q = next_room g.S.Sink.laws _ _ _ _ (word_then x e) r _ c.put_name_field.ensures.put in
    next_room g.S.Sink.laws _ _ _ _ (name_then x e) q _ c.put_number_field.ensures.put

pub returns-clause-put : goal.returns-clause-put
returns-clause-put g c =
    let x = c.row-row.result.now in
    let e = c.args.entry.now in
    let room = some_room g.S.Sink.laws _ _ _ c.requires (length (write_line plain e)) (omega arith) (line_short x e _ c.row-row.ensures c.as_bytes.ensures.value c.put_name_field.ensures.short c.put_number_field.ensures.short) in
    let s = starts_so x e _ c.row-row.ensures c.as_bytes.ensures.value in
    let r = next_room g.S.Sink.laws _ _ _ _ s room _ c.put.ensures in
    let q = next_room g.S.Sink.laws _ _ _ _ (word_then x e) r _ c.put_name_field.ensures.put in
    let third = both_put g.S.Sink.laws _ _ _ _ (name_then x e) q _ _ c.put_number_field.ensures.put c.put-2.ensures in
    let second = both_put g.S.Sink.laws _ _ _ _ (word_then x e) r _ _ c.put_name_field.ensures.put third in
    both_put g.S.Sink.laws _ _ _ _ s room _ _ c.put.ensures second
