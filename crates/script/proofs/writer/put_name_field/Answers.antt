use Rattle.std.proofs.Common.{◌≡◌, ◌+◌, true, ◌∷◌, [], length, min, sym, ap, ◌∙◌, arith}
use Rattle.model.specs.declared.kinds.Role.{Role}
use Rattle.model.specs.declared.nodes.Name.{Name}
use Rattle.model.specs.Kinds.{role_named}
use Rattle.model.specs.Fields.{write_name}
use Rattle.script.specs.Buffers.{name_text}
use Rattle.script.proofs.LineTexts.{a_name_text}
use Rattle.script.proofs.Sinks.{some_room, some_left, both_put}
use Rattle.script.proofs.writer.put_name_field.Goals as goal

name_long : (r : Role) (a : Name) → role_named r ≡ true → length (name_text r a) ≡ 1 + length (write_name a)
name_long r a e = ap length (a_name_text r a e) ∙ omega arith

pub put-requires : goal.put-requires
put-requires g c =
    some_room g.S.Sink.laws _ _ _ c.requires 1 (omega (arith, name_long c.args.role c.args.name.now (sym c.has_name.ensures ∙ c.if-not-has_name.false))) (omega arith)

pub put_name-requires : goal.put_name-requires
put_name-requires g c =
    let a = c.args.name.now in
    let n = min (length (write_name a)) 14 in
    let e = name_long c.args.role a (sym c.has_name.ensures ∙ c.if-not-has_name.false) in
    some_left g.S.Sink.laws _ _ _ c.requires _ (9 ∷ []) n (omega (arith, e)) (omega arith) c.put.ensures

pub returns-clause-put : goal.returns-clause-put
returns-clause-put g c =
    let a = c.args.name.now in
    let named = sym c.has_name.ensures ∙ c.if-not-has_name.false in
    let room = some_room g.S.Sink.laws _ _ _ c.requires (length (name_text c.args.role a)) (omega arith) (omega (arith, name_long c.args.role a named, c.put_name.ensures.short)) in
    both_put g.S.Sink.laws _ _ _ _ (a_name_text c.args.role a named) room _ _ c.put.ensures c.put_name.ensures.put
