use Rattle.std.proofs.Common.{◌≡◌, ℕ, ◌<◌, ◌≤◌, ◌^◌, List, ◌++◌, length, sym, ap, arith, length-append}
use Rattle.model.specs.declared.nodes.Name.{Name}
use Rattle.model.specs.Names.{letters}
use Rattle.model.specs.Fields.{write_mark, write_name}
use Rattle.script.proofs.LineTexts.{mark_short}
use Rattle.script.proofs.Sinks.{some_room, next_room, both_put}
use Rattle.script.proofs.writer.put_name.Goals as goal

starts_so : (a : Name) (s : List ℕ) → s ≡ letters a.stem → write_name a ≡ s ++ write_mark a.mark
starts_so a s e = ap (λ (l : List ℕ). l ++ write_mark a.mark) (sym e)

front_at_most : (a : Name) (s : List ℕ) → s ≡ letters a.stem → length s ≤ length (write_name a)
front_at_most a s e = omega (arith, ap length (starts_so a s e), length-append s (write_mark a.mark))

name_short : (a : Name) (s : List ℕ) → s ≡ letters a.stem → length s ≤ 8 → length (write_mark a.mark) ≤ 6 → length (write_name a) ≤ 14
name_short a s e l m = omega (arith, ap length (starts_so a s e), length-append s (write_mark a.mark), l, m)

pub put-requires : goal.put-requires
put-requires g c =
    some_room g.S.Sink.laws _ _ _ c.requires (length c.characters.result.now) (front_at_most c.args.name.now _ c.characters.ensures.are) (omega (arith, c.characters.ensures.within))

pub put_mark-requires : goal.put_mark-requires
put_mark-requires g c =
    let a = c.args.name.now in
    let m : a.mark < 2 ^ 16 = omega arith in
    let e = c.characters.ensures.are in
    let room = some_room g.S.Sink.laws _ _ _ c.requires (length (write_name a)) (omega arith) (name_short a _ e (omega (arith, c.characters.ensures.within)) (mark_short a.mark m)) in
    next_room g.S.Sink.laws _ _ _ _ (starts_so a _ e) room _ c.put.ensures

pub returns-clause-put : goal.returns-clause-put
returns-clause-put g c =
    let a = c.args.name.now in
    let e = c.characters.ensures.are in
    let room = some_room g.S.Sink.laws _ _ _ c.requires (length (write_name a)) (omega arith) (name_short a _ e (omega (arith, c.characters.ensures.within)) c.put_mark.ensures.short) in
    both_put g.S.Sink.laws _ _ _ _ (starts_so a _ e) room _ _ c.put.ensures c.put_mark.ensures.put
