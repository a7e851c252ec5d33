use Rattle.std.proofs.Common.{◌≡◌, ℕ, [], ◌∷◌, ◌++◌, decimal, Some, Option, ap}
use Rattle.script.specs.Buffers.{number_text}
use Rattle.script.proofs.Sinks.{next_room, both_put}
use Rattle.script.proofs.writer.put_number_field.Goals as goal

a_number_text : (o : Option ℕ) (most n : ℕ) → o ≡ Some most → number_text o n ≡ (9 ∷ []) ++ decimal n
a_number_text o most n e = ap (λ (p : Option ℕ). number_text p n) e

pub put_number-requires : goal.put_number-requires
put_number-requires g c = next_room g.S.Sink.laws _ _ _ _ (a_number_text c.args.most _ c.args.n c.in-Some.is) c.requires _ c.put.ensures

pub returns-clause-put : goal.returns-clause-put
returns-clause-put g c = both_put g.S.Sink.laws _ _ _ _ (a_number_text c.args.most _ c.args.n c.in-Some.is) c.requires _ _ c.put.ensures c.put_number.ensures.put
