use Rattle.std.proofs.Common.{refl, arith}
use Rattle.repair.proofs.Mends.{not_begun, few_rounds, no_captor_left, one_more_round, rounds_left}
use Rattle.repair.proofs.Turns.{rows_on}
use Rattle.repair.proofs.rounds.UnderRepair.repair.Goals as goal

pub loop-count-init : goal.loop-count-init
loop-count-init g c = (not_begun g.T.Language.visible c.args.self.now.classes.now c.args.self.now.entries.now, (refl, refl, refl))

pub loop-count-preserved : goal.loop-count-preserved
loop-count-preserved g c =
    let found = rw c.loop-count.invariant.1.1 at c.if-not-round.ensures.found in
    let after = rw c.loop-count.invariant.1.1 at c.round.ensures.after in (
      one_more_round g.T.Language.visible g.T.Language.lawful c.args.self.now.classes.now c.args.self.now.entries.now c.requires c.loop-count.count c.loop-count.self.entries.now c.loop-count.invariant.0 found c.round.new.self.entries.now after,
      rows_on c.args.self.now c.loop-count.self c.round.new.self c.round.new.self c.loop-count.invariant.1 c.round.ensures.rows refl,
    )

pub overflow_add-count : goal.overflow_add-count
overflow_add-count g c =
    let found = rw c.loop-count.invariant.1.1 at c.if-not-round.ensures.found in
    omega (
      arith,
      c.args.self.now.long,
      c.args.self.now.few,
      few_rounds g.T.Language.visible g.T.Language.lawful c.args.self.now.classes.now c.args.self.now.entries.now c.requires,
      rounds_left g.T.Language.visible g.T.Language.lawful c.args.self.now.classes.now c.args.self.now.entries.now c.requires c.loop-count.count c.loop-count.self.entries.now c.loop-count.invariant.0 found,
    )

pub loop-count-smaller : goal.loop-count-smaller
loop-count-smaller g c =
    let found = rw c.loop-count.invariant.1.1 at c.if-not-round.ensures.found in
    omega (
      arith,
      rounds_left g.T.Language.visible g.T.Language.lawful c.args.self.now.classes.now c.args.self.now.entries.now c.requires c.loop-count.count c.loop-count.self.entries.now c.loop-count.invariant.0 found,
    )

pub returns : goal.returns
returns g c =
    let found = rw c.loop-count.invariant.1.1 at c.if-not-round.ensures.found in
    let after = rw c.loop-count.invariant.1.1 at c.round.ensures.after in
    let ended = no_captor_left g.T.Language.visible g.T.Language.lawful c.args.self.now.classes.now c.args.self.now.entries.now c.requires c.loop-count.count c.loop-count.self.entries.now c.loop-count.invariant.0 c.round.new.self.entries.now found after in
    record {
      rounds = ended.0;
      after = ended.1;
      rows = rows_on c.args.self.now c.loop-count.self c.round.new.self c.round.new.self c.loop-count.invariant.1 c.round.ensures.rows refl;
    }
