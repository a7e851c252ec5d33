use Rattle.std.proofs.Common.{◌≡◌, ℕ, length, refl, ap, ◌∙◌, subst, arith}
use Rattle.model.specs.Names.{nodes}
use Rattle.model.specs.Forest.{shape}
use Rattle.model.specs.Stages.{with_origins}
use Rattle.laws.proofs.RoundTrips.{length_nodes}
use Rattle.promise.proofs.Respelling.{respelled_at, has_turn}
use Rattle.repair.specs.declared.rounds.UnderRepair.{UnderRepair}
use Rattle.repair.proofs.Turns.{Turned, no_turn_yet, turn_is, turn_taken, turn_passed, rows_on}
use Rattle.repair.proofs.rounds.UnderRepair.round.Goals as goal
use Rattle.repair.proofs.rounds.UnderRepair.round.Goals.{then-is_captor, else-is_captor}

pub loop-at-init : goal.loop-at-init
loop-at-init g c = (no_turn_yet c.args.self.now.classes.now c.args.self.now.entries.now _, (refl, refl, refl))

pub loop-at-preserved : goal.loop-at-preserved
loop-at-preserved g c =
    let draft = c.args.self.now in
    let es = draft.entries.now in
    let cs = draft.classes.now in
    let so_far = c.loop-at.self in
    let n : length (nodes es) ≡ length es = length_nodes es in
    let turn = turn_is g.T.Language.visible cs (nodes es) c.find_all.new.reached (omega (arith, draft.long)) (omega (arith, draft.few)) (omega (arith, c.find_all.auto.reached)) c.find_all.ensures c.loop-at.at c.is_captor.result c.is_captor.ensures in
    elim c.if-is_captor.branch [
      | then-is_captor w ↦
          let spelled : w.respell_freshly.new.self.entries.now ≡ with_origins so_far.entries.now (respelled_at cs c.loop-at.at (nodes so_far.entries.now)) = rw c.loop-at.invariant.1.1 at w.respell_freshly.ensures.after in (
            turn_taken cs es _ c.loop-at.at so_far.entries.now c.loop-at.found c.loop-at.invariant.0 _ _ _ (turn ∙ w.if-is_captor.true) spelled (ap (λ (d : UnderRepair). d.entries.now) w.self-is) w.found-is,
            rows_on draft so_far _ _ c.loop-at.invariant.1 w.respell_freshly.ensures.rows w.self-is,
          )
      | else-is_captor w ↦ (
        turn_passed cs es _ c.loop-at.at so_far.entries.now c.loop-at.found c.loop-at.invariant.0 _ _ (turn ∙ w.if-is_captor.false) (ap (λ (d : UnderRepair). d.entries.now) w.self-is) w.found-is,
        rows_on draft draft so_far _ (refl, refl, refl) c.loop-at.invariant.1 w.self-is,
      )
    ]

pub returns : goal.returns
returns g c =
    let es = c.args.self.now.entries.now in
    let cs = c.args.self.now.classes.now in
    let all : c.loop-at.at ≡ length (nodes es) = omega (arith, length_nodes es, c.loop-at-test.false, c.loop-at.auto.at-end) in
    let turned = subst (λ (k : ℕ). Turned cs es (has_turn (g.T.Language.visible (shape (nodes es))) cs (nodes es)) k c.loop-at.self.entries.now c.loop-at.found) all c.loop-at.invariant.0 in
    record { found = turned.some; after = turned.entries; rows = c.loop-at.invariant.1 }
