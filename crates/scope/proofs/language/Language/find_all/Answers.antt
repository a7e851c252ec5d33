use Rattle.std.proofs.Common.{◌≡◌, length, take, None, sym, ◌∙◌, arith, length-take}
use Rattle.model.specs.Names.{nodes}
use Rattle.model.specs.Scopes.{reaches}
use Rattle.laws.proofs.RoundTrips.{length_nodes}
use Rattle.laws.proofs.Reaches.{reaches_are, length_reaches}
use Rattle.scope.proofs.Overlays.{overlay_more, overlay_all}
use Rattle.scope.proofs.language.Language.find_all.Goals as goal

pub loop-at-preserved : goal.loop-at-preserved
loop-at-preserved g c =
    let order = g.Self.Language.visible in
    let p = nodes c.args.program.now in
    let row = take c.min-count.result c.args.reached.now in
    let n : length (reaches order p) ≡ length c.args.program.now = length_reaches order p ∙ length_nodes c.args.program.now in
    let m = length-take c.min-count.result c.args.reached.now in
    overlay_more (reaches order p) row c.loop-at.reach-items c.loop-at.at None c.find.result
    (omega (arith, n, m, c.loop-at-test.true, c.loop-at.auto, c.min-count.ensures)) (omega (arith, m, c.loop-at-test.true, c.loop-at.auto))
    c.loop-at.invariant (c.find.ensures.value ∙ sym (reaches_are order g.Self.Language.lawful p c.loop-at.at))

pub returns : goal.returns
returns g c =
    let order = g.Self.Language.visible in
    let p = nodes c.args.program.now in
    let n : length (reaches order p) ≡ length c.args.program.now = length_reaches order p ∙ length_nodes c.args.program.now in
    let m = length-take c.min-count.result c.args.reached.now in
    overlay_all (reaches order p) c.args.reached.now c.loop-at.reach-items c.loop-at.at c.min-count.result
    (omega (arith, n, c.min-count.ensures)) (omega (arith, n, m, c.loop-at-test.false, c.loop-at.auto, c.min-count.ensures)) c.loop-at.invariant
