use Rattle.std.proofs.Common.{◌≡◌, ◌<◌, length, sym, refl, ◌∙◌, rules, arith}
use Rattle.script.specs.Forms.{form_of}
use Rattle.script.proofs.ReadParts.{started, head_is, rest_kept, after_end, ends_early, all_read, too_many, wrong_line, misplaced, turned}
use Rattle.script.proofs.reader.read_lines.Goals as goal

pub loop-rest-init : goal.loop-rest-init
loop-rest-init g c = (omega arith, omega (arith, c.for_root-pending.ensures.height), refl, started g.G.Grammar.grammar (form_of c.args.form) c.for_root-pending.result.sorts c.args.text.now c.for_root-pending.ensures.sorts)

pub returns-in_default : goal.returns-in_default
returns-in_default g c =
    let here : 0 < length c.loop-rest.rest.now = search rules in
    after_end _ g.G.Grammar.grammar (form_of c.args.form) c.loop-rest.root c.args.row.now c.loop-rest.row c.loop-rest.pending.sorts c.loop-rest.count c.loop-rest.rest.now c.loop-rest.invariant.3 c.in_default.ensures.sorts.0 here

pub returns-then-count-eq-MOST_NODES : goal.returns-then-count-eq-MOST_NODES
returns-then-count-eq-MOST_NODES g c =
    let here : 0 < length c.loop-rest.rest.now = search rules in
    too_many _ g.G.Grammar.grammar (form_of c.args.form) c.loop-rest.root c.args.row.now c.loop-rest.row c.loop-rest.pending.sorts c.loop-rest.count c.loop-rest.rest.now c.loop-rest.invariant.3 here
    c.in-Some.sort c.take.new.self.sorts c.in-Some.ensures.sorts c.if-count-eq-MOST_NODES.true

pub returns-in_default-first_line : goal.returns-in_default-first_line
returns-in_default-first_line g c =
    let here : 0 < length c.loop-rest.rest.now = search rules in
    wrong_line _ g.G.Grammar.grammar (form_of c.args.form) c.loop-rest.root c.args.row.now c.loop-rest.row c.loop-rest.pending.sorts c.loop-rest.count c.loop-rest.rest.now c.loop-rest.invariant.3 here
    c.in-Some.sort c.take.new.self.sorts c.in-Some.ensures.sorts c.if-count-eq-MOST_NODES.false c.in_default-first_line.ensures

pub returns-then-not-is_allowed : goal.returns-then-not-is_allowed
returns-then-not-is_allowed g c =
    let here : 0 < length c.loop-rest.rest.now = search rules in
    misplaced _ g.G.Grammar.grammar (form_of c.args.form) c.loop-rest.root c.args.row.now c.loop-rest.row c.loop-rest.pending.sorts c.loop-rest.count c.loop-rest.rest.now c.loop-rest.invariant.3 here
    c.in-Some.sort c.take.new.self.sorts c.in-Some.ensures.sorts c.if-count-eq-MOST_NODES.false c.in-Some-first_line.line.entry c.unwrap_or-head.result c.in-Some-first_line.ensures.0
    (c.unwrap_or-head.ensures ∙ head_is c.loop-rest.root _) (sym c.is_allowed.ensures ∙ c.if-not-is_allowed.true)

pub loop-rest-preserved : goal.loop-rest-preserved
loop-rest-preserved g c =
    let v = c.loop-rest.invariant in
    let here : 0 < length c.loop-rest.rest.now = search rules in (
      omega (arith, v.0, c.if-count-eq-MOST_NODES.false),
      omega (arith, v.1, c.in-Some.ensures.height, c.push_children.ensures.height),
      rest_kept c.loop-rest.row c.loop-rest.count c.in-Some-first_line.line.entry c.args.row.now v.2,
      turned _ g.G.Grammar.grammar (form_of c.args.form) c.loop-rest.root c.args.row.now c.loop-rest.row c.loop-rest.pending.sorts c.loop-rest.count c.loop-rest.rest.now v.3 here
          c.in-Some.sort c.take.new.self.sorts c.in-Some.ensures.sorts c.if-count-eq-MOST_NODES.false c.in-Some-first_line.line.entry c.unwrap_or-head.result c.in-Some-first_line.ensures.0
          (c.unwrap_or-head.ensures ∙ head_is c.loop-rest.root _) c.push_children.new.self.sorts c.in-Some-first_line.line.rest.now (sym c.is_allowed.ensures ∙ c.if-not-is_allowed.false)
          (omega (arith, v.0, c.if-count-eq-MOST_NODES.false, c.requires, c.loop-rest.auto.row)) c.in-Some-first_line.ensures.1 c.push_children.ensures.sorts,
    )

pub returns-in-None : goal.returns-in-None
returns-in-None g c =
    let done : length c.loop-rest.rest.now ≡ 0 = search rules in
    all_read _ g.G.Grammar.grammar (form_of c.args.form) c.loop-rest.root c.args.row.now c.loop-rest.row c.loop-rest.pending.sorts c.loop-rest.count c.loop-rest.rest.now c.loop-rest.invariant.3
    c.in-None.ensures.sorts.0 done (omega (arith, c.loop-rest.invariant.0, c.requires, c.loop-rest.auto.row)) c.loop-rest.invariant.2

pub returns-in-Some-take : goal.returns-in-Some-take
returns-in-Some-take g c =
    let done : length c.loop-rest.rest.now ≡ 0 = search rules in
    ends_early _ g.G.Grammar.grammar (form_of c.args.form) c.loop-rest.root c.args.row.now c.loop-rest.row c.loop-rest.pending.sorts c.loop-rest.count c.loop-rest.rest.now c.loop-rest.invariant.3
    _ _ c.in-Some-take.ensures.sorts done
