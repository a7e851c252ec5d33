use Rattle.std.proofs.Common.{◌≡◌, rules, List, length, take, sym, ap, ◌∙◌, arith}
use Rattle.std.specs.Iterator.Adapters.{rev_source, enumerate_count}
use Rattle.std.proofs.lemmas.List.{length-take-le}
use Rattle.model.specs.declared.nodes.Entry.{Entry}
use Rattle.model.specs.Names.{entry_at}
use Rattle.model.specs.Scopes.{tree_scopes}
use Rattle.scope.proofs.Scoping.{named_there}
use Rattle.scope.proofs.Backward.{left}
use Rattle.scope.proofs.TreeWalk.{walking_begins, walking_ends, goes_past, goes_up_from_first, goes_up_unlike, goes_up_to}
use Rattle.scope.proofs.trees.TreesScopes.seek.Goals as goal
use Rattle.scope.proofs.trees.TreesScopes.seek.Goals.{else-in_last_child-via-then-in_last_child+else-scopes_as, else-in_last_child-via-else-in_last_child}

pub loop-up-init : goal.loop-up-init
loop-up-init c =
    let es = c.args.program.now in
    let s = c.into_iter-up-iterator.result in
    let z : enumerate_count (rev_source s) ≡ 0 = search rules in
    let e : left s ≡ take c.args.at es = search rules in
    record {
      can = (tt, tt, let l = length-take-le c.args.at es (omega (arith, c.requires)) in let m = ap (λ (xs : List Entry). length xs) e in omega (arith, z, c.ranges.at));
      finite = tt;
      walking = walking_begins es c.args.at (entry_at es c.args.at).node.name s c.requires z e;
    }

pub loop-up-preserved-then-arity-between : goal.loop-up-preserved-then-arity-between
loop-up-preserved-then-arity-between c =
    record {
      can = (tt, tt, omega (arith, c.in-Some.ensures.steps));
      finite = tt;
      walking = goes_past _ _ _ c.requires _ _ _ _ _ _ c.loop-up.invariant.walking c.in-Some.ensures.steps c.arity-arity.ensures c.if-arity-between.true;
    }

pub loop-up-preserved : goal.loop-up-preserved
loop-up-preserved c =
    record {
      can = (tt, tt, omega (arith, c.in-Some.ensures.steps));
      finite = tt;
      walking = elim c.else-in_last_child.branch [
        | else-in_last_child-via-then-in_last_child+else-scopes_as w ↦
            goes_up_unlike _ _ _ c.requires _ _ _ _ _ _ c.loop-up.invariant.walking c.in-Some.ensures.steps c.arity-arity.ensures c.if-arity-between.false
            w.if-in_last_child.true _ w.scopes_as.ensures w.if-scopes_as.false
        | else-in_last_child-via-else-in_last_child w ↦
            goes_up_from_first _ _ _ c.requires _ _ _ _ _ _ c.loop-up.invariant.walking c.in-Some.ensures.steps c.arity-arity.ensures c.if-arity-between.false w.if-in_last_child.false
      ];
    }

pub returns-then-scopes_as : goal.returns-then-scopes_as
returns-then-scopes_as c =
    sym
    (named_there tree_scopes c.args.program.now c.args.at
    ∙ goes_up_to _ _ _ c.requires c.loop-up.up-iterator c.next.new.self _ _ _ _ c.loop-up.invariant.walking c.in-Some.ensures.steps c.arity-arity.ensures c.if-arity-between.false
    c.if-in_last_child.true _ c.scopes_as.ensures c.if-scopes_as.true)

pub returns : goal.returns
returns c = sym (named_there tree_scopes c.args.program.now c.args.at ∙ walking_ends _ _ _ _ _ c.in-None.ensures.steps.1.0 c.loop-up.invariant.walking)
