-- The first method of that name and type that runs for the called one is the first that runs for it.
use Rattle.std.proofs.Common.{◌≡◌, false, true, arith}
use Rattle.member_lookup.proofs.RunnersOfAClass.{none-before_first, first-runner, none-before_next, no-runner, place-fits}
use Rattle.member_lookup.proofs.selection.own_runner.Goals as goal

pub loop-index-init : goal.loop-index-init
loop-index-init c = none-before_first c.args.t.now c.args.method c.args.called.now c.requires c.args.d

pub returns-then-runs_for : goal.returns-then-runs_for
returns-then-runs_for c =
    first-runner c.args.t.now c.args.method c.args.called.now c.requires c.args.d _ _ c.loop-index.invariant
    (rw c.of_method-key.ensures at (rw c.in-Some.is at c.own_method.ensures)) (c.runs_for.ensures.0 c.if-runs_for.true)

pub overflow_add-from : goal.overflow_add-from
overflow_add-from c =
    let found = rw c.in-Some.is at c.own_method.ensures in
    let fits = place-fits c.args.t.now c.ordered.ensures.members _ _ found.suits.1 in
    omega arith

pub loop-index-preserved : goal.loop-index-preserved
loop-index-preserved c =
    none-before_next c.args.t.now c.args.method c.args.called.now c.requires c.args.d _ _ c.loop-index.invariant
    (rw c.of_method-key.ensures at (rw c.in-Some.is at c.own_method.ensures))
    (λ runs. let both : false ≡ true = rw c.if-runs_for.false at (c.runs_for.ensures.1 runs) in cc)

pub loop-index-smaller : goal.loop-index-smaller
loop-index-smaller c =
    let found = rw c.in-Some.is at c.own_method.ensures in
    let fits = place-fits c.args.t.now c.ordered.ensures.members _ _ found.suits.1 in
    let after = found.not_before in
    omega arith

pub returns : goal.returns
returns c =
    no-runner c.args.t.now c.args.method c.args.called.now c.requires c.args.d _ c.loop-index.invariant
    (rw c.of_method-key.ensures at (rw c.in_default.is at c.own_method.ensures))
