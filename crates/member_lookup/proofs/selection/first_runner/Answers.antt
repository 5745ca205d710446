-- The first class upwards that answers is the first that has a method which runs for the called one.
use Rattle.jk_model_classes.specs.Lookups.{RunsFor}
use Rattle.member_lookup.proofs.WalksUpwards.{left-all, left-here, left-there, left-none, height-falls}
use Rattle.member_lookup.proofs.selection.first_runner.Goals as goal

pub loop-next-init : goal.loop-next-init
loop-next-init c = left-all (RunsFor c.args.t.now c.args.method) c.args.t.now c.args.receiver

pub returns-in-Some-own_runner : goal.returns-in-Some-own_runner
returns-in-Some-own_runner c =
    left-here (RunsFor c.args.t.now c.args.method) c.args.t.now c.ordered.ensures.ordered c.args.receiver _ _ _ c.in-Some.is c.loop-next.invariant
    (rw c.in-Some-own_runner.is at c.own_runner.ensures)

pub loop-next-preserved : goal.loop-next-preserved
loop-next-preserved c =
    left-there (RunsFor c.args.t.now c.args.method) c.args.t.now c.ordered.ensures.ordered c.args.receiver _ _ _ c.in-Some.is c.parent_of-next.ensures
    c.loop-next.invariant (rw c.in_default-own_runner.is at c.own_runner.ensures)

pub loop-next-smaller : goal.loop-next-smaller
loop-next-smaller c = height-falls c.args.t.now c.ordered.ensures.ordered _ _ _ c.in-Some.is c.parent_of-next.ensures

pub returns : goal.returns
returns c = left-none (RunsFor c.args.t.now c.args.method) c.args.t.now c.args.receiver _ c.in_default.is c.loop-next.invariant
