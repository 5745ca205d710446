-- The first class upwards that answers is the first that has such a method.
use Rattle.jk_model_classes.specs.Lookups.{IsMethodOf}
use Rattle.member_lookup.proofs.WalksUpwards.{left-all, left-here, left-there, left-none, height-falls}
use Rattle.member_lookup.proofs.find.first_method_upwards.Goals as goal

pub loop-next-init : goal.loop-next-init
loop-next-init c = left-all (IsMethodOf c.args.t.now c.args.key.now.name c.args.key.now.kind) c.args.t.now c.args.c

pub returns-in-Some-own_method : goal.returns-in-Some-own_method
returns-in-Some-own_method c =
    left-here (IsMethodOf c.args.t.now c.args.key.now.name c.args.key.now.kind) c.args.t.now c.ordered.ensures.ordered c.args.c _ _ _ c.in-Some.is
    c.loop-next.invariant (rw c.in-Some-own_method.is at c.own_method.ensures)

pub loop-next-preserved : goal.loop-next-preserved
loop-next-preserved c =
    left-there (IsMethodOf c.args.t.now c.args.key.now.name c.args.key.now.kind) c.args.t.now c.ordered.ensures.ordered c.args.c _ _ _ c.in-Some.is
    c.parent_of-next.ensures c.loop-next.invariant (rw c.in_default-own_method.is at c.own_method.ensures)

pub loop-next-smaller : goal.loop-next-smaller
loop-next-smaller c = height-falls c.args.t.now c.ordered.ensures.ordered _ _ _ c.in-Some.is c.parent_of-next.ensures

pub returns : goal.returns
returns c =
    left-none (IsMethodOf c.args.t.now c.args.key.now.name c.args.key.now.kind) c.args.t.now c.args.c _ c.in_default.is c.loop-next.invariant
