-- The class that is asked is the next one upwards.
use Rattle.member_lookup.proofs.WalksUpwards.{height-falls}
use Rattle.link_rules.specs.FinalMethods.{IsOutside}
use Rattle.link_rules.proofs.FinalsAbove.{all-asked, none-asked, one-asked}
use Rattle.link_rules.proofs.final_methods.first_overriding.Goals as goal

pub loop-next-init : goal.loop-next-init
loop-next-init c =
    none-asked (IsOutside c.args.before) c.args.t.now c.ordered.ensures.ordered c.args.class c.args.methods.now c.parent_of-next.result
    c.parent_of-next.ensures

pub loop-next-preserved : goal.loop-next-preserved
loop-next-preserved c =
    one-asked (IsOutside c.args.before) c.args.t.now c.ordered.ensures.ordered c.args.class c.args.methods.now c.loop-next.next
    c.parent_of-next-in-Some.result c.in-Some.d c.loop-next.best c.first_outside.result c.earlier-best.result c.in-Some.is
    c.parent_of-next-in-Some.ensures c.loop-next.invariant c.first_outside.ensures c.earlier-best.ensures

pub loop-next-smaller : goal.loop-next-smaller
loop-next-smaller c = height-falls c.args.t.now c.ordered.ensures.ordered _ _ _ c.in-Some.is c.parent_of-next-in-Some.ensures

pub returns : goal.returns
returns c =
    all-asked (IsOutside c.args.before) c.args.t.now c.ordered.ensures.ordered c.args.class c.args.methods.now c.loop-next.next c.loop-next.best
    c.in_default.is c.loop-next.invariant
