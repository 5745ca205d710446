-- One is found, or none is there.
use Rattle.std.proofs.Common.{arith}
use Rattle.list_lemmas.proofs.ItemsByPlace.{item_read}
use Rattle.class_lemmas.proofs.SomeItem.{none_yet, none_more, none_at_all}
use Rattle.link_rules.specs.FinalMethods.{OverridesIn}
use Rattle.link_rules.proofs.FinalsOfAClass.{found_by, found_none_by}
use Rattle.link_rules.proofs.final_methods.first_found.Goals as goal

pub loop-i-init : goal.loop-i-init
loop-i-init c = none_yet (OverridesIn c.args.t.now c.args.class c.args.d) c.args.methods.now

pub returns : goal.returns
returns c = none_at_all (OverridesIn c.args.t.now c.args.class c.args.d) c.args.methods.now c.loop-i.i (omega arith) c.loop-i.invariant

pub returns-then-is_some : goal.returns-then-is_some
returns-then-is_some c = (
  (
    c.index-methods-i.result,
    item_read c.args.methods.now c.loop-i.i c.index-methods-i.result (omega arith) c.index-methods-i.is,
    found_by c.args.t.now c.args.class c.args.d c.index-methods-i.result c.own_final.result c.own_final.ensures c.is_some.ensures c.if-is_some.true,
  ),
  c.loop-i.invariant,
)

pub loop-i-preserved : goal.loop-i-preserved
loop-i-preserved c =
    none_more (OverridesIn c.args.t.now c.args.class c.args.d) c.args.methods.now c.loop-i.i c.index-methods-i.result (omega arith)
    c.index-methods-i.is
    (found_none_by c.args.t.now c.args.class c.args.d c.index-methods-i.result c.own_final.result c.own_final.ensures c.is_some.ensures c.if-is_some.false)
    c.loop-i.invariant
