-- One is found, or none is there.
use Rattle.std.proofs.Common.{◌≡◌, false, true, arith}
use Rattle.list_lemmas.proofs.ItemsByPlace.{item_read}
use Rattle.class_lemmas.proofs.SomeItem.{none_yet, none_more, none_at_all}
use Rattle.link_rules.specs.FinalMethods.{IsInside, OverridesWhere}
use Rattle.link_rules.proofs.folder_finals.first_inside.Goals as goal

pub loop-i-init : goal.loop-i-init
loop-i-init c = none_yet (OverridesWhere (IsInside c.args.above.now.first) c.args.above.now.t.now c.args.above.now.class) c.args.methods.now

pub returns : goal.returns
returns c =
    none_at_all (OverridesWhere (IsInside c.args.above.now.first) c.args.above.now.t.now c.args.above.now.class) c.args.methods.now c.loop-i.i
    (omega arith) c.loop-i.invariant

pub returns-then-overrides_met : goal.returns-then-overrides_met
returns-then-overrides_met c = (
  (
    c.index-methods-i.result,
    item_read c.args.methods.now c.loop-i.i c.index-methods-i.result (omega arith) c.index-methods-i.is,
    c.overrides_met.ensures.0 c.if-overrides_met.true,
  ),
  c.loop-i.invariant,
)

pub loop-i-preserved : goal.loop-i-preserved
loop-i-preserved c =
    none_more (OverridesWhere (IsInside c.args.above.now.first) c.args.above.now.t.now c.args.above.now.class) c.args.methods.now c.loop-i.i
    c.index-methods-i.result (omega arith) c.index-methods-i.is
    (λ over. let both : false ≡ true = rw c.if-overrides_met.false at (c.overrides_met.ensures.1 over) in cc) c.loop-i.invariant
