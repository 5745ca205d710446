-- A method puts to a final field of another class or makes what it may not, or none does.
use Rattle.std.proofs.Common.{arith}
use Rattle.list_lemmas.proofs.ItemsByPlace.{item_read}
use Rattle.class_lemmas.proofs.SomeItem.{none_yet, none_more, none_at_all}
use Rattle.link_rules.specs.LinkedInstrs.{BreaksAccess, HasLinkedInstr}
use Rattle.link_rules.proofs.access.first_breaking.Goals as goal

pub loop-i-init : goal.loop-i-init
loop-i-init c = λ s same own h. none_yet (HasLinkedInstr (BreaksAccess s c.args.c.now)) c.args.methods.now

pub loop-i-preserved : goal.loop-i-preserved
loop-i-preserved c = λ s same own h.
    none_more (HasLinkedInstr (BreaksAccess s c.args.c.now)) c.args.methods.now c.loop-i.i c.index-methods-i.result (omega arith) c.index-methods-i.is
    (λ breaks. let t = (c.breaks.ensures s same own h).1 breaks in let f = c.if-breaks.false in absurd cc) (c.loop-i.invariant s same own h)

pub returns-then-breaks : goal.returns-then-breaks
returns-then-breaks c = λ s same own h. (
  (
    c.index-methods-i.result,
    item_read c.args.methods.now c.loop-i.i c.index-methods-i.result (omega arith) c.index-methods-i.is,
    (c.breaks.ensures s same own h).0 c.if-breaks.true,
  ),
  c.loop-i.invariant s same own h,
)

pub returns : goal.returns
returns c = λ s same own h.
    none_at_all (HasLinkedInstr (BreaksAccess s c.args.c.now)) c.args.methods.now c.loop-i.i (omega arith) (c.loop-i.invariant s same own h)
