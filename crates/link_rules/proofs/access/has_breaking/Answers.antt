-- An instruction puts to a final field of another class or makes what it may not, or none does.
use Rattle.std.proofs.Common.{refl, arith}
use Rattle.list_lemmas.proofs.ItemsByPlace.{item_read}
use Rattle.class_lemmas.proofs.SomeItem.{none_yet, none_more, none_at_all}
use Rattle.link_rules.specs.LinkedInstrs.{BreaksAccess}
use Rattle.link_rules.proofs.access.has_breaking.Goals as goal

pub loop-i-init : goal.loop-i-init
loop-i-init c = λ s same own h. none_yet (BreaksAccess s c.args.c.now) c.args.instrs.now

pub loop-i-preserved : goal.loop-i-preserved
loop-i-preserved c = λ s same own h.
    none_more (BreaksAccess s c.args.c.now) c.args.instrs.now c.loop-i.i c.index-instrs-i.result (omega arith) c.index-instrs-i.is
    (λ breaks. let t = (c.is_breaking.ensures s same own h).1 breaks in let f = c.if-is_breaking.false in absurd cc) (c.loop-i.invariant s same own h)

pub returns-then-is_breaking : goal.returns-then-is_breaking
returns-then-is_breaking c = λ s same own h. (
  λ t. (
    c.loop-i.i,
    c.index-instrs-i.result,
    item_read c.args.instrs.now c.loop-i.i c.index-instrs-i.result (omega arith) c.index-instrs-i.is,
    (c.is_breaking.ensures s same own h).0 c.if-is_breaking.true,
  ),
  λ breaks. refl,
)

pub returns : goal.returns
returns c = λ s same own h. (
  λ t. absurd cc,
  λ breaks. absurd (none_at_all (BreaksAccess s c.args.c.now) c.args.instrs.now c.loop-i.i (omega arith) (c.loop-i.invariant s same own h) breaks),
)
