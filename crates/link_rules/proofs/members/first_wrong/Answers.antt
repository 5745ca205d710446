-- A method finds a member of the wrong sort, or none does.
use Rattle.std.proofs.Common.{arith}
use Rattle.list_lemmas.proofs.ItemsByPlace.{item_read}
use Rattle.class_lemmas.proofs.SomeItem.{none_yet, none_more, none_at_all}
use Rattle.link_rules.specs.LinkedInstrs.{FindsWrong, HasLinkedInstr}
use Rattle.link_rules.proofs.members.first_wrong.Goals as goal

pub loop-i-init : goal.loop-i-init
loop-i-init c = λ s file same h. none_yet (HasLinkedInstr (FindsWrong s file)) c.args.methods.now

pub loop-i-preserved : goal.loop-i-preserved
loop-i-preserved c = λ s file same h.
    none_more (HasLinkedInstr (FindsWrong s file)) c.args.methods.now c.loop-i.i c.index-methods-i.result (omega arith) c.index-methods-i.is
    (λ wrong. let t = (c.has_wrong.ensures s file same h).1 wrong in let f = c.if-has_wrong.false in absurd cc) (c.loop-i.invariant s file same h)

pub returns-then-has_wrong : goal.returns-then-has_wrong
returns-then-has_wrong c = λ s file same h. (
  (
    c.index-methods-i.result,
    item_read c.args.methods.now c.loop-i.i c.index-methods-i.result (omega arith) c.index-methods-i.is,
    (c.has_wrong.ensures s file same h).0 c.if-has_wrong.true,
  ),
  c.loop-i.invariant s file same h,
)

pub returns : goal.returns
returns c = λ s file same h.
    none_at_all (HasLinkedInstr (FindsWrong s file)) c.args.methods.now c.loop-i.i (omega arith) (c.loop-i.invariant s file same h)
