-- An instruction finds a member of the wrong sort, or none does.
use Rattle.std.proofs.Common.{refl, arith}
use Rattle.list_lemmas.proofs.ItemsByPlace.{item_read}
use Rattle.class_lemmas.proofs.SomeItem.{none_yet, none_more, none_at_all}
use Rattle.link_rules.specs.LinkedInstrs.{FindsWrong}
use Rattle.link_rules.proofs.members.has_wrong_instr.Goals as goal

pub loop-i-init : goal.loop-i-init
loop-i-init c = λ s file same h. none_yet (FindsWrong s file) c.args.instrs.now

pub loop-i-preserved : goal.loop-i-preserved
loop-i-preserved c = λ s file same h.
    none_more (FindsWrong s file) c.args.instrs.now c.loop-i.i c.index-instrs-i.result (omega arith) c.index-instrs-i.is
    (λ wrong. let t = (c.finds_wrong.ensures s file same h).1 wrong in let f = c.if-finds_wrong.false in absurd cc) (c.loop-i.invariant s file same h)

pub returns-then-finds_wrong : goal.returns-then-finds_wrong
returns-then-finds_wrong c = λ s file same h. (
  λ t. (
    c.loop-i.i,
    c.index-instrs-i.result,
    item_read c.args.instrs.now c.loop-i.i c.index-instrs-i.result (omega arith) c.index-instrs-i.is,
    (c.finds_wrong.ensures s file same h).0 c.if-finds_wrong.true,
  ),
  λ wrong. refl,
)

pub returns : goal.returns
returns c = λ s file same h. (
  λ t. absurd cc,
  λ wrong. absurd (none_at_all (FindsWrong s file) c.args.instrs.now c.loop-i.i (omega arith) (c.loop-i.invariant s file same h) wrong),
)
