-- A second is found, or there is none.
use Rattle.std.proofs.Common.{arith}
use Rattle.list_lemmas.proofs.AnswersTold.{not_so as is_not}
use Rattle.class_rules.specs.Attributes.{IsCalledBy}
use Rattle.class_rules.proofs.TwoItems.{seen_none, still_seen, first_seen, second_seen, seen_at_end}
use Rattle.class_rules.proofs.attributes.two_called.Goals as goal
use Rattle.class_rules.proofs.attributes.two_called.Goals.{then-is_called+else-seen, else-is_called}

pub loop-a-init : goal.loop-a-init
loop-a-init c = seen_none (IsCalledBy c.args.pool.now.entries.now c.args.word) c.args.attributes.now

pub loop-a-preserved : goal.loop-a-preserved
loop-a-preserved c =
    elim c.if-is_called.branch [
      | then-is_called+else-seen w ↦
          first_seen c.loop-a.seen c.if-is_called.seen (IsCalledBy c.args.pool.now.entries.now c.args.word)
          c.args.attributes.now c.loop-a.a-index c.a-item.result
          w.if-seen.false w.seen-is c.loop-a-test.true c.a-item.is (c.is_called.ensures.0 w.if-is_called.true) c.loop-a.invariant
      | else-is_called w ↦
          still_seen c.loop-a.seen c.if-is_called.seen (IsCalledBy c.args.pool.now.entries.now c.args.word)
          c.args.attributes.now c.loop-a.a-index c.a-item.result
          w.seen-is c.loop-a-test.true c.a-item.is (is_not c.is_called.result _ c.is_called.ensures w.if-is_called.false) c.loop-a.invariant
    ]

pub returns-then-seen : goal.returns-then-seen
returns-then-seen c =
    second_seen c.loop-a.seen (IsCalledBy c.args.pool.now.entries.now c.args.word) c.args.attributes.now c.loop-a.a-index c.a-item.result c.if-seen.true
    c.loop-a-test.true c.a-item.is (c.is_called.ensures.0 c.if-is_called.true) c.loop-a.invariant

pub returns : goal.returns
returns c = seen_at_end c.loop-a.seen (IsCalledBy c.args.pool.now.entries.now c.args.word)
    c.args.attributes.now c.loop-a.a-index (omega arith) c.loop-a.invariant
