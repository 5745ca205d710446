-- Where it comes after all, it is one more.
use Rattle.std.proofs.Common.{◌+◌, refl, arith}
use Rattle.touched_locals.proofs.KeptMarks.{rising-pushed, stays-pushed}
use Rattle.touched_locals.proofs.kept.keep.Goals as goal

pub returns-in_ok-push-clause-rising : goal.returns-in_ok-push-clause-rising
returns-in_ok-push-clause-rising c =
    rising-pushed c.args.kept.now.items c.push.new.self.items c.args.next c.args.local (c.args.local + 1) c.requires.rising (omega arith)
    c.in_ok-push.ensures.items refl

pub returns-in_ok-push-clause-stay : goal.returns-in_ok-push-clause-stay
returns-in_ok-push-clause-stay c = stays-pushed c.args.kept.now.items c.push.new.self.items c.args.local c.in_ok-push.ensures.items
