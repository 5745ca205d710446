-- One local more.
use Rattle.std.proofs.Common.{◌+◌, refl, arith}
use Rattle.touched_locals.proofs.KeptMarks.{long-pushed, next-pushed, rising-pushed}
use Rattle.touched_locals.proofs.kept.first_locals.Goals as goal

pub loop-n-preserved : goal.loop-n-preserved
loop-n-preserved c =
    let so = c.loop-n.invariant in
    let pushed = c.in_ok-push.ensures.items in
    record {
      many = long-pushed c.loop-n.kept.items c.push.new.self.items c.loop-n.n (c.loop-n.n + 1) so.many pushed refl;
      rising = rising-pushed c.loop-n.kept.items c.push.new.self.items c.loop-n.n c.loop-n.n (c.loop-n.n + 1) so.rising (omega arith) pushed refl;
      all = next-pushed c.loop-n.kept.items c.push.new.self.items c.loop-n.n (c.loop-n.n + 1) so.many so.all pushed refl;
    }
