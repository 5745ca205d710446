-- The first ones rise, and what is kept after them too.
use Rattle.touched_locals.proofs.KeptMarks.{rising-below}
use Rattle.touched_locals.proofs.kept.with_named.Goals as goal

pub loop-n-init : goal.loop-n-init
loop-n-init c = record { rising = c.requires.rising; within = c.requires.count; all = c.requires.all }

pub loop-n-preserved : goal.loop-n-preserved
loop-n-preserved c =
    record {
      rising = c.in_ok-next.ensures.rising;
      within = c.in_ok-next.ensures.within;
      all = λ k less. c.in_ok-next.ensures.stay k k (c.loop-n.invariant.all k less);
    }

pub returns : goal.returns
returns c =
    let so = c.loop-n.invariant in
    record { rising = rising-below 0 c.loop-n.kept.items c.loop-n.next c.args.count so.rising so.within; firsts = so.all }
