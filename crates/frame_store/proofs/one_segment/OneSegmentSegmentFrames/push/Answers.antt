-- A frame is pushed in the domain.
use Rattle.frame_store.proofs.LentCalls.{right_aimed, stays}
use Rattle.frame_store.proofs.one_segment.OneSegmentSegmentFrames.push.Goals as goal

pub invariant_of-self-2 : goal.invariant_of-self-2
invariant_of-self-2 g c =
    let one = c.args.self.now in
    let e = c.push_top.ensures in
    let b = c.push_top.new.c in
    record {
      right = right_aimed one.domain.now c.push_top.new.self one.at b _ _ e.becomes one.right e.aims;
      stays = stays one.domain.now c.push_top.new.self one.at b _ _ e.becomes _ e.aims.segment e.aims.place e.aims.domain one.stays;
    }
