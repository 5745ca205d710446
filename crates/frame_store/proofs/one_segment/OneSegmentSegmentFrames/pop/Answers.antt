-- The top frame goes in its domain.
use Rattle.frame_store.proofs.LentCalls.{here_of, pops_off, right_if_there, stays}
use Rattle.frame_store.proofs.one_segment.OneSegmentSegmentFrames.pop.Goals as goal

pub invariant_of-self : goal.invariant_of-self
invariant_of-self g c =
    let one = c.args.self.now in
    let e = c.pop_top.ensures in
    let b = c.pop_top.new.c in
    record {
      right = right_if_there one.domain.now c.pop_top.new.self one.at b _ _ e.becomes one.right e.aims;
      stays = stays one.domain.now c.pop_top.new.self one.at b _ _ e.becomes _ e.aims.segment e.aims.place e.aims.domain one.stays;
    }

pub returns : goal.returns
returns g c =
    let one = c.args.self.now in
    let e = c.pop_top.ensures in
    pops_off one.domain.ghost_name one.domain.now c.pop_top.new.self one.at c.pop_top.new.c c.args._s e.aims.segment e.aims.place
    (here_of one.domain.ghost_name one.domain.now one.at c.args._s one.right c.requires.0 c.requires.1) one.right e.becomes c.requires
