-- The top frame gives back in the domain.
use Rattle.std.proofs.Common.{◌∙◌, ap}
use Rattle.frame_store.specs.FrameContents.{StoredSegment}
use Rattle.frame_store.proofs.LentCalls.{gives_back, is_segment, right_aimed, stays}
use Rattle.frame_store.proofs.one_segment.OneSegmentSegmentFrames.give_back.Goals as goal

pub invariant_of-self : goal.invariant_of-self
invariant_of-self g c =
    let one = c.args.self.now in
    let e = c.give_back.ensures in
    let b = c.give_back.new.c in
    let two = c.requires.2 in
    let same = is_segment one.domain.ghost_name one.domain.now one.at c.args._s c.requires.0 c.requires.1 in
    let becomes = e.gives two.lower two.below two.top (ap (λ (h : StoredSegment). h.frames) same.1 ∙ two.are) in
    record {
      right = right_aimed one.domain.now c.give_back.new.self one.at b _ _ becomes one.right e.aims;
      stays = stays one.domain.now c.give_back.new.self one.at b _ _ becomes _ e.aims.segment e.aims.place e.aims.domain one.stays;
    }

pub returns : goal.returns
returns g c =
    let one = c.args.self.now in
    let e = c.give_back.ensures in
    let same = is_segment one.domain.ghost_name one.domain.now one.at c.args._s c.requires.0 c.requires.1 in
    gives_back one.domain.ghost_name one.domain.now c.give_back.new.self one.at c.give_back.new.c c.args._s e.aims.segment e.aims.place same.0
    c.args.v e.gives
