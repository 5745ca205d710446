-- A free number and free blocks are those of the frame.
use Rattle.std.proofs.Common.{refl, arith}
use Rattle.frame_store.proofs.FrameIsAdded.{free_number, added_keeps, added_start, added_top, added_others}
use Rattle.frame_store.proofs.domain_frames.DomainFrames.add.Goals as goal

pub move_top-frame-requires-clause-some : goal.move_top-frame-requires-clause-some
move_top-frame-requires-clause-some c = free_number c.args.self.now (omega (arith, c.requires.cost, c.requires.room))

pub invariant_of-self : goal.invariant_of-self
invariant_of-self c =
    let d = c.args.self.now in
    let takes = c.take_blocks-lowest.ensures.takes in
    record {
      ok =
          added_keeps d c.move_top-frame.new.self c.take_blocks-lowest.new.parts c.take_blocks-lowest.new.values.items c.args.slot c.move_top-frame.result
          c.args.blocks c.args.head
          c.requires.slot c.requires.cost c.requires.room c.requires.small c.move_top-frame.ensures.moves takes;
    }

pub returns-clause-becomes : goal.returns-clause-becomes
returns-clause-becomes c =
    let d = c.args.self.now in
    let takes = c.take_blocks-lowest.ensures.takes in
    record {
      same_chunks = refl;
      same_slots = refl;
      becomes =
          added_top d c.move_top-frame.new.self c.take_blocks-lowest.new.parts c.take_blocks-lowest.new.values.items c.args.slot c.move_top-frame.result
          c.args.blocks c.args.head
          c.requires.slot c.requires.cost c.requires.room c.requires.small c.move_top-frame.ensures.moves takes;
      others =
          added_others d c.move_top-frame.new.self c.take_blocks-lowest.new.parts c.take_blocks-lowest.new.values.items c.args.slot c.move_top-frame.result
          c.args.blocks c.args.head
          c.requires.slot c.requires.cost c.requires.room c.requires.small c.move_top-frame.ensures.moves takes;
      uses = refl;
    }

pub returns-clause-starts : goal.returns-clause-starts
returns-clause-starts c =
    added_start c.args.self.now c.move_top-frame.new.self c.take_blocks-lowest.new.parts c.take_blocks-lowest.new.values.items c.args.slot
    c.move_top-frame.result
    c.args.blocks c.args.head c.requires.slot c.requires.cost c.requires.room c.requires.small c.move_top-frame.ensures.moves c.take_blocks-lowest.ensures.takes
