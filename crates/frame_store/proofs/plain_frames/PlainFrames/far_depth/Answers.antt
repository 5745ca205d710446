-- The segment is found in its domain.
use Rattle.frame_store.proofs.StoreChanges.{standing_there, found_slot}
use Rattle.frame_store.proofs.plain_frames.PlainFrames.far_depth.Goals as goal

pub find-slot-requires : goal.find-slot-requires
find-slot-requires c = standing_there _ _ _ c.args.s c.args.self.now.ok c.requires

pub depth-requires : goal.depth-requires
depth-requires c =
    let st = c.args.self.now in
    let x = c.find-slot.result.0.now in
    let i = c.find-slot.result.1 in
    let found = c.find-slot.ensures in
    found_slot _ _ _ c.args.s st.ok x i found
