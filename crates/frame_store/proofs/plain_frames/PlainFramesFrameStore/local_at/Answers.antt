-- The frame is found in its domain.
use Rattle.frame_store.proofs.StoreChanges.{standing_at, found_slot}
use Rattle.frame_store.proofs.StoreReads.{frame_low}
use Rattle.frame_store.proofs.plain_frames.PlainFramesFrameStore.local_at.Goals as goal

pub find-slot-requires : goal.find-slot-requires
find-slot-requires c = standing_at _ _ _ c.args.s c.args.self.now.ok c.requires.1.0 c.requires.1.1

pub frame-frame-requires-clause-slot : goal.frame-frame-requires-clause-slot
frame-frame-requires-clause-slot c =
    let st = c.args.self.now in
    let x = c.find-slot.result.0.now in
    let i = c.find-slot.result.1 in
    let found = c.find-slot.ensures in
    (found_slot _ _ _ c.args.s st.ok x i found).0

pub frame-frame-requires-clause-there : goal.frame-frame-requires-clause-there
frame-frame-requires-clause-there c =
    let st = c.args.self.now in
    let x = c.find-slot.result.0.now in
    let i = c.find-slot.result.1 in
    let found = c.find-slot.ensures in
    frame_low _ _ _ c.args.s st.ok x i found c.args.n c.requires.0 c.requires.1
