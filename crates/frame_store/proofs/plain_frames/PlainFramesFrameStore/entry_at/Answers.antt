-- The frame is found in its domain.
use Rattle.std.proofs.Common.{◌∙◌, slice_get, sym, ap}
use Rattle.jk_model_frames.specs.Frames.{FrameState}
use Rattle.frame_store.specs.DomainMoves.{value_at}
use Rattle.frame_store.proofs.StoreChanges.{standing_at, found_slot}
use Rattle.frame_store.proofs.StoreReads.{frame_low, get_past, frame_is, index_below}
use Rattle.frame_store.proofs.plain_frames.PlainFramesFrameStore.entry_at.Goals as goal

pub find-slot-requires : goal.find-slot-requires
find-slot-requires c = standing_at _ _ _ c.args.s c.args.self.now.ok c.requires.1.0 c.requires.1.1

pub frame-frame-requires-clause-slot : goal.frame-frame-requires-clause-slot
frame-frame-requires-clause-slot c =
    let st = c.args.self.now in
    let x = c.find-slot.result.0.now in
    let i = c.find-slot.result.1 in
    let found = c.find-slot.ensures in
    (found_slot _ _ _ c.args.s st.ok x i found).0

pub frame-frame-requires-clause-there : goal.frame-frame-requires-clause-there
frame-frame-requires-clause-there c =
    let st = c.args.self.now in
    let x = c.find-slot.result.0.now in
    let i = c.find-slot.result.1 in
    let found = c.find-slot.ensures in
    frame_low _ _ _ c.args.s st.ok x i found c.args.n c.requires.0 c.requires.1

pub returns-else-i-height : goal.returns-else-i-height
returns-else-i-height c =
    let st = c.args.self.now in
    let x = c.find-slot.result.0.now in
    let i = c.find-slot.result.1 in
    let found = c.find-slot.ensures in
    λ f at.
    let same = frame_is _ _ _ c.args.s st.ok x i found c.args.n f at (value_at x c.frame-frame.result) c.frame-frame.ensures.frame in
    sym (ap (λ (g : FrameState). slice_get g.stack c.args.i) same ∙ get_past (value_at x c.frame-frame.result).stack c.args.i
    (index_below _ _ _ c.height.ensures c.if-i-height.false))
