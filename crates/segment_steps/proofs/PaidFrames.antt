-- The domain of a segment uses the chunks of its frames: so it is in each store, and so it stays where the frames become others.
use Rattle.std.proofs.Common.{◌≡◌, ◌≤◌, List, sym, subst, ◌∙◌, arith}
use Rattle.std.proofs.lemmas.Option.{same_Some}
use Rattle.jk_model.specs.declared.identifiers.SegmentNo.{SegmentNo}
use Rattle.jk_model_frames.specs.Frames.{FrameState, frames_chunks}
use Rattle.frame_store.specs.FrameContents.{FrameContent, IsContent, StoredSegment}
use Rattle.step_contents.specs.Contents.{Contents, FramesBecome, HasFrames, Here}
use Rattle.exception_unwind.proofs.FramesChanged.{segment_of}
use Rattle.segment_steps.specs.Returning.{PaysFrames}

pub paid_in_store : (c : FrameContent) → IsContent c → (s : SegmentNo) → PaysFrames c s
paid_in_store c holds s g there = (let all = (holds.owned s g there).1 in omega (arith, all))

pub paid_after : (old new : Contents) (here : Here) (before after : List FrameState) → HasFrames old here before
    → FramesBecome old new here before after → PaysFrames old.frames here.segment → PaysFrames new.frames here.segment
paid_after old new here before after has becomes paid g there =
    let all : frames_chunks before ≤ old.frames.used here.domain = paid (segment_of here.domain before) has in
    let now : frames_chunks after ≤ new.frames.used here.domain = omega (arith, all, becomes.chunks, becomes.changes.uses) in
    let same : segment_of here.domain after ≡ g = same_Some (segment_of here.domain after) g (sym becomes.changes.becomes ∙ there) in
    subst (λ (q : StoredSegment). frames_chunks q.frames ≤ new.frames.used q.domain) same now
