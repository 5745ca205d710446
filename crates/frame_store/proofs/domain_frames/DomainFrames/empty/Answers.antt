-- One frame is off.
use Rattle.std.proofs.Common.{◌≡◌, ◌<◌, ◌-◌, ℕ, List, length, ap, arith}
use Rattle.jk_model_frames.specs.Frames.{FrameState}
use Rattle.frame_store.specs.declared.domain_frames.DomainFrames.{DomainFrames}
use Rattle.number_table.specs.ChainMoves.{place}
use Rattle.frame_store.specs.DomainMoves.{depth_of, frames_of, lower_of, value_at}
use Rattle.frame_store.specs.Builds.{length-build}
use Rattle.frame_store.proofs.TopIsWritten.{top_cost_le}
use Rattle.frame_store.proofs.SegmentIsEmptied.{one_off}
use Rattle.frame_store.proofs.domain_frames.DomainFrames.empty.Goals as goal

depth_falls : (d new : DomainFrames) (i : ℕ) → 0 < depth_of d i → frames_of new i ≡ lower_of d i → depth_of new i < depth_of d i
depth_falls d new i some e =
    let a : length (frames_of new i) ≡ length (lower_of d i) = ap (λ (xs : List FrameState). length xs) e in
    let b = length-build (λ k. value_at new (place new.frames i k)) (depth_of new i) in
    let c = length-build (λ k. value_at d (place d.frames i k)) (depth_of d i - 1) in
    omega arith

pub loop-self-smaller : goal.loop-self-smaller
loop-self-smaller c =
    depth_falls c.loop-self.self c.pop.new.self c.args.slot (omega (arith, c.loop-self-test.true, c.count.ensures)) c.pop.ensures.becomes

pub loop-self-preserved : goal.loop-self-preserved
loop-self-preserved c =
    let d = c.loop-self.self in
    let i = c.args.slot in
    let part = c.loop-self.invariant in
    one_off c.args.self.now d c.pop.new.self i part (omega (arith, part.within, part.same_chunks), omega (arith, c.loop-self-test.true, c.count.ensures))
    (top_cost_le d i (omega (arith, part.within, part.same_chunks), omega (arith, c.loop-self-test.true, c.count.ensures))) c.pop.ensures
