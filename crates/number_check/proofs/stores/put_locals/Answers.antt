-- Each value has a local, and where it is put there the frame is still as it began.
use Rattle.std.proofs.Common.{arith}
use Rattle.number_check.specs.declared.stores.TheConstants.{SEGMENT}
use Rattle.number_check.proofs.FramesBegin.{local_of_begun, still_begun}
use Rattle.number_check.proofs.stores.put_locals.Goals as goal

pub set_local-requires : goal.set_local-requires
set_local-requires g c =
    local_of_begun (g.F.SegmentFrames.content c.loop-i.frames) SEGMENT c.args.head _ (g.met.F.FrameStore.holds c.loop-i.frames) c.loop-i.invariant (omega arith)

pub loop-i-preserved : goal.loop-i-preserved
loop-i-preserved g c =
    still_begun (g.F.SegmentFrames.content c.loop-i.frames) (g.F.SegmentFrames.content c.set_local.new.self) SEGMENT c.args.head _ _ c.loop-i.invariant
    c.set_local.ensures
