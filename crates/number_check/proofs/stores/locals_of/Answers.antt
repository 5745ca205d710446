-- All locals are read.
use Rattle.number_check.specs.declared.stores.TheConstants.{SEGMENT}
use Rattle.number_check.proofs.LocalsRead.{all_locals, has_local, one_more_local}
use Rattle.number_check.proofs.stores.locals_of.Goals as goal

pub local-requires : goal.local-requires
local-requires g c =
    has_local (g.F.SegmentFrames.content c.args.frames.now) SEGMENT c.head-head.result (g.met.F.FrameStore.holds c.args.frames.now) c.head-head.ensures
    c.loop-i.i c.requires c.loop-i-test.true

pub loop-i-preserved : goal.loop-i-preserved
loop-i-preserved g c =
    one_more_local (g.F.SegmentFrames.content c.args.frames.now) SEGMENT c.head-head.result (g.met.F.FrameStore.holds c.args.frames.now)
    c.head-head.ensures c.loop-i.i c.local.result c.loop-i.values _ c.local.ensures c.loop-i.invariant c.in_ok-push.ensures.ok

pub returns : goal.returns
returns g c =
    all_locals (g.F.SegmentFrames.content c.args.frames.now) SEGMENT c.head-head.result (g.met.F.FrameStore.holds c.args.frames.now) c.head-head.ensures
    c.loop-i.i c.loop-i.values c.loop-i.invariant c.loop-i-test.false
