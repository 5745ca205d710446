-- The segment begins with the one frame, whose first local is set then.
use Rattle.kernel_openings.proofs.FirstSegments.{first_begun, first_local}
use Rattle.kernel_openings.proofs.first_segments.begin_segment.Goals as goal

pub set_local-requires : goal.set_local-requires
set_local-requires g c =
    first_local (g.F.SegmentFrames.content c.args.frames.now) (g.F.SegmentFrames.content c.begin.new.self) c.args.s c.args.d c.args.head
    c.requires.local c.in-Ok.ensures.ok

pub returns : goal.returns
returns g c =
    first_begun (g.F.SegmentFrames.content c.args.frames.now) (g.F.SegmentFrames.content c.begin.new.self) c.args.s c.args.d c.args.head
    c.requires.local c.in-Ok.ensures.ok c.args.array (g.F.SegmentFrames.content c.set_local.new.self) c.set_local.ensures
