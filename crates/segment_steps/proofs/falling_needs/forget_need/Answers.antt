-- The frame is on top without its need.
use Rattle.step_contents.specs.Contents.{Contents, contents_of}
use Rattle.segment_steps.proofs.NeedsFall.{need_fell}
use Rattle.segment_steps.proofs.falling_needs.forget_need.Goals as goal

pub returns : goal.returns
returns g c = λ heaps own world shared k need ready x may is.
    let old : Contents = contents_of heaps (g.F.SegmentFrames.content c.args.frames.now) own in
    need_fell old world shared c.args.r may c.requires.top.0 c.requires.top.1 c.args.head.now c.requires.top.2 k need ready c.requires.plain
    (g.F.SegmentFrames.content c.go.new.self) (c.go.ensures c.requires.top.0 c.requires.top.1) x is
