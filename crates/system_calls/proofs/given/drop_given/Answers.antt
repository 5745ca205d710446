-- Each turn takes one more off.
use Rattle.std.proofs.Common.{◌≡◌, arith}
use Rattle.number_laws.proofs.FrameParts.{with_stack}
use Rattle.number_ops.proofs.TopFrames.{top_after}
use Rattle.number_ops.proofs.EntriesTaken.{all_taken, one_more_taken}
use Rattle.system_calls.proofs.GivenTaken.{more_there, none_taken}
use Rattle.system_calls.proofs.given.drop_given.Goals as goal

pub loop-i-init : goal.loop-i-init
loop-i-init g c = none_taken (g.F.SegmentFrames.content c.args.frames.now) c.args.s c.args.count c.requires

pub pop_value-entry-requires : goal.pop_value-entry-requires
pop_value-entry-requires g c =
    more_there (g.F.SegmentFrames.content c.args.frames.now) (g.F.SegmentFrames.content c.loop-i.frames) c.args.s c.args.count c.loop-i._i c.requires
    c.loop-i.invariant c.loop-i-test.true

pub loop-i-preserved : goal.loop-i-preserved
loop-i-preserved g c =
    let so_far = c.loop-i.invariant in
    one_more_taken (g.F.SegmentFrames.content c.args.frames.now) (g.F.SegmentFrames.content c.loop-i.frames) (g.F.SegmentFrames.content c.pop_value-entry.new.self)
    c.args.s c.loop-i._i c.pop_value-entry.result so_far
    (c.pop_value-entry.ensures (with_stack so_far.frame so_far.below)
    (top_after (g.F.SegmentFrames.content c.args.frames.now) (g.F.SegmentFrames.content c.loop-i.frames) c.args.s (with_stack so_far.frame so_far.below)
    so_far.sets))

pub returns : goal.returns
returns g c =
    let end : c.loop-i._i ≡ c.args.count = omega (arith, c.loop-i-test.false, c.loop-i.auto._i-end) in
    all_taken (g.F.SegmentFrames.content c.args.frames.now) (g.F.SegmentFrames.content c.loop-i.frames) c.args.s c.args.count c.loop-i._i c.loop-i.invariant end
