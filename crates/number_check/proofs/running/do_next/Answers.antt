-- The instruction may be done here, and what it leaves fits again.
use Rattle.type_rows.specs.CodeViews.{scope_of}
use Rattle.number_check.specs.declared.stores.TheConstants.{SEGMENT}
use Rattle.number_check.proofs.FramesGoOn.{is_ready, leads_on}
use Rattle.number_check.proofs.running.do_next.Goals as goal

pub step-requires : goal.step-requires
step-requires g c =
    is_ready (g.F.SegmentFrames.content c.args.frames.now) c.args.world.now.classes SEGMENT (scope_of c.args.view.now) c.head-head.result
    c.instruction_at-i.result.now c.requires c.head-head.ensures c.instruction_at-i.ensures

pub returns : goal.returns
returns g c =
    leads_on (g.F.SegmentFrames.content c.args.frames.now) c.args.world.now.classes SEGMENT (scope_of c.args.view.now) c.head-head.result
    c.instruction_at-i.result.now c.requires c.head-head.ensures c.instruction_at-i.ensures c.rows_keep_types.ensures c.holds.ensures.ordered
    (g.F.SegmentFrames.content c.step.new.frames) c.step.result c.step.ensures
