-- Where the frame goes on it fits again.
use Rattle.type_rows.specs.CodeViews.{scope_of}
use Rattle.number_check.specs.declared.stores.TheConstants.{SEGMENT}
use Rattle.number_check.proofs.FramesGoOn.{goes_on_running}
use Rattle.number_check.proofs.running.go_on.Goals as goal

pub loop-preserved : goal.loop-preserved
loop-preserved g c =
    goes_on_running (g.F.SegmentFrames.content c.do_next.new.frames) (g.F.SegmentFrames.content c.go.new.self) c.args.world.now.classes SEGMENT
    (scope_of c.args.view.now) c.in-Goto.place c.in-Goto.ensures c.go.ensures
