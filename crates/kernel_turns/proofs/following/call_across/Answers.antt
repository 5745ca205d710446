-- A call enters, or is refused.
use Rattle.std.proofs.Common.{subst}
use Rattle.domain_crossing.specs.Crossings.{CrossesSo}
use Rattle.domain_crossing.specs.declared.answers.Crossed.{Crossed}
use Rattle.machine_parts.specs.MachineParts.{machine_of}
use Rattle.kernel_turns.specs.GoingDown.{parts_so}
use Rattle.kernel_turns.proofs.following.call_across.Goals as goal

pub returns-in-Entered-clause-entered : goal.returns-in-Entered-clause-entered
returns-in-Entered-clause-entered g c = λ owns may.
    subst
    (λ (x : Crossed). CrossesSo may.call x
    (machine_of (parts_so c.args.w.now owns c.enter.new.shared (g.H.ObjectStore.content c.enter.new.heap) (g.F.SegmentFrames.content c.enter.new.frames))))
    c.in-Entered.is (c.enter.ensures.answer owns may)

pub returns-in-Refused-clause-entered : goal.returns-in-Refused-clause-entered
returns-in-Refused-clause-entered g c = λ owns may.
    subst
    (λ (x : Crossed). CrossesSo may.call x
    (machine_of (parts_so c.args.w.now owns c.enter.new.shared (g.H.ObjectStore.content c.enter.new.heap) (g.F.SegmentFrames.content c.enter.new.frames))))
    c.in-Refused.is (c.enter.ensures.answer owns may)
