-- What is raised goes down, segment after segment.
use Rattle.std.proofs.Common.{◌+◌, List, [], Ok, refl, sym, subst}
use Rattle.std.proofs.lemmas.List.{append-nil}
use Rattle.jk_model.specs.declared.output.Line.{Line}
use Rattle.jk_outside.specs.declared.sinks.SinkFailed.{SinkFailed}
use Rattle.domain_crossing.specs.declared.answers.Left.{Left}
use Rattle.kernel_events.specs.PrintedLines.{Prints}
use Rattle.kernel_parts.specs.SoundKernels.{KernelContent, kernel_machine}
use Rattle.kernel_turns.specs.GoingDown.{ComesOf, MayGoDown}
use Rattle.kernel_turns.specs.StepsOfThreads.{content_of, sink_state}
use Rattle.kernel_turns.proofs.ThreadsGoDown.{IsFarDown, comes_done, none_down, one_down, told_well}
use Rattle.kernel_turns.proofs.going_down.go_down.Goals as goal

-- a call that was delivered says nothing and changes nothing
pub returns-in-Delivered : goal.returns-in-Delivered
returns-in-Delivered g c = (
  [],
  λ from before h.
      subst
      (λ (ls : List Line). Prints {E = SinkFailed} from
      (sink_state (g.S.Sink.bytes c.args.out.now) (g.S.Sink.pieces c.args.out.now) (g.S.Sink.faults c.args.out.now)) (Ok tt) ls)
      (sym (append-nil before)) h,
  λ main may.
      let k : KernelContent = content_of c.args.w.now c.args.owns.now.items c.args.shared.now (g.H.ObjectStore.content c.args.heap.now)
      (g.F.SegmentFrames.content c.args.frames.now) main in (
        may.0,
        (0, subst (λ (left : Left). ComesOf (kernel_machine k) c.args.t left 0 [] (kernel_machine k)) (sym c.in-Delivered.is) (refl, refl, refl)),
      ),
)

pub loop-left-init : goal.loop-left-init
loop-left-init g c = λ main.
    none_down (content_of c.args.w.now c.args.owns.now.items c.args.shared.now (g.H.ObjectStore.content c.args.heap.now)
    (g.F.SegmentFrames.content c.args.frames.now) main) c.args.t c.args.left

pub raise_once-left-requires : goal.raise_once-left-requires
raise_once-left-requires g c =
    let main = c.requires.may.0 in
    let now : KernelContent = content_of c.args.w.now c.loop-left.owns.items c.loop-left.shared (g.H.ObjectStore.content c.loop-left.heap)
    (g.F.SegmentFrames.content c.loop-left.frames) main in
    let may = subst (MayGoDown now c.args.t) c.in-Raised.is ((c.loop-left.invariant main).may c.requires.may.1) in
    record { may = (main, may.0, may.1) }

pub loop-left-preserved : goal.loop-left-preserved
loop-left-preserved g c = λ main.
    let first : KernelContent = content_of c.args.w.now c.args.owns.now.items c.args.shared.now (g.H.ObjectStore.content c.args.heap.now)
    (g.F.SegmentFrames.content c.args.frames.now) main in
    let now : KernelContent = content_of c.args.w.now c.loop-left.owns.items c.loop-left.shared (g.H.ObjectStore.content c.loop-left.heap)
    (g.F.SegmentFrames.content c.loop-left.frames) main in
    let then : KernelContent = content_of c.args.w.now c.raise_once-left.new.owns.items c.raise_once-left.new.shared
    (g.H.ObjectStore.content c.raise_once-left.new.heap) (g.F.SegmentFrames.content c.raise_once-left.new.frames) main in
    let far = subst (IsFarDown first c.args.t c.args.left now) c.in-Raised.is (c.loop-left.invariant main) in
    one_down first now then c.args.t c.args.left c.in-Raised.raise c.raise_once-left.result far
    (λ h. c.raise_once-left.ensures.may main h.0 h.1) (λ h. c.raise_once-left.ensures.comes main h.0 h.1)

pub tell-requires : goal.tell-requires
tell-requires g c =
    let main = c.requires.may.0 in
    let now : KernelContent = content_of c.args.w.now c.loop-left.owns.items c.loop-left.shared (g.H.ObjectStore.content c.loop-left.heap)
    (g.F.SegmentFrames.content c.loop-left.frames) main in
    told_well now c.args.t c.loop-left.left ((c.loop-left.invariant main).may c.requires.may.1)

pub returns : goal.returns
returns g c =
    let said = c.tell.ensures in (
      said.0,
      said.1,
      λ main may.
          let now : KernelContent = content_of c.args.w.now c.loop-left.owns.items c.loop-left.shared (g.H.ObjectStore.content c.loop-left.heap)
          (g.F.SegmentFrames.content c.loop-left.frames) main in
          let far = c.loop-left.invariant main in (
            (far.may may).0,
            (far.done may + 0, far.comes may 0 said.0 (kernel_machine now) (comes_done now c.args.t c.loop-left.left said.0 c.in_default-left.not-Raised said.2)),
          ),
    )
