-- What follows is what the calls say.
use Rattle.std.proofs.Common.{◌≡◌, suc, List, [], Ok, append-nil, refl, sym, subst}
use Rattle.jk_model.specs.declared.identifiers.DomainId.{DomainId}
use Rattle.jk_model.specs.declared.identifiers.ThreadNo.{ThreadNo}
use Rattle.jk_model.specs.declared.output.Line.{Line}
use Rattle.jk_model_machine_state.specs.Machines.{DomainState}
use Rattle.jk_model_machine_state.specs.Places.{LiveDomain, RunningSegment}
use Rattle.jk_model_crossings.specs.DomainEnds.{Terminates}
use Rattle.jk_outside.specs.declared.sinks.SinkFailed.{SinkFailed}
use Rattle.kernel_events.specs.PrintedLines.{Prints}
use Rattle.segment_steps.specs.declared.went.Went.{Went}
use Rattle.kernel_parts.specs.SoundKernels.{KernelContent, kernel_machine, parts_of}
use Rattle.kernel_turns.specs.SteppedParts.{Follows, MayFollow}
use Rattle.kernel_turns.specs.StepsOfThreads.{content_of, sink_state}
use Rattle.kernel_turns.proofs.LeftBelow.{called_so, calls_on}
use Rattle.kernel_turns.proofs.RaisedDown.{returned_comes, returned_down, thrown_comes, thrown_down, tidy_left}
use Rattle.kernel_turns.proofs.following.follow.Goals as goal

pub go_down-requires : goal.go_down-requires
go_down-requires g c =
    let k : KernelContent = content_of c.args.w.now c.args.owns.now.items c.args.shared.now (g.H.ObjectStore.content c.args.heap.now)
    (g.F.SegmentFrames.content c.args.frames.now) c.requires.may.0 in
    let h = subst (MayFollow k c.args.r) c.in-Returned.is c.requires.may.1 in
    record {
      may = (
        c.requires.may.0,
        returned_down k c.args.r.thread h.0 c.leave-left.result c.leave-left.new.shared (g.H.ObjectStore.content c.leave-left.new.heap)
            (g.F.SegmentFrames.content c.leave-left.new.frames) (c.leave-left.ensures.fitting (parts_of k).owns h.0.fitting) c.leave-left.ensures.stubs
            c.in-Returned.v h.1
            (c.leave-left.ensures.answer (parts_of k).owns h.1),
      );
    }

pub returns-in-Returned : goal.returns-in-Returned
returns-in-Returned g c =
    let on = c.go_down.ensures in (
      on.0,
      on.1,
      λ main may.
          let k : KernelContent = content_of c.args.w.now c.args.owns.now.items c.args.shared.now (g.H.ObjectStore.content c.args.heap.now)
          (g.F.SegmentFrames.content c.args.frames.now) main in
          let h = subst (MayFollow k c.args.r) c.in-Returned.is may in
          let done = on.2 main (returned_down k c.args.r.thread h.0 c.leave-left.result c.leave-left.new.shared (g.H.ObjectStore.content c.leave-left.new.heap)
          (g.F.SegmentFrames.content c.leave-left.new.frames) (c.leave-left.ensures.fitting (parts_of k).owns h.0.fitting) c.leave-left.ensures.stubs
          c.in-Returned.v h.1
          (c.leave-left.ensures.answer (parts_of k).owns h.1)) in
          let new : KernelContent = content_of c.args.w.now c.go_down.new.owns.items c.go_down.new.shared
          (g.H.ObjectStore.content c.go_down.new.heap) (g.F.SegmentFrames.content c.go_down.new.frames) main in
          subst (λ (went : Went). Follows k c.args.r.thread went on.0 new) (sym c.in-Returned.is) (
            suc done.1.0,
            returned_comes k c.args.r.thread h.0 c.leave-left.result c.leave-left.new.shared (g.H.ObjectStore.content c.leave-left.new.heap)
                (g.F.SegmentFrames.content c.leave-left.new.frames) (c.leave-left.ensures.fitting (parts_of k).owns h.0.fitting) c.leave-left.ensures.stubs
                c.in-Returned.v h.1
                (c.leave-left.ensures.answer (parts_of k).owns h.1) done.1.0 on.0 (kernel_machine new) done.1.1,
            done.0,
          ),
    )

pub go_down-requires-in-Left : goal.go_down-requires-in-Left
go_down-requires-in-Left g c =
    let k : KernelContent = content_of c.args.w.now c.args.owns.now.items c.args.shared.now (g.H.ObjectStore.content c.args.heap.now)
    (g.F.SegmentFrames.content c.args.frames.now) c.requires.may.0 in
    let h = subst (MayFollow k c.args.r) c.in-Left.is c.requires.may.1 in
    record {
      may = (
        c.requires.may.0,
        thrown_down k c.args.r.thread h.0 c.raise_across-left.result c.raise_across-left.new.shared (g.H.ObjectStore.content c.raise_across-left.new.heap)
            (g.F.SegmentFrames.content c.raise_across-left.new.frames) (c.raise_across-left.ensures.fitting (parts_of k).owns h.0.fitting)
            c.raise_across-left.ensures.stubs c.in-Left.a h.1
            (c.raise_across-left.ensures.answer (parts_of k).owns h.1),
      );
    }

pub returns-in-Left : goal.returns-in-Left
returns-in-Left g c =
    let on = c.go_down-in-Left.ensures in (
      on.0,
      on.1,
      λ main may.
          let k : KernelContent = content_of c.args.w.now c.args.owns.now.items c.args.shared.now (g.H.ObjectStore.content c.args.heap.now)
          (g.F.SegmentFrames.content c.args.frames.now) main in
          let h = subst (MayFollow k c.args.r) c.in-Left.is may in
          let done = on.2 main (thrown_down k c.args.r.thread h.0 c.raise_across-left.result c.raise_across-left.new.shared
          (g.H.ObjectStore.content c.raise_across-left.new.heap)
          (g.F.SegmentFrames.content c.raise_across-left.new.frames) (c.raise_across-left.ensures.fitting (parts_of k).owns h.0.fitting)
          c.raise_across-left.ensures.stubs c.in-Left.a h.1
          (c.raise_across-left.ensures.answer (parts_of k).owns h.1)) in
          let new : KernelContent = content_of c.args.w.now c.go_down-in-Left.new.owns.items c.go_down-in-Left.new.shared
          (g.H.ObjectStore.content c.go_down-in-Left.new.heap) (g.F.SegmentFrames.content c.go_down-in-Left.new.frames) main in
          subst (λ (went : Went). Follows k c.args.r.thread went on.0 new) (sym c.in-Left.is) (
            suc done.1.0,
            thrown_comes k c.args.r.thread h.0 c.raise_across-left.result c.raise_across-left.new.shared (g.H.ObjectStore.content c.raise_across-left.new.heap)
                (g.F.SegmentFrames.content c.raise_across-left.new.frames) (c.raise_across-left.ensures.fitting (parts_of k).owns h.0.fitting)
                c.raise_across-left.ensures.stubs c.in-Left.a h.1
                (c.raise_across-left.ensures.answer (parts_of k).owns h.1) done.1.0 on.0 (kernel_machine new) done.1.1,
            done.0,
          ),
    )

pub go_down-requires-in-Crosses : goal.go_down-requires-in-Crosses
go_down-requires-in-Crosses g c =
    let k : KernelContent = content_of c.args.w.now c.args.owns.now.items c.args.shared.now (g.H.ObjectStore.content c.args.heap.now)
    (g.F.SegmentFrames.content c.args.frames.now) c.requires.may.0 in
    let h = subst (MayFollow k c.args.r) c.in-Crosses.is c.requires.may.1 in
    record {
      may = (
        c.requires.may.0,
        (
          tidy_left k c.call_across-left.new.shared (g.H.ObjectStore.content c.call_across-left.new.heap)
              (g.F.SegmentFrames.content c.call_across-left.new.frames) h.0
              (c.call_across-left.ensures.fitting (parts_of k).owns h.0.fitting) c.call_across-left.ensures.stubs,
          called_so (kernel_machine k) c.args.r.thread h.1.call h.1.cross.sealed h.1.cross.sound c.call_across-left.result
              (kernel_machine (record k {
                shared = c.call_across-left.new.shared;
                heap = g.H.ObjectStore.content c.call_across-left.new.heap;
                frames = g.F.SegmentFrames.content c.call_across-left.new.frames;
              }))
              (c.call_across-left.ensures.entered (parts_of k).owns h.1),
        ),
      );
    }

pub returns-in-Crosses : goal.returns-in-Crosses
returns-in-Crosses g c =
    let on = c.go_down-in-Crosses.ensures in (
      on.0,
      on.1,
      λ main may.
          let k : KernelContent = content_of c.args.w.now c.args.owns.now.items c.args.shared.now (g.H.ObjectStore.content c.args.heap.now)
          (g.F.SegmentFrames.content c.args.frames.now) main in
          let h = subst (MayFollow k c.args.r) c.in-Crosses.is may in
          let done = on.2 main (
            tidy_left k c.call_across-left.new.shared (g.H.ObjectStore.content c.call_across-left.new.heap)
                (g.F.SegmentFrames.content c.call_across-left.new.frames) h.0
                (c.call_across-left.ensures.fitting (parts_of k).owns h.0.fitting) c.call_across-left.ensures.stubs,
            called_so (kernel_machine k) c.args.r.thread h.1.call h.1.cross.sealed h.1.cross.sound c.call_across-left.result
                (kernel_machine (record k {
                  shared = c.call_across-left.new.shared;
                  heap = g.H.ObjectStore.content c.call_across-left.new.heap;
                  frames = g.F.SegmentFrames.content c.call_across-left.new.frames;
                }))
                (c.call_across-left.ensures.entered (parts_of k).owns h.1),
          ) in
          let new : KernelContent = content_of c.args.w.now c.go_down-in-Crosses.new.owns.items c.go_down-in-Crosses.new.shared
          (g.H.ObjectStore.content c.go_down-in-Crosses.new.heap) (g.F.SegmentFrames.content c.go_down-in-Crosses.new.frames) main in
          let mid : KernelContent = record k {
            shared = c.call_across-left.new.shared;
            heap = g.H.ObjectStore.content c.call_across-left.new.heap;
            frames = g.F.SegmentFrames.content c.call_across-left.new.frames;
          } in
          let deed = calls_on (kernel_machine k) c.args.r.thread h.1.call c.in-Crosses.k c.in-Crosses.method h.1.capability h.1.is_method
          c.call_across-left.result
          (kernel_machine mid) (c.call_across-left.ensures.entered (parts_of k).owns h.1) done.1.0 on.0 (kernel_machine new) done.1.1 in
          subst (λ (went : Went). Follows k c.args.r.thread went on.0 new) (sym c.in-Crosses.is) (deed.0, deed.1, done.0),
    )

-- the domain of the segment that runs lives
lives : (k : KernelContent) (d : DomainId) (t : ThreadNo) (p : RunningSegment (kernel_machine k) t) → p.segment.shared.domain ≡ d
    → (l : LiveDomain (kernel_machine k) d) × (l.domain ≡ p.home.domain)
lives k d t p is =
    subst (λ (x : DomainId). (l : LiveDomain (kernel_machine k) x) × (l.domain ≡ p.home.domain)) is (
      record {
        domain = p.home.domain;
        is_domain = p.home.is_domain;
        numbered = p.home.numbered;
        inside = p.home.inside;
        is_inside = p.home.is_inside;
      },
      refl,
    )

pub returns-in-Terminates : goal.returns-in-Terminates
returns-in-Terminates g c =
    let on = c.end_domain.ensures.event in (
      on.0,
      on.2,
      λ main may.
          let k : KernelContent = content_of c.args.w.now c.args.owns.now.items c.args.shared.now (g.H.ObjectStore.content c.args.heap.now)
          (g.F.SegmentFrames.content c.args.frames.now) main in
          let h = subst (MayFollow k c.args.r) c.in-Terminates.is may in
          let at = lives k c.args.r.domain c.args.r.thread h.1.0 h.1.1 in
          let new : KernelContent = content_of c.end_domain.new.w c.end_domain.new.owns.items c.end_domain.new.shared
          (g.H.ObjectStore.content c.end_domain.new.heap) (g.F.SegmentFrames.content c.end_domain.new.frames) main in
          subst (λ (went : Went). Follows k c.args.r.thread went on.0 new) (sym c.in-Terminates.is) (
            h.1.0,
            subst (λ (d : DomainState). Terminates (kernel_machine k) d on.0 (kernel_machine new)) at.1 (on.3 main at.0 h.0.fitting),
            c.end_domain.ensures.tidy main h.0,
          ),
    )

pub returns-in-GoesOn : goal.returns-in-GoesOn
returns-in-GoesOn g c = (
  [],
  λ from before h.
      subst
      (λ (ls : List Line). Prints {E = SinkFailed} from
      (sink_state (g.S.Sink.bytes c.args.out.now) (g.S.Sink.pieces c.args.out.now) (g.S.Sink.faults c.args.out.now)) (Ok tt) ls)
      (sym (append-nil before)) h,
  λ main may.
      let k : KernelContent = content_of c.args.w.now c.args.owns.now.items c.args.shared.now (g.H.ObjectStore.content c.args.heap.now)
      (g.F.SegmentFrames.content c.args.frames.now) main in
      subst (λ (went : Went). Follows k c.args.r.thread went [] k) (sym c.in-GoesOn.is) (refl, refl),
)
