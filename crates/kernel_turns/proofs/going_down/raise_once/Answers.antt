-- What is raised is caught in the segment, or leaves it.
use Rattle.std.proofs.Common.{suc}
use Rattle.kernel_parts.specs.SoundKernels.{KernelContent, kernel_machine, parts_of}
use Rattle.kernel_turns.specs.StepsOfThreads.{content_of}
use Rattle.kernel_turns.proofs.RaisedDown.{apart_there, came_down, caught_on, left_once, own_is, own_there, raise_be, raise_may, some_top, thrown_comes, thrown_down, thrown_lower}
use Rattle.kernel_turns.proofs.going_down.raise_once.Goals as goal

pub run_of-requires : goal.run_of-requires
run_of-requires g c =
    let k : KernelContent = content_of c.args.w.now c.args.owns.now.items c.args.shared.now (g.H.ObjectStore.content c.args.heap.now)
    (g.F.SegmentFrames.content c.args.frames.now) c.requires.may.0 in
    apart_there k c.args.t c.args.raise c.requires.may.1 c.requires.may.2

pub unreachable-requires : goal.unreachable-requires
unreachable-requires g c =
    let k : KernelContent = content_of c.args.w.now c.args.owns.now.items c.args.shared.now (g.H.ObjectStore.content c.args.heap.now)
    (g.F.SegmentFrames.content c.args.frames.now) c.requires.may.0 in
    some_top k c.args.t c.args.raise c.requires.may.1 c.requires.may.2 c.in_default.ensures.none

pub raise_in-requires-clause-may : goal.raise_in-requires-clause-may
raise_in-requires-clause-may g c =
    let k : KernelContent = content_of c.args.w.now c.args.owns.now.items c.args.shared.now (g.H.ObjectStore.content c.args.heap.now)
    (g.F.SegmentFrames.content c.args.frames.now) c.requires.may.0 in
    raise_may k c.args.t c.args.raise c.requires.may.1 c.requires.may.2 c.in-Some.running c.in-Some.ensures.some

pub raise_in-requires-clause-raise : goal.raise_in-requires-clause-raise
raise_in-requires-clause-raise g c =
    let k : KernelContent = content_of c.args.w.now c.args.owns.now.items c.args.shared.now (g.H.ObjectStore.content c.args.heap.now)
    (g.F.SegmentFrames.content c.args.frames.now) c.requires.may.0 in
    raise_be k c.args.t c.args.raise c.requires.may.1 c.requires.may.2 c.in-Some.running c.in-Some.ensures.some

pub raise_across-requires : goal.raise_across-requires
raise_across-requires g c =
    let k : KernelContent = content_of c.args.w.now c.args.owns.now.items c.args.shared.now (g.H.ObjectStore.content c.args.heap.now)
    (g.F.SegmentFrames.content c.args.frames.now) c.requires.may.0 in
    let x = c.in-Some.running in
    let is = c.in-Some.ensures.some in
    let w = c.raise_in.ensures (own_there k c.args.t c.args.raise c.requires.may.1 c.requires.may.2 is.segment is.is_top).own
    (own_is k c.args.t c.args.raise c.requires.may.1 c.requires.may.2 x is) in
    let down = came_down k c.args.t c.args.raise c.requires.may.1 c.requires.may.2 x is c.raise_in.new.owns.items w.0
    (g.H.ObjectStore.content c.raise_in.new.heap) (g.F.SegmentFrames.content c.raise_in.new.frames) c.raise_in.result w.1 w.2 w.3 in
    record { may = ((parts_of (record k { owns = c.raise_in.new.owns.items })).owns, down.left c.in-Left.a c.in-Left.is) }

pub returns-in-Left-clause-may : goal.returns-in-Left-clause-may
returns-in-Left-clause-may g c = λ main tidy can.
    let k : KernelContent = content_of c.args.w.now c.args.owns.now.items c.args.shared.now (g.H.ObjectStore.content c.args.heap.now)
    (g.F.SegmentFrames.content c.args.frames.now) main in
    let x = c.in-Some.running in
    let is = c.in-Some.ensures.some in
    let w = c.raise_in.ensures (own_there k c.args.t c.args.raise tidy can is.segment is.is_top).own
    (own_is k c.args.t c.args.raise tidy can x is) in
    let heap = g.H.ObjectStore.content c.raise_in.new.heap in
    let frames = g.F.SegmentFrames.content c.raise_in.new.frames in
    let down = came_down k c.args.t c.args.raise tidy can x is c.raise_in.new.owns.items w.0 heap frames c.raise_in.result w.1 w.2 w.3 in
    let mid : KernelContent = content_of c.args.w.now c.raise_in.new.owns.items c.args.shared.now heap frames main in
    let may = down.left c.in-Left.a c.in-Left.is in
    thrown_down mid c.args.t down.tidy c.raise_across.result c.raise_across.new.shared (g.H.ObjectStore.content c.raise_across.new.heap)
    (g.F.SegmentFrames.content c.raise_across.new.frames) (c.raise_across.ensures.fitting (parts_of mid).owns down.tidy.fitting)
    c.raise_across.ensures.stubs c.in-Left.a may (c.raise_across.ensures.answer (parts_of mid).owns may)

pub returns-in-Left-clause-comes : goal.returns-in-Left-clause-comes
returns-in-Left-clause-comes g c = λ main tidy can.
    let k : KernelContent = content_of c.args.w.now c.args.owns.now.items c.args.shared.now (g.H.ObjectStore.content c.args.heap.now)
    (g.F.SegmentFrames.content c.args.frames.now) main in
    let x = c.in-Some.running in
    let is = c.in-Some.ensures.some in
    let w = c.raise_in.ensures (own_there k c.args.t c.args.raise tidy can is.segment is.is_top).own
    (own_is k c.args.t c.args.raise tidy can x is) in
    let heap = g.H.ObjectStore.content c.raise_in.new.heap in
    let frames = g.F.SegmentFrames.content c.raise_in.new.frames in
    let down = came_down k c.args.t c.args.raise tidy can x is c.raise_in.new.owns.items w.0 heap frames c.raise_in.result w.1 w.2 w.3 in
    let mid : KernelContent = content_of c.args.w.now c.raise_in.new.owns.items c.args.shared.now heap frames main in
    let may = down.left c.in-Left.a c.in-Left.is in (
      1,
      λ n lines last comes.
          left_once (kernel_machine k) c.args.t c.args.raise n lines last
          (down.goes_down c.in-Left.a c.in-Left.is (suc n) lines last
          (thrown_comes mid c.args.t down.tidy c.raise_across.result c.raise_across.new.shared (g.H.ObjectStore.content c.raise_across.new.heap)
          (g.F.SegmentFrames.content c.raise_across.new.frames) (c.raise_across.ensures.fitting (parts_of mid).owns down.tidy.fitting)
          c.raise_across.ensures.stubs c.in-Left.a may (c.raise_across.ensures.answer (parts_of mid).owns may) n lines last comes)),
    )

pub returns-in-Left-clause-lower : goal.returns-in-Left-clause-lower
returns-in-Left-clause-lower g c = λ r same.
    let tidy = c.requires.may.1 in
    let can = c.requires.may.2 in
    let k : KernelContent = content_of c.args.w.now c.args.owns.now.items c.args.shared.now (g.H.ObjectStore.content c.args.heap.now)
    (g.F.SegmentFrames.content c.args.frames.now) c.requires.may.0 in
    let x = c.in-Some.running in
    let is = c.in-Some.ensures.some in
    let w = c.raise_in.ensures (own_there k c.args.t c.args.raise tidy can is.segment is.is_top).own
    (own_is k c.args.t c.args.raise tidy can x is) in
    let heap = g.H.ObjectStore.content c.raise_in.new.heap in
    let frames = g.F.SegmentFrames.content c.raise_in.new.frames in
    let down = came_down k c.args.t c.args.raise tidy can x is c.raise_in.new.owns.items w.0 heap frames c.raise_in.result w.1 w.2 w.3 in
    let mid : KernelContent = content_of c.args.w.now c.raise_in.new.owns.items c.args.shared.now heap frames c.requires.may.0 in
    let may = down.left c.in-Left.a c.in-Left.is in
    thrown_lower mid c.args.t down.tidy c.raise_across.result c.raise_across.new.shared (g.H.ObjectStore.content c.raise_across.new.heap)
    (g.F.SegmentFrames.content c.raise_across.new.frames) (c.raise_across.ensures.fitting (parts_of mid).owns down.tidy.fitting)
    c.raise_across.ensures.stubs c.in-Left.a may (c.raise_across.ensures.answer (parts_of mid).owns may) r same

pub returns-in_default-raise_in : goal.returns-in_default-raise_in
returns-in_default-raise_in g c = record {
  may = λ main tidy can.
      let k : KernelContent = content_of c.args.w.now c.args.owns.now.items c.args.shared.now (g.H.ObjectStore.content c.args.heap.now)
      (g.F.SegmentFrames.content c.args.frames.now) main in
      let x = c.in-Some.running in
      let is = c.in-Some.ensures.some in
      let w = c.raise_in.ensures (own_there k c.args.t c.args.raise tidy can is.segment is.is_top).own
      (own_is k c.args.t c.args.raise tidy can x is) in
      let heap = g.H.ObjectStore.content c.raise_in.new.heap in
      let frames = g.F.SegmentFrames.content c.raise_in.new.frames in
      let down = came_down k c.args.t c.args.raise tidy can x is c.raise_in.new.owns.items w.0 heap frames c.raise_in.result w.1 w.2 w.3 in
      (down.tidy, tt);
  comes = λ main tidy can.
      let k : KernelContent = content_of c.args.w.now c.args.owns.now.items c.args.shared.now (g.H.ObjectStore.content c.args.heap.now)
      (g.F.SegmentFrames.content c.args.frames.now) main in
      let x = c.in-Some.running in
      let is = c.in-Some.ensures.some in
      let w = c.raise_in.ensures (own_there k c.args.t c.args.raise tidy can is.segment is.is_top).own
      (own_is k c.args.t c.args.raise tidy can x is) in
      let heap = g.H.ObjectStore.content c.raise_in.new.heap in
      let frames = g.F.SegmentFrames.content c.raise_in.new.frames in
      let down = came_down k c.args.t c.args.raise tidy can x is c.raise_in.new.owns.items w.0 heap frames c.raise_in.result w.1 w.2 w.3 in
      let mid : KernelContent = content_of c.args.w.now c.raise_in.new.owns.items c.args.shared.now heap frames main in
      (0, λ n lines last comes. caught_on k mid c.args.t c.args.raise c.raise_in.result down c.in_default-raise_in.not-Left n lines last comes);
  lower = λ r same. cc;
}
