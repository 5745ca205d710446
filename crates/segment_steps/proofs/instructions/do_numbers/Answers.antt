-- By what is answered.
use Rattle.step_contents.specs.Contents.{Contents, contents_of, here_at}
use Rattle.step_contents.specs.StandingFrames.{place_of}
use Rattle.step_contents.proofs.InstructionsBegin.{is_some_setting, some_setting}
use Rattle.std.proofs.Common.{refl}
use Rattle.number_laws.specs.FrameLaws.{with_head}
use Rattle.segment_steps.proofs.NumbersBegin.{numbers_ready}
use Rattle.segment_steps.proofs.NumbersDone.{nothing_else}
use Rattle.segment_steps.proofs.NumbersFollowed.{given_back, head_is, may_be_raised, raised, raising, returning, w, went_on}
use Rattle.segment_steps.proofs.PaidFrames.{paid_in_store}
use Rattle.segment_steps.proofs.StandingHere.{may_do}
use Rattle.segment_steps.proofs.instructions.do_numbers.Goals as goal

pub step-requires : goal.step-requires
step-requires g c =
    let old : Contents = contents_of (g.H.ObjectStore.content c.args.heap.now) (g.F.SegmentFrames.content c.args.frames.now) c.args.own.now in
    numbers_ready (may_do old c.args.w.now c.requires.may.0 c.args.r (place_of c.args.at.now) c.requires.stands c.requires.may.1) c.requires.kind

pub raise_here-requires-clause-may : goal.raise_here-requires-clause-may
raise_here-requires-clause-may g c =
    let old : Contents = contents_of (g.H.ObjectStore.content c.args.heap.now) (g.F.SegmentFrames.content c.args.frames.now) c.args.own.now in
    let doing = may_do old c.args.w.now c.requires.may.0 c.args.r (place_of c.args.at.now) c.requires.stands c.requires.may.1 in (
      c.requires.may.0,
      raising (g.H.ObjectStore.content c.args.heap.now) (g.F.SegmentFrames.content c.args.frames.now) (g.F.SegmentFrames.content c.step.new.frames)
          c.args.own.now c.args.w.now c.requires.may.0 c.args.r (place_of c.args.at.now) c.requires.stands c.requires.may.1 (some_setting doing)
          (is_some_setting doing) c.in-Raise.raise c.in-Raise.ensures,
    )

pub raise_here-requires-clause-raise : goal.raise_here-requires-clause-raise
raise_here-requires-clause-raise g c =
    let old : Contents = contents_of (g.H.ObjectStore.content c.args.heap.now) (g.F.SegmentFrames.content c.args.frames.now) c.args.own.now in
    let doing = may_do old c.args.w.now c.requires.may.0 c.args.r (place_of c.args.at.now) c.requires.stands c.requires.may.1 in
    may_be_raised (g.H.ObjectStore.content c.args.heap.now) (g.F.SegmentFrames.content c.args.frames.now) (g.F.SegmentFrames.content c.step.new.frames)
    c.args.own.now c.args.w.now c.requires.may.0 c.args.r (place_of c.args.at.now) c.requires.stands c.requires.may.1 (some_setting doing)
    (is_some_setting doing) c.in-Raise.raise c.in-Raise.ensures

pub give_back-requires-clause-paid : goal.give_back-requires-clause-paid
give_back-requires-clause-paid g c =
    paid_in_store (g.F.SegmentFrames.content c.step.new.frames) (g.met.F.FrameStore.holds c.step.new.frames) c.args.r.segment

pub give_back-requires-clause-may : goal.give_back-requires-clause-may
give_back-requires-clause-may g c =
    let old : Contents = contents_of (g.H.ObjectStore.content c.args.heap.now) (g.F.SegmentFrames.content c.args.frames.now) c.args.own.now in
    let doing = may_do old c.args.w.now c.requires.may.0 c.args.r (place_of c.args.at.now) c.requires.stands c.requires.may.1 in (
      g.H.ObjectStore.content c.args.heap.now,
      here_at c.args.w.now c.requires.may.0 c.args.r.domain c.args.r.segment,
      c.requires.stands.top.lower,
      w (g.H.ObjectStore.content c.args.heap.now) (g.F.SegmentFrames.content c.args.frames.now) (g.F.SegmentFrames.content c.step.new.frames)
          c.args.own.now c.args.w.now c.requires.may.0 c.args.r (place_of c.args.at.now) c.requires.stands c.requires.may.1 (some_setting doing)
          (is_some_setting doing) c.in-Return.v c.in-Return.ensures,
      refl,
      head_is (g.H.ObjectStore.content c.args.heap.now) (g.F.SegmentFrames.content c.args.frames.now) (g.F.SegmentFrames.content c.step.new.frames)
          c.args.own.now c.args.w.now c.requires.may.0 c.args.r (place_of c.args.at.now) c.requires.stands c.requires.may.1 (some_setting doing)
          (is_some_setting doing) c.in-Return.v c.in-Return.ensures,
      returning (g.H.ObjectStore.content c.args.heap.now) (g.F.SegmentFrames.content c.args.frames.now) (g.F.SegmentFrames.content c.step.new.frames)
          c.args.own.now c.args.w.now c.requires.may.0 c.args.r (place_of c.args.at.now) c.requires.stands c.requires.may.1 (some_setting doing)
          (is_some_setting doing) c.in-Return.v c.in-Return.ensures,
    )

pub unreachable-requires : goal.unreachable-requires
unreachable-requires g c =
    nothing_else c.step.ensures.3 c.args.at.now.head.at c.args.at.now.instr.now (with_head c.step.ensures.0 c.args.at.now.head) c.step.ensures.1
    c.step.result c.step.ensures.8 c.in_default.not-Goto c.in_default.not-Raise c.in_default.not-Return

pub returns-in-Goto : goal.returns-in-Goto
returns-in-Goto g c = λ shared x may is.
    went_on (g.H.ObjectStore.content c.args.heap.now) (g.F.SegmentFrames.content c.args.frames.now) (g.F.SegmentFrames.content c.step.new.frames)
    c.args.own.now c.args.w.now shared c.args.r (place_of c.args.at.now) c.requires.stands may x is c.in-Goto.n c.in-Goto.ensures
    (g.F.SegmentFrames.content c.go.new.self) c.go.ensures

pub returns-in-Raise : goal.returns-in-Raise
returns-in-Raise g c = λ shared x may is.
    raised (g.H.ObjectStore.content c.args.heap.now) (g.F.SegmentFrames.content c.args.frames.now) (g.F.SegmentFrames.content c.step.new.frames)
    c.args.own.now c.args.w.now shared c.args.r (place_of c.args.at.now) c.requires.stands may x is c.in-Raise.raise c.in-Raise.ensures _
    c.raise_here.result (c.raise_here.ensures shared)

pub returns-in-Return : goal.returns-in-Return
returns-in-Return g c = λ shared x may is.
    given_back (g.H.ObjectStore.content c.args.heap.now) (g.F.SegmentFrames.content c.args.frames.now) (g.F.SegmentFrames.content c.step.new.frames)
    c.args.own.now c.args.w.now shared c.args.r (place_of c.args.at.now) c.requires.stands may x is c.in-Return.v c.in-Return.ensures _
    c.give_back.result
    (c.give_back.ensures x (g.H.ObjectStore.content c.args.heap.now) (here_at c.args.w.now shared c.args.r.domain c.args.r.segment)
    c.requires.stands.top.lower
    (w (g.H.ObjectStore.content c.args.heap.now) (g.F.SegmentFrames.content c.args.frames.now) (g.F.SegmentFrames.content c.step.new.frames)
    c.args.own.now c.args.w.now shared c.args.r (place_of c.args.at.now) c.requires.stands may x is c.in-Return.v c.in-Return.ensures) refl
    (head_is (g.H.ObjectStore.content c.args.heap.now) (g.F.SegmentFrames.content c.args.frames.now) (g.F.SegmentFrames.content c.step.new.frames)
    c.args.own.now c.args.w.now shared c.args.r (place_of c.args.at.now) c.requires.stands may x is c.in-Return.v c.in-Return.ensures)
    (returning (g.H.ObjectStore.content c.args.heap.now) (g.F.SegmentFrames.content c.args.frames.now) (g.F.SegmentFrames.content c.step.new.frames)
    c.args.own.now c.args.w.now shared c.args.r (place_of c.args.at.now) c.requires.stands may x is c.in-Return.v c.in-Return.ensures))
