-- By what is answered.
use Rattle.step_contents.specs.Contents.{Contents, contents_of}
use Rattle.step_contents.specs.StandingFrames.{place_of}
use Rattle.step_contents.proofs.InstructionsBegin.{is_some_setting, some_setting}
use Rattle.segment_steps.proofs.HeapsFollowed.{may_be_raised, nothing_else, raised, raising, top_there, went_on}
use Rattle.segment_steps.proofs.StandingHere.{may_do}
use Rattle.segment_steps.proofs.instructions.do_heap.Goals as goal

pub step-after-requires-clause-may : goal.step-after-requires-clause-may
step-after-requires-clause-may g c =
    let old : Contents = contents_of (g.H.ObjectStore.content c.args.heap.now) (g.F.SegmentFrames.content c.args.frames.now) c.args.own.now in
    may_do old c.args.w.now c.args.shared.now c.args.r (place_of c.args.at.now) c.requires.stands c.requires.may

pub go-requires : goal.go-requires
go-requires g c =
    let old : Contents = contents_of (g.H.ObjectStore.content c.args.heap.now) (g.F.SegmentFrames.content c.args.frames.now) c.args.own.now in
    let doing = may_do old c.args.w.now c.args.shared.now c.args.r (place_of c.args.at.now) c.requires.stands c.requires.may in
    top_there old c.args.w.now c.args.shared.now c.args.r (place_of c.args.at.now) c.requires.stands
    (g.H.ObjectStore.content c.step-after.new.heap) (g.F.SegmentFrames.content c.step-after.new.frames) c.step-after.new.own c.heap_rows_keep.ensures
    c.requires.may (some_setting doing) (is_some_setting doing) c.in-Goto.n c.in-Goto.ensures

pub raise_here-requires-clause-may : goal.raise_here-requires-clause-may
raise_here-requires-clause-may g c =
    let old : Contents = contents_of (g.H.ObjectStore.content c.args.heap.now) (g.F.SegmentFrames.content c.args.frames.now) c.args.own.now in
    let doing = may_do old c.args.w.now c.args.shared.now c.args.r (place_of c.args.at.now) c.requires.stands c.requires.may in (
      c.args.shared.now,
      raising old c.args.w.now c.args.shared.now c.args.r (place_of c.args.at.now) c.requires.stands
          (g.H.ObjectStore.content c.step-after.new.heap) (g.F.SegmentFrames.content c.step-after.new.frames) c.step-after.new.own
          c.heap_rows_keep.ensures c.requires.may (some_setting doing) (is_some_setting doing) c.in-Raise.raise c.in-Raise.ensures
          (record { rooms_differ = c.holds.ensures.rooms; literals = c.holds.ensures.literals }),
    )

pub raise_here-requires-clause-raise : goal.raise_here-requires-clause-raise
raise_here-requires-clause-raise g c =
    let old : Contents = contents_of (g.H.ObjectStore.content c.args.heap.now) (g.F.SegmentFrames.content c.args.frames.now) c.args.own.now in
    let doing = may_do old c.args.w.now c.args.shared.now c.args.r (place_of c.args.at.now) c.requires.stands c.requires.may in
    may_be_raised old c.args.w.now c.args.shared.now c.args.r (place_of c.args.at.now) c.requires.stands
    (g.H.ObjectStore.content c.step-after.new.heap) (g.F.SegmentFrames.content c.step-after.new.frames) c.step-after.new.own
    c.heap_rows_keep.ensures c.requires.may (some_setting doing) (is_some_setting doing) c.in-Raise.raise c.in-Raise.ensures
    (record { rooms_differ = c.holds.ensures.rooms; literals = c.holds.ensures.literals })

pub unreachable-requires : goal.unreachable-requires
unreachable-requires g c =
    let old : Contents = contents_of (g.H.ObjectStore.content c.args.heap.now) (g.F.SegmentFrames.content c.args.frames.now) c.args.own.now in
    let mid : Contents =
    contents_of (g.H.ObjectStore.content c.step-after.new.heap) (g.F.SegmentFrames.content c.step-after.new.frames) c.step-after.new.own in
    nothing_else old mid c.args.w.now c.args.shared.now c.args.r (place_of c.args.at.now) c.requires.stands c.requires.may c.step-after.result
    c.step-after.ensures c.in_default.not-Goto c.in_default.not-Raise

pub returns-in-Goto : goal.returns-in-Goto
returns-in-Goto g c = λ x may is.
    let old : Contents = contents_of (g.H.ObjectStore.content c.args.heap.now) (g.F.SegmentFrames.content c.args.frames.now) c.args.own.now in
    went_on old c.args.w.now c.args.shared.now c.args.r (place_of c.args.at.now) c.requires.stands
    (g.H.ObjectStore.content c.step-after.new.heap) (g.F.SegmentFrames.content c.step-after.new.frames) c.step-after.new.own c.heap_rows_keep.ensures
    may x is c.in-Goto.n c.in-Goto.ensures (g.F.SegmentFrames.content c.go.new.self) c.go.ensures

pub returns-in-Raise : goal.returns-in-Raise
returns-in-Raise g c = λ x may is.
    let old : Contents = contents_of (g.H.ObjectStore.content c.args.heap.now) (g.F.SegmentFrames.content c.args.frames.now) c.args.own.now in
    raised old c.args.w.now c.args.shared.now c.args.r (place_of c.args.at.now) c.requires.stands
    (g.H.ObjectStore.content c.step-after.new.heap) (g.F.SegmentFrames.content c.step-after.new.frames) c.step-after.new.own
    c.heap_rows_keep.ensures may x is c.in-Raise.raise c.in-Raise.ensures
    (record { rooms_differ = c.holds.ensures.rooms; literals = c.holds.ensures.literals }) _ c.raise_here.result
    (c.raise_here.ensures c.args.shared.now)
