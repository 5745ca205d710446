-- By what is answered.
use Rattle.std.proofs.Common.{◌∙◌}
use Rattle.jk_model.specs.declared.steps.After.TheVariants as Next
use Rattle.list_lemmas.proofs.ItemsByPlace.{item_lent, none_lent}
use Rattle.step_contents.specs.Contents.{Contents, contents_of}
use Rattle.step_contents.specs.StandingFrames.{place_of}
use Rattle.step_contents.proofs.InstructionsBegin.{is_some_setting, some_setting}
use Rattle.segment_steps.proofs.HeapsFollowed.{else_nothing, may_be_raised, next_there, raised, raising, stands_on, still_there, top_there, went_on}
use Rattle.segment_steps.proofs.StandingHere.{may_do}
use Rattle.segment_steps.proofs.working.work_on_heap.Goals as goal

pub step-after-requires-clause-may : goal.step-after-requires-clause-may
step-after-requires-clause-may g c =
    let old : Contents = contents_of (g.H.ObjectStore.content c.args.heap.now) (g.F.SegmentFrames.content c.args.frames.now) c.args.own.now in
    may_do old c.args.w.now c.args.shared.now c.args.r (place_of c.args.at.now) c.requires.stands c.requires.may

pub go-requires : goal.go-requires
go-requires g c =
    let old : Contents = contents_of (g.H.ObjectStore.content c.args.heap.now) (g.F.SegmentFrames.content c.args.frames.now) c.args.own.now in
    let doing = may_do old c.args.w.now c.args.shared.now c.args.r (place_of c.args.at.now) c.requires.stands c.requires.may in
    top_there old c.args.w.now c.args.shared.now c.args.r (place_of c.args.at.now) c.requires.stands
    (g.H.ObjectStore.content c.step-after.new.heap) (g.F.SegmentFrames.content c.step-after.new.frames) c.step-after.new.own c.heap_rows_keep.ensures
    c.requires.may (some_setting doing) (is_some_setting doing) c.in-Goto.n c.in-Goto.ensures

pub unreachable-requires : goal.unreachable-requires
unreachable-requires g c =
    let old : Contents = contents_of (g.H.ObjectStore.content c.args.heap.now) (g.F.SegmentFrames.content c.args.frames.now) c.args.own.now in
    let at = place_of c.args.at.now in
    let doing = may_do old c.args.w.now c.args.shared.now c.args.r at c.requires.stands c.requires.may in
    next_there old c.args.w.now c.args.shared.now c.args.r at c.requires.stands (g.H.ObjectStore.content c.step-after.new.heap)
    (g.F.SegmentFrames.content c.step-after.new.frames) c.step-after.new.own c.heap_rows_keep.ensures c.requires.may (some_setting doing)
    (is_some_setting doing)
    c.in-Goto.n c.in-Goto.ensures (none_lent at.scope.code.instrs c.in-Goto.n c.in-None.ensures)

pub returns-in-Some-clause-steps : goal.returns-in-Some-clause-steps
returns-in-Some-clause-steps g c = λ done x may is.
    let old : Contents = contents_of (g.H.ObjectStore.content c.args.heap.now) (g.F.SegmentFrames.content c.args.frames.now) c.args.own.now in
    went_on old c.args.w.now c.args.shared.now c.args.r (place_of c.args.at.now) c.requires.stands (g.H.ObjectStore.content c.step-after.new.heap)
    (g.F.SegmentFrames.content c.step-after.new.frames) c.step-after.new.own c.heap_rows_keep.ensures may x is c.in-Goto.n c.in-Goto.ensures
    (g.F.SegmentFrames.content c.go.new.self) c.go.ensures

pub returns-in-Some-clause-stands : goal.returns-in-Some-clause-stands
returns-in-Some-clause-stands g c = λ at_instruction.
    let old : Contents = contents_of (g.H.ObjectStore.content c.args.heap.now) (g.F.SegmentFrames.content c.args.frames.now) c.args.own.now in
    let at = place_of c.args.at.now in
    let doing = may_do old c.args.w.now c.args.shared.now c.args.r at c.requires.stands c.requires.may in
    stands_on old c.args.w.now c.args.shared.now c.args.r at c.requires.stands (g.H.ObjectStore.content c.step-after.new.heap)
    (g.F.SegmentFrames.content c.step-after.new.frames) c.step-after.new.own c.heap_rows_keep.ensures c.requires.may (some_setting doing)
    (is_some_setting doing)
    c.in-Goto.n c.in-Goto.ensures (g.F.SegmentFrames.content c.go.new.self) c.go.ensures c.in-Some.instr.now
    (item_lent at.scope.code.instrs c.in-Goto.n c.in-Some.instr c.in-Some.ensures)

pub catch_raised-requires-clause-may : goal.catch_raised-requires-clause-may
catch_raised-requires-clause-may g c =
    let old : Contents = contents_of (g.H.ObjectStore.content c.args.heap.now) (g.F.SegmentFrames.content c.args.frames.now) c.args.own.now in
    let doing = may_do old c.args.w.now c.args.shared.now c.args.r (place_of c.args.at.now) c.requires.stands c.requires.may in (
      c.step-after.new.own,
      c.args.shared.now,
      raising old c.args.w.now c.args.shared.now c.args.r (place_of c.args.at.now) c.requires.stands
          (g.H.ObjectStore.content c.step-after.new.heap) (g.F.SegmentFrames.content c.step-after.new.frames) c.step-after.new.own
          c.heap_rows_keep.ensures c.requires.may (some_setting doing) (is_some_setting doing) c.in-Raise.raise c.in-Raise.ensures
          (record { rooms_differ = c.holds.ensures.rooms; literals = c.holds.ensures.literals }),
    )

pub catch_raised-requires-clause-raise : goal.catch_raised-requires-clause-raise
catch_raised-requires-clause-raise g c =
    let old : Contents = contents_of (g.H.ObjectStore.content c.args.heap.now) (g.F.SegmentFrames.content c.args.frames.now) c.args.own.now in
    let doing = may_do old c.args.w.now c.args.shared.now c.args.r (place_of c.args.at.now) c.requires.stands c.requires.may in
    may_be_raised old c.args.w.now c.args.shared.now c.args.r (place_of c.args.at.now) c.requires.stands
    (g.H.ObjectStore.content c.step-after.new.heap) (g.F.SegmentFrames.content c.step-after.new.frames) c.step-after.new.own
    c.heap_rows_keep.ensures c.requires.may (some_setting doing) (is_some_setting doing) c.in-Raise.raise c.in-Raise.ensures
    (record { rooms_differ = c.holds.ensures.rooms; literals = c.holds.ensures.literals })

pub catch_raised-requires-clause-stands : goal.catch_raised-requires-clause-stands
catch_raised-requires-clause-stands g c =
    let old : Contents = contents_of (g.H.ObjectStore.content c.args.heap.now) (g.F.SegmentFrames.content c.args.frames.now) c.args.own.now in
    let mid : Contents =
    contents_of (g.H.ObjectStore.content c.step-after.new.heap) (g.F.SegmentFrames.content c.step-after.new.frames) c.step-after.new.own in
    still_there old mid c.args.w.now c.args.shared.now c.args.r (place_of c.args.at.now) c.requires.stands c.heap_rows_keep.ensures
    c.what_follows_is_determined.ensures.raises c.requires.may c.in-Raise.raise c.in-Raise.ensures

pub returns-in-Raise-clause-undone : goal.returns-in-Raise-clause-undone
returns-in-Raise-clause-undone g c = λ undone.
    let old : Contents = contents_of (g.H.ObjectStore.content c.args.heap.now) (g.F.SegmentFrames.content c.args.frames.now) c.args.own.now in
    let mid : Contents =
    contents_of (g.H.ObjectStore.content c.step-after.new.heap) (g.F.SegmentFrames.content c.step-after.new.frames) c.step-after.new.own in
    let same = else_nothing old mid c.args.w.now c.args.shared.now c.args.r (place_of c.args.at.now) c.requires.stands c.heap_rows_keep.ensures
    c.what_follows_is_determined.ensures.raises c.requires.may (Next.Raise c.in-Raise.raise) c.in-Raise.ensures (λ n is. cc) in
    (same.heaps, c.catch_raised.ensures.undone undone ∙ same.frames, same.own)

pub returns-in-Raise-clause-steps : goal.returns-in-Raise-clause-steps
returns-in-Raise-clause-steps g c = λ done x may is.
    let old : Contents = contents_of (g.H.ObjectStore.content c.args.heap.now) (g.F.SegmentFrames.content c.args.frames.now) c.args.own.now in
    raised old c.args.w.now c.args.shared.now c.args.r (place_of c.args.at.now) c.requires.stands
    (g.H.ObjectStore.content c.step-after.new.heap) (g.F.SegmentFrames.content c.step-after.new.frames) c.step-after.new.own
    c.heap_rows_keep.ensures may x is c.in-Raise.raise c.in-Raise.ensures
    (record { rooms_differ = c.holds.ensures.rooms; literals = c.holds.ensures.literals }) _ _
    (c.catch_raised.ensures.caught done c.step-after.new.own c.args.shared.now)

pub returns-in-Raise-clause-stands : goal.returns-in-Raise-clause-stands
returns-in-Raise-clause-stands g c = λ at_instruction. c.catch_raised.ensures.stands at_instruction

pub returns-in_default-clause-undone : goal.returns-in_default-clause-undone
returns-in_default-clause-undone g c = λ undone.
    let old : Contents = contents_of (g.H.ObjectStore.content c.args.heap.now) (g.F.SegmentFrames.content c.args.frames.now) c.args.own.now in
    let new : Contents = contents_of (g.H.ObjectStore.content c.step-after.new.heap) (g.F.SegmentFrames.content c.step-after.new.frames) c.step-after.new.own in
    let same = else_nothing old new c.args.w.now c.args.shared.now c.args.r (place_of c.args.at.now) c.requires.stands c.heap_rows_keep.ensures
    c.what_follows_is_determined.ensures.raises c.requires.may c.step-after.result c.step-after.ensures c.in_default.not-Goto in
    (same.heaps, same.frames, same.own)
