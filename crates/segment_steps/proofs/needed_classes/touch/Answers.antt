-- By whether the initialiser frame fits.
use Rattle.std.proofs.Common.{◌≡◌, List, Some, sym, subst}
use Rattle.jk_model_classes.specs.declared.records.ClassRecord.{ClassRecord}
use Rattle.jk_model_classes.specs.Classes.{record_of}
use Rattle.jk_model_running.specs.Initialising.{IsInitialiserHead}
use Rattle.step_contents.specs.Contents.{Contents, contents_of, here_at}
use Rattle.segment_steps.proofs.NeededClasses.{class_there, overflowed, state_there, touched}
use Rattle.segment_steps.proofs.SegmentsRaise.{raise_still}
use Rattle.segment_steps.proofs.StandingHere.{becomes_same}
use Rattle.segment_steps.proofs.needed_classes.touch.Goals as goal

pub initialiser_head-head-requires-clause-class : goal.initialiser_head-head-requires-clause-class
initialiser_head-head-requires-clause-class g c =
    let old : Contents = contents_of (g.H.ObjectStore.content c.args.heap.now) (g.F.SegmentFrames.content c.args.frames.now) c.args.own.now in
    let there = class_there old c.args.w.now c.requires.may.0 c.args.r c.requires.may.1 c.args.c
    (state_there old c.args.w.now c.requires.may.0 c.args.r c.requires.may.1 c.args.c c.requires.untouched) in (
      there.0,
      there.1,
      subst (λ (classes : List ClassRecord). record_of classes c.args.c ≡ Some there.0) (sym c.classes.ensures) there.2,
      there.3,
    )

pub raise_here-requires-clause-may : goal.raise_here-requires-clause-may
raise_here-requires-clause-may g c =
    let old : Contents = contents_of (g.H.ObjectStore.content c.args.heap.now) (g.F.SegmentFrames.content c.args.frames.now) c.args.own.now in
    let may = c.requires.may.1 in
    let here = here_at c.args.w.now c.requires.may.0 c.args.r.domain c.args.r.segment in
    let frames = g.F.SegmentFrames.content c.push.new.self in (
      c.requires.may.0,
      raise_still old (contents_of old.heaps frames old.own) here may (becomes_same old here may.run may.domain may.holds frames c.in-Err.ensures.err)
          may.domain.rooms,
    )

pub returns-in-Ok : goal.returns-in-Ok
returns-in-Ok g c = λ shared x may is.
    let old : Contents = contents_of (g.H.ObjectStore.content c.args.heap.now) (g.F.SegmentFrames.content c.args.frames.now) c.args.own.now in
    touched old c.args.w.now shared c.args.r may c.args.c c.requires.needs.0 c.requires.needs.1 c.requires.needs.2 c.requires.untouched
    c.initialiser_head-head.result
    (subst (λ (classes : List ClassRecord). IsInitialiserHead classes c.args.c c.initialiser_head-head.result) c.classes.ensures
    c.initialiser_head-head.ensures)
    (g.F.SegmentFrames.content c.push.new.self) c.set_state.new.self c.in-Ok.ensures.ok c.in-Ok.ensures.room c.set_state.ensures x is

pub returns-in-Err : goal.returns-in-Err
returns-in-Err g c = λ shared x may is.
    let old : Contents = contents_of (g.H.ObjectStore.content c.args.heap.now) (g.F.SegmentFrames.content c.args.frames.now) c.args.own.now in
    overflowed old c.args.w.now shared c.args.r may c.args.c c.requires.needs.0 c.requires.needs.1 c.requires.needs.2 c.requires.untouched
    c.initialiser_head-head.result
    (subst (λ (classes : List ClassRecord). IsInitialiserHead classes c.args.c c.initialiser_head-head.result) c.classes.ensures
    c.initialiser_head-head.ensures)
    (g.F.SegmentFrames.content c.push.new.self) c.in-Err.ensures.err c.in-Err.ensures.no_room _ c.raise_here.result (c.raise_here.ensures shared) x is
