-- What code has done is so to the machine, and the parts fit again.
use Rattle.std.proofs.Common.{◌≡◌, true, Some, sym, ap, subst, ◌∙◌}
use Rattle.jk_model_sharing.specs.Segments.{PlacedSegment, segment_numbered, with_revoked}
use Rattle.jk_model_sharing.specs.SharedStates.{SharedState, with_flags}
use Rattle.machine_parts.specs.MachineParts.{MachineParts, machine_of}
use Rattle.domain_crossing.specs.declared.answers.Left.TheVariants as Became
use Rattle.domain_crossing.specs.Crossings.{LeavesByReturn}
use Rattle.domain_crossing.proofs.AnswersGoDown.{HasTaken}
use Rattle.domain_crossing.proofs.SegmentsLeft.{answer_asked, dropped_return, ended_by_return, fits_down, fits_dropped, flags_there, given, resume_asked, went_ended}
use Rattle.domain_crossing.proofs.TopsTakenOff.{over, shared_apart, top_there}
use Rattle.domain_crossing.proofs.leaving.leave.Goals as goal

pub take_off-taken-requires-clause-apart : goal.take_off-taken-requires-clause-apart
take_off-taken-requires-clause-apart g c =
    let may = c.requires.may.1 in
    let p : MachineParts = record {
      world = c.args.w.now;
      owns = c.requires.may.0;
      shared = c.args.shared.now;
      heap = g.H.ObjectStore.content c.args.heap.now;
      frames = g.F.SegmentFrames.content c.args.frames.now;
    } in
    let t = c.args.t in
    shared_apart p t may.cross may.runs

pub take_off-taken-requires-clause-top : goal.take_off-taken-requires-clause-top
take_off-taken-requires-clause-top g c =
    let may = c.requires.may.1 in
    let p : MachineParts = record {
      world = c.args.w.now;
      owns = c.requires.may.0;
      shared = c.args.shared.now;
      heap = g.H.ObjectStore.content c.args.heap.now;
      frames = g.F.SegmentFrames.content c.args.frames.now;
    } in
    let t = c.args.t in
    (over p t may.cross may.runs, top_there p t may.cross may.runs)

pub returns-in_default-clause-answer : goal.returns-in_default-clause-answer
returns-in_default-clause-answer g c = λ owns may.
    let p : MachineParts = record {
      world = c.args.w.now;
      owns = owns;
      shared = c.args.shared.now;
      heap = g.H.ObjectStore.content c.args.heap.now;
      frames = g.F.SegmentFrames.content c.args.frames.now;
    } in
    let t = c.args.t in
    let left = c.take_off-taken.result in
    let frames = g.F.SegmentFrames.content c.take_off-taken.new.frames in
    let h : HasTaken p t may.cross may.runs left frames = record {
      told = c.take_off-taken.ensures.told (over p t may.cross may.runs);
      ends = c.take_off-taken.ensures.frames (over p t may.cross may.runs);
    } in
    subst (λ (s : SharedState). LeavesByReturn (machine_of p) t c.args.returned Became.Ended
    (machine_of (record { world = p.world; owns = owns; shared = s; heap = p.heap; frames = frames }))) (sym c.take_off-taken.ensures.shared)
    (ended_by_return p t may.cross may.runs left frames h c.in_default.is c.args.returned)

pub returns-in_default-clause-fitting : goal.returns-in_default-clause-fitting
returns-in_default-clause-fitting g c = λ owns fit.
    let may = c.requires.may.1 in
    let p : MachineParts = record {
      world = c.args.w.now;
      owns = c.requires.may.0;
      shared = c.args.shared.now;
      heap = g.H.ObjectStore.content c.args.heap.now;
      frames = g.F.SegmentFrames.content c.args.frames.now;
    } in
    let t = c.args.t in
    let left = c.take_off-taken.result in
    let frames = g.F.SegmentFrames.content c.take_off-taken.new.frames in
    let h : HasTaken p t may.cross may.runs left frames = record {
      told = c.take_off-taken.ensures.told (over p t may.cross may.runs);
      ends = c.take_off-taken.ensures.frames (over p t may.cross may.runs);
    } in
    fits_down p t p.heap frames (went_ended p t may.cross may.runs left frames h c.in_default.is) owns fit c.take_off-taken.new.shared
    c.take_off-taken.ensures.shared

pub set_revoked-requires : goal.set_revoked-requires
set_revoked-requires g c =
    let may = c.requires.may.1 in
    let p : MachineParts = record {
      world = c.args.w.now;
      owns = c.requires.may.0;
      shared = c.args.shared.now;
      heap = g.H.ObjectStore.content c.args.heap.now;
      frames = g.F.SegmentFrames.content c.args.frames.now;
    } in
    let t = c.args.t in
    let left = c.take_off-taken.result in
    let frames = g.F.SegmentFrames.content c.take_off-taken.new.frames in
    let h : HasTaken p t may.cross may.runs left frames = record {
      told = c.take_off-taken.ensures.told (over p t may.cross may.runs);
      ends = c.take_off-taken.ensures.frames (over p t may.cross may.runs);
    } in
    subst (λ (s : SharedState). (x : PlacedSegment) × (segment_numbered s.threads c.in-Some.below.segment ≡ Some x))
    (sym c.take_off-taken.ensures.shared) (flags_there p t may.cross may.runs left frames h c.in-Some.below c.in-Some.is)

pub returns-then-taken-clause-answer : goal.returns-then-taken-clause-answer
returns-then-taken-clause-answer g c = λ owns may.
    let p : MachineParts = record {
      world = c.args.w.now;
      owns = owns;
      shared = c.args.shared.now;
      heap = g.H.ObjectStore.content c.args.heap.now;
      frames = g.F.SegmentFrames.content c.args.frames.now;
    } in
    let t = c.args.t in
    let left = c.take_off-taken.result in
    let frames = g.F.SegmentFrames.content c.take_off-taken.new.frames in
    let h : HasTaken p t may.cross may.runs left frames = record {
      told = c.take_off-taken.ensures.told (over p t may.cross may.runs);
      ends = c.take_off-taken.ensures.frames (over p t may.cross may.runs);
    } in
    subst (λ (s : SharedState). LeavesByReturn (machine_of p) t c.args.returned Became.Delivered
    (machine_of (record { world = p.world; owns = owns; shared = s; heap = p.heap; frames = frames })))
    (sym (c.set_revoked.ensures ∙ ap (with_flags c.in-Some.below.segment (with_revoked true)) c.take_off-taken.ensures.shared))
    (dropped_return p t may.cross may.runs left frames h c.in-Some.below c.in-Some.is c.if-taken.true c.args.returned)

pub returns-then-taken-clause-fitting : goal.returns-then-taken-clause-fitting
returns-then-taken-clause-fitting g c = λ owns fit.
    let may = c.requires.may.1 in
    let p : MachineParts = record {
      world = c.args.w.now;
      owns = c.requires.may.0;
      shared = c.args.shared.now;
      heap = g.H.ObjectStore.content c.args.heap.now;
      frames = g.F.SegmentFrames.content c.args.frames.now;
    } in
    let t = c.args.t in
    let left = c.take_off-taken.result in
    let frames = g.F.SegmentFrames.content c.take_off-taken.new.frames in
    let h : HasTaken p t may.cross may.runs left frames = record {
      told = c.take_off-taken.ensures.told (over p t may.cross may.runs);
      ends = c.take_off-taken.ensures.frames (over p t may.cross may.runs);
    } in
    fits_dropped p t may.cross may.runs left frames h c.in-Some.below c.in-Some.is owns fit c.set_revoked.new.self
    (c.set_revoked.ensures ∙ ap (with_flags c.in-Some.below.segment (with_revoked true)) c.take_off-taken.ensures.shared)

pub give-requires-clause-copy : goal.give-requires-clause-copy
give-requires-clause-copy g c = λ v is.
    let may = c.requires.may.1 in
    let p : MachineParts = record {
      world = c.args.w.now;
      owns = c.requires.may.0;
      shared = c.args.shared.now;
      heap = g.H.ObjectStore.content c.args.heap.now;
      frames = g.F.SegmentFrames.content c.args.frames.now;
    } in
    let t = c.args.t in
    let left = c.take_off-taken.result in
    let frames = g.F.SegmentFrames.content c.take_off-taken.new.frames in
    let h : HasTaken p t may.cross may.runs left frames = record {
      told = c.take_off-taken.ensures.told (over p t may.cross may.runs);
      ends = c.take_off-taken.ensures.frames (over p t may.cross may.runs);
    } in
    answer_asked p t may.cross may.runs left frames h c.in-Some.below c.in-Some.is c.args.returned may.taken c.if-taken.false v is

pub give-requires-clause-resume : goal.give-requires-clause-resume
give-requires-clause-resume g c =
    let may = c.requires.may.1 in
    let p : MachineParts = record {
      world = c.args.w.now;
      owns = c.requires.may.0;
      shared = c.args.shared.now;
      heap = g.H.ObjectStore.content c.args.heap.now;
      frames = g.F.SegmentFrames.content c.args.frames.now;
    } in
    let t = c.args.t in
    let left = c.take_off-taken.result in
    let frames = g.F.SegmentFrames.content c.take_off-taken.new.frames in
    let h : HasTaken p t may.cross may.runs left frames = record {
      told = c.take_off-taken.ensures.told (over p t may.cross may.runs);
      ends = c.take_off-taken.ensures.frames (over p t may.cross may.runs);
    } in
    resume_asked p t may.cross may.runs left frames h c.in-Some.below c.in-Some.is c.args.returned may.taken c.if-taken.false

pub returns-clause-answer : goal.returns-clause-answer
returns-clause-answer g c = λ owns may.
    let p : MachineParts = record {
      world = c.args.w.now;
      owns = owns;
      shared = c.args.shared.now;
      heap = g.H.ObjectStore.content c.args.heap.now;
      frames = g.F.SegmentFrames.content c.args.frames.now;
    } in
    let t = c.args.t in
    let left = c.take_off-taken.result in
    let frames = g.F.SegmentFrames.content c.take_off-taken.new.frames in
    let h : HasTaken p t may.cross may.runs left frames = record {
      told = c.take_off-taken.ensures.told (over p t may.cross may.runs);
      ends = c.take_off-taken.ensures.frames (over p t may.cross may.runs);
    } in
    let heap = g.H.ObjectStore.content c.give.new.heap in
    let after = g.F.SegmentFrames.content c.give.new.frames in
    subst (λ (s : SharedState). LeavesByReturn (machine_of p) t c.args.returned c.give.result
    (machine_of (record { world = p.world; owns = owns; shared = s; heap = heap; frames = after }))) (sym c.take_off-taken.ensures.shared)
    (given p t may.cross may.runs left frames h c.in-Some.below c.in-Some.is c.args.returned may.taken c.if-taken.false c.give.result heap after
    c.give.ensures).0

pub returns-clause-fitting : goal.returns-clause-fitting
returns-clause-fitting g c = λ owns fit.
    let may = c.requires.may.1 in
    let p : MachineParts = record {
      world = c.args.w.now;
      owns = c.requires.may.0;
      shared = c.args.shared.now;
      heap = g.H.ObjectStore.content c.args.heap.now;
      frames = g.F.SegmentFrames.content c.args.frames.now;
    } in
    let t = c.args.t in
    let left = c.take_off-taken.result in
    let frames = g.F.SegmentFrames.content c.take_off-taken.new.frames in
    let h : HasTaken p t may.cross may.runs left frames = record {
      told = c.take_off-taken.ensures.told (over p t may.cross may.runs);
      ends = c.take_off-taken.ensures.frames (over p t may.cross may.runs);
    } in
    let heap = g.H.ObjectStore.content c.give.new.heap in
    let after = g.F.SegmentFrames.content c.give.new.frames in
    fits_down p t heap after
    (given p t may.cross may.runs left frames h c.in-Some.below c.in-Some.is c.args.returned may.taken c.if-taken.false c.give.result heap after
    c.give.ensures).1 owns fit c.take_off-taken.new.shared c.take_off-taken.ensures.shared
