-- What code has done is so to the machine, and the parts fit again.
use Rattle.std.proofs.Common.{◌≡◌, true, Some, sym, ap, subst, ◌∙◌}
use Rattle.jk_model.specs.declared.identifiers.ClassId.{ClassId}
use Rattle.jk_model.specs.declared.values.Value.TheVariants as Held
use Rattle.jk_model_domains.specs.Objects.{Plain}
use Rattle.jk_model_heaps.specs.declared.shapes.Shape.TheVariants as Of
use Rattle.jk_model_sharing.specs.Segments.{PlacedSegment, segment_numbered, with_revoked}
use Rattle.jk_model_sharing.specs.SharedStates.{SharedState, with_flags}
use Rattle.machine_parts.specs.MachineParts.{MachineParts, machine_of}
use Rattle.domain_crossing.specs.declared.answers.Left.TheVariants as Became
use Rattle.domain_crossing.specs.Crossings.{LeavesByThrow}
use Rattle.domain_crossing.proofs.AnswersGoDown.{HasTaken}
use Rattle.domain_crossing.proofs.SegmentsLeft.{brought, copy_asked, dropped_throw, ended_by_throw, fits_down, fits_dropped, flags_there, thrown_there, went_ended}
use Rattle.domain_crossing.proofs.TopsTakenOff.{over, shared_apart, top_there}
use Rattle.domain_crossing.proofs.raising.raise_across.Goals as goal

same_class : (c d : ClassId) → Of.Plain c ≡ Of.Plain d → c ≡ d
same_class c d e = cc

pub take_off-taken-requires-clause-apart : goal.take_off-taken-requires-clause-apart
take_off-taken-requires-clause-apart g c =
    let may = c.requires.may.1 in
    let p : MachineParts = record {
      world = c.args.w.now;
      owns = c.requires.may.0;
      shared = c.args.shared.now;
      heap = g.H.ObjectStore.content c.args.heap.now;
      frames = g.F.SegmentFrames.content c.args.frames.now;
    } in
    let t = c.args.t in
    shared_apart p t may.cross may.runs

pub take_off-taken-requires-clause-top : goal.take_off-taken-requires-clause-top
take_off-taken-requires-clause-top g c =
    let may = c.requires.may.1 in
    let p : MachineParts = record {
      world = c.args.w.now;
      owns = c.requires.may.0;
      shared = c.args.shared.now;
      heap = g.H.ObjectStore.content c.args.heap.now;
      frames = g.F.SegmentFrames.content c.args.frames.now;
    } in
    let t = c.args.t in
    (over p t may.cross may.runs, top_there p t may.cross may.runs)

pub shape-requires : goal.shape-requires
shape-requires g c =
    let may = c.requires.may.1 in
    let p : MachineParts = record {
      world = c.args.w.now;
      owns = c.requires.may.0;
      shared = c.args.shared.now;
      heap = g.H.ObjectStore.content c.args.heap.now;
      frames = g.F.SegmentFrames.content c.args.frames.now;
    } in
    let t = c.args.t in
    let left = c.take_off-taken.result in
    let frames = g.F.SegmentFrames.content c.take_off-taken.new.frames in
    let h : HasTaken p t may.cross may.runs left frames = record {
      told = c.take_off-taken.ensures.told (over p t may.cross may.runs);
      ends = c.take_off-taken.ensures.frames (over p t may.cross may.runs);
    } in (
      Plain may.thrown.throwable.class may.thrown.throwable.fields,
      thrown_there p t may.cross may.runs left frames h c.args.throwable may.thrown.throwable,
    )

pub unreachable-requires : goal.unreachable-requires
unreachable-requires g c =
    let may = c.requires.may.1 in
    let p : MachineParts = record {
      world = c.args.w.now;
      owns = c.requires.may.0;
      shared = c.args.shared.now;
      heap = g.H.ObjectStore.content c.args.heap.now;
      frames = g.F.SegmentFrames.content c.args.frames.now;
    } in
    let t = c.args.t in
    let left = c.take_off-taken.result in
    let frames = g.F.SegmentFrames.content c.take_off-taken.new.frames in
    let h : HasTaken p t may.cross may.runs left frames = record {
      told = c.take_off-taken.ensures.told (over p t may.cross may.runs);
      ends = c.take_off-taken.ensures.frames (over p t may.cross may.runs);
    } in
    c.in_default.not-Plain may.thrown.throwable.class
    (c.shape.ensures (Plain may.thrown.throwable.class may.thrown.throwable.fields)
    (thrown_there p t may.cross may.runs left frames h c.args.throwable may.thrown.throwable))

pub returns-in_default-below-clause-answer : goal.returns-in_default-below-clause-answer
returns-in_default-below-clause-answer g c = λ owns may.
    let p : MachineParts = record {
      world = c.args.w.now;
      owns = owns;
      shared = c.args.shared.now;
      heap = g.H.ObjectStore.content c.args.heap.now;
      frames = g.F.SegmentFrames.content c.args.frames.now;
    } in
    let t = c.args.t in
    let left = c.take_off-taken.result in
    let frames = g.F.SegmentFrames.content c.take_off-taken.new.frames in
    let h : HasTaken p t may.cross may.runs left frames = record {
      told = c.take_off-taken.ensures.told (over p t may.cross may.runs);
      ends = c.take_off-taken.ensures.frames (over p t may.cross may.runs);
    } in
    let class : may.thrown.throwable.class ≡ c.in-Plain.class =
    same_class may.thrown.throwable.class c.in-Plain.class
    (sym (c.shape.ensures (Plain may.thrown.throwable.class may.thrown.throwable.fields)
    (thrown_there p t may.cross may.runs left frames h c.args.throwable may.thrown.throwable)) ∙ c.in-Plain.is) in
    subst (λ (s : SharedState). LeavesByThrow (machine_of p) t c.args.throwable c.ended.result
    (machine_of (record { world = p.world; owns = owns; shared = s; heap = p.heap; frames = frames }))) (sym c.take_off-taken.ensures.shared)
    (ended_by_throw p t may.cross may.runs left frames h c.in_default-below.is c.args.throwable may.thrown.throwable c.in-Plain.class class
    c.ended.result c.ended.ensures.orphan c.ended.ensures.other)

pub returns-in_default-below-clause-fitting : goal.returns-in_default-below-clause-fitting
returns-in_default-below-clause-fitting g c = λ owns fit.
    let may = c.requires.may.1 in
    let p : MachineParts = record {
      world = c.args.w.now;
      owns = c.requires.may.0;
      shared = c.args.shared.now;
      heap = g.H.ObjectStore.content c.args.heap.now;
      frames = g.F.SegmentFrames.content c.args.frames.now;
    } in
    let t = c.args.t in
    let left = c.take_off-taken.result in
    let frames = g.F.SegmentFrames.content c.take_off-taken.new.frames in
    let h : HasTaken p t may.cross may.runs left frames = record {
      told = c.take_off-taken.ensures.told (over p t may.cross may.runs);
      ends = c.take_off-taken.ensures.frames (over p t may.cross may.runs);
    } in
    fits_down p t p.heap frames (went_ended p t may.cross may.runs left frames h c.in_default-below.is) owns fit c.take_off-taken.new.shared
    c.take_off-taken.ensures.shared

pub set_revoked-requires : goal.set_revoked-requires
set_revoked-requires g c =
    let may = c.requires.may.1 in
    let p : MachineParts = record {
      world = c.args.w.now;
      owns = c.requires.may.0;
      shared = c.args.shared.now;
      heap = g.H.ObjectStore.content c.args.heap.now;
      frames = g.F.SegmentFrames.content c.args.frames.now;
    } in
    let t = c.args.t in
    let left = c.take_off-taken.result in
    let frames = g.F.SegmentFrames.content c.take_off-taken.new.frames in
    let h : HasTaken p t may.cross may.runs left frames = record {
      told = c.take_off-taken.ensures.told (over p t may.cross may.runs);
      ends = c.take_off-taken.ensures.frames (over p t may.cross may.runs);
    } in
    subst (λ (s : SharedState). (x : PlacedSegment) × (segment_numbered s.threads c.in-Some.below.segment ≡ Some x))
    (sym c.take_off-taken.ensures.shared) (flags_there p t may.cross may.runs left frames h c.in-Some.below c.in-Some.is)

pub returns-then-taken-clause-answer : goal.returns-then-taken-clause-answer
returns-then-taken-clause-answer g c = λ owns may.
    let p : MachineParts = record {
      world = c.args.w.now;
      owns = owns;
      shared = c.args.shared.now;
      heap = g.H.ObjectStore.content c.args.heap.now;
      frames = g.F.SegmentFrames.content c.args.frames.now;
    } in
    let t = c.args.t in
    let left = c.take_off-taken.result in
    let frames = g.F.SegmentFrames.content c.take_off-taken.new.frames in
    let h : HasTaken p t may.cross may.runs left frames = record {
      told = c.take_off-taken.ensures.told (over p t may.cross may.runs);
      ends = c.take_off-taken.ensures.frames (over p t may.cross may.runs);
    } in
    subst (λ (s : SharedState). LeavesByThrow (machine_of p) t c.args.throwable Became.Delivered
    (machine_of (record { world = p.world; owns = owns; shared = s; heap = p.heap; frames = frames })))
    (sym (c.set_revoked.ensures ∙ ap (with_flags c.in-Some.below.segment (with_revoked true)) c.take_off-taken.ensures.shared))
    (dropped_throw p t may.cross may.runs left frames h c.in-Some.below c.in-Some.is c.if-taken.true c.args.throwable)

pub returns-then-taken-clause-fitting : goal.returns-then-taken-clause-fitting
returns-then-taken-clause-fitting g c = λ owns fit.
    let may = c.requires.may.1 in
    let p : MachineParts = record {
      world = c.args.w.now;
      owns = c.requires.may.0;
      shared = c.args.shared.now;
      heap = g.H.ObjectStore.content c.args.heap.now;
      frames = g.F.SegmentFrames.content c.args.frames.now;
    } in
    let t = c.args.t in
    let left = c.take_off-taken.result in
    let frames = g.F.SegmentFrames.content c.take_off-taken.new.frames in
    let h : HasTaken p t may.cross may.runs left frames = record {
      told = c.take_off-taken.ensures.told (over p t may.cross may.runs);
      ends = c.take_off-taken.ensures.frames (over p t may.cross may.runs);
    } in
    fits_dropped p t may.cross may.runs left frames h c.in-Some.below c.in-Some.is owns fit c.set_revoked.new.self
    (c.set_revoked.ensures ∙ ap (with_flags c.in-Some.below.segment (with_revoked true)) c.take_off-taken.ensures.shared)

pub bring-requires : goal.bring-requires
bring-requires g c =
    let may = c.requires.may.1 in
    let p : MachineParts = record {
      world = c.args.w.now;
      owns = c.requires.may.0;
      shared = c.args.shared.now;
      heap = g.H.ObjectStore.content c.args.heap.now;
      frames = g.F.SegmentFrames.content c.args.frames.now;
    } in
    let t = c.args.t in
    let left = c.take_off-taken.result in
    let frames = g.F.SegmentFrames.content c.take_off-taken.new.frames in
    let h : HasTaken p t may.cross may.runs left frames = record {
      told = c.take_off-taken.ensures.told (over p t may.cross may.runs);
      ends = c.take_off-taken.ensures.frames (over p t may.cross may.runs);
    } in
    copy_asked p t may.cross may.runs left frames h c.in-Some.below c.in-Some.is (Held.Obj c.args.throwable)
    (Plain may.thrown.throwable.class may.thrown.throwable.fields, may.thrown.throwable.is_object)

pub returns-clause-answer : goal.returns-clause-answer
returns-clause-answer g c = λ owns may.
    let p : MachineParts = record {
      world = c.args.w.now;
      owns = owns;
      shared = c.args.shared.now;
      heap = g.H.ObjectStore.content c.args.heap.now;
      frames = g.F.SegmentFrames.content c.args.frames.now;
    } in
    let t = c.args.t in
    let left = c.take_off-taken.result in
    let frames = g.F.SegmentFrames.content c.take_off-taken.new.frames in
    let h : HasTaken p t may.cross may.runs left frames = record {
      told = c.take_off-taken.ensures.told (over p t may.cross may.runs);
      ends = c.take_off-taken.ensures.frames (over p t may.cross may.runs);
    } in
    let class : may.thrown.throwable.class ≡ c.in-Plain.class =
    same_class may.thrown.throwable.class c.in-Plain.class
    (sym (c.shape.ensures (Plain may.thrown.throwable.class may.thrown.throwable.fields)
    (thrown_there p t may.cross may.runs left frames h c.args.throwable may.thrown.throwable)) ∙ c.in-Plain.is) in
    let heap = g.H.ObjectStore.content c.bring.new.heap in
    subst (λ (s : SharedState). LeavesByThrow (machine_of p) t c.args.throwable (Became.Raised c.bring.result)
    (machine_of (record { world = p.world; owns = owns; shared = s; heap = heap; frames = frames }))) (sym c.take_off-taken.ensures.shared)
    (brought p t may.cross may.runs left frames h c.in-Some.below c.in-Some.is c.args.throwable may.thrown.throwable c.in-Plain.class class
    c.if-taken.false c.bring.result heap c.bring.ensures).0

pub returns-clause-fitting : goal.returns-clause-fitting
returns-clause-fitting g c = λ owns fit.
    let may = c.requires.may.1 in
    let p : MachineParts = record {
      world = c.args.w.now;
      owns = c.requires.may.0;
      shared = c.args.shared.now;
      heap = g.H.ObjectStore.content c.args.heap.now;
      frames = g.F.SegmentFrames.content c.args.frames.now;
    } in
    let t = c.args.t in
    let left = c.take_off-taken.result in
    let frames = g.F.SegmentFrames.content c.take_off-taken.new.frames in
    let h : HasTaken p t may.cross may.runs left frames = record {
      told = c.take_off-taken.ensures.told (over p t may.cross may.runs);
      ends = c.take_off-taken.ensures.frames (over p t may.cross may.runs);
    } in
    let class : may.thrown.throwable.class ≡ c.in-Plain.class =
    same_class may.thrown.throwable.class c.in-Plain.class
    (sym (c.shape.ensures (Plain may.thrown.throwable.class may.thrown.throwable.fields)
    (thrown_there p t may.cross may.runs left frames h c.args.throwable may.thrown.throwable)) ∙ c.in-Plain.is) in
    let heap = g.H.ObjectStore.content c.bring.new.heap in
    fits_down p t heap frames
    (brought p t may.cross may.runs left frames h c.in-Some.below c.in-Some.is c.args.throwable may.thrown.throwable c.in-Plain.class class
    c.if-taken.false c.bring.result heap c.bring.ensures).1 owns fit c.take_off-taken.new.shared c.take_off-taken.ensures.shared
