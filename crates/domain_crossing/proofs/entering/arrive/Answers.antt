-- The segment is pushed and begins, and the arguments leave the caller's stack for its locals.
use Rattle.std.proofs.Common.{◌≡◌, suc, ◌≤◌, List, [], ◌∷◌, length, sym, ap, subst, ◌∙◌, arith}
use Rattle.jk_model.specs.declared.identifiers.SegmentNo.{SegmentNo}
use Rattle.jk_model.specs.declared.values.Value.{Value}
use Rattle.jk_model.specs.declared.values.Value.TheVariants as Held
use Rattle.jk_model_frames.specs.Frames.{called_frame, locals_of}
use Rattle.domain_crossing.specs.EnteringCalls.{next_segment}
use Rattle.domain_crossing.specs.MovedArguments.{HasArrived}
use Rattle.domain_crossing.proofs.ArgumentsCarried.{admitted_still, has_an_entry, just_begun, new_still, no_values, receiver_off, room_still}
use Rattle.domain_crossing.proofs.entering.arrive.Goals as goal

pub push-n-requires-clause-live : goal.push-n-requires-clause-live
push-n-requires-clause-live g c = c.requires.arrives.live

pub push-n-requires-clause-thread : goal.push-n-requires-clause-thread
push-n-requires-clause-thread g c = c.requires.arrives.thread

pub push-n-requires-clause-room : goal.push-n-requires-clause-room
push-n-requires-clause-room g c = (let enough = c.requires.chunks in c.requires.arrives.room (omega (arith, enough)))

pub push-n-requires-clause-number : goal.push-n-requires-clause-number
push-n-requires-clause-number g c = c.requires.arrives.number

-- ---- Where there are no arguments.

pub pop_value-capability-requires : goal.pop_value-capability-requires
pop_value-capability-requires g c =
    let old = g.F.SegmentFrames.content c.args.frames.now in
    has_an_entry old old c.args.caller.now.segment c.requires.fits.0

pub begin-requires-clause-admitted : goal.begin-requires-clause-admitted
begin-requires-clause-admitted g c =
    let old = g.F.SegmentFrames.content c.args.frames.now in
    let mid = g.F.SegmentFrames.content c.pop_value-capability.new.self in
    let s = c.args.caller.now.segment in
    let call = c.requires.fits.0 in
    let none : c.args.caller.now.given ≡ 0 = omega arith in
    let sets = receiver_off old mid s call c.pop_value-capability.result (c.requires.fits.2.many ∙ none) c.pop_value-capability.ensures in
    admitted_still old mid s call call.below sets c.push-n.result c.args.callee.now.owner c.args.callee.now.head c.requires.arrives.admitted

pub begin-requires-clause-new : goal.begin-requires-clause-new
begin-requires-clause-new g c =
    let old = g.F.SegmentFrames.content c.args.frames.now in
    let mid = g.F.SegmentFrames.content c.pop_value-capability.new.self in
    let s = c.args.caller.now.segment in
    let call = c.requires.fits.0 in
    let none : c.args.caller.now.given ≡ 0 = omega arith in
    let number : c.push-n.result ≡ next_segment c.args.shared.now = (λ i. record { 0 = c.push-n.ensures.number i }) in
    let sets = receiver_off old mid s call c.pop_value-capability.result (c.requires.fits.2.many ∙ none) c.pop_value-capability.ensures in
    new_still old mid s call call.below sets c.push-n.result c.args.callee.now.owner c.args.callee.now.head
    (ap old.segment number ∙ c.requires.arrives.new)

pub begin-requires-clause-chunks : goal.begin-requires-clause-chunks
begin-requires-clause-chunks g c =
    let old = g.F.SegmentFrames.content c.args.frames.now in
    let mid = g.F.SegmentFrames.content c.pop_value-capability.new.self in
    let s = c.args.caller.now.segment in
    let call = c.requires.fits.0 in
    let none : c.args.caller.now.given ≡ 0 = omega arith in
    let sets = receiver_off old mid s call c.pop_value-capability.result (c.requires.fits.2.many ∙ none) c.pop_value-capability.ensures in
    room_still old mid s call call.below sets c.push-n.result c.args.callee.now.owner c.args.callee.now.head c.requires.chunks

pub begin-requires-clause-local : goal.begin-requires-clause-local
begin-requires-clause-local g c =
    let fits : suc (length (locals_of c.requires.fits.1)) ≤ c.args.callee.now.head.max_locals = c.requires.fits.3 in
    omega (arith, fits)

pub returns-then-caller-eq0-clause-frames : goal.returns-then-caller-eq0-clause-frames
returns-then-caller-eq0-clause-frames g c = λ call values carries fits.
    let old = g.F.SegmentFrames.content c.args.frames.now in
    let mid = g.F.SegmentFrames.content c.pop_value-capability.new.self in
    let new = g.F.SegmentFrames.content c.begin.new.frames in
    let s = c.args.caller.now.segment in
    let owner = c.args.callee.now.owner in
    let head = c.args.callee.now.head in
    let target = c.args.callee.now.target in
    let none : c.args.caller.now.given ≡ 0 = omega arith in
    let number : c.push-n.result ≡ next_segment c.args.shared.now = (λ i. record { 0 = c.push-n.ensures.number i }) in
    let sets = receiver_off old mid s call c.pop_value-capability.result (carries.many ∙ none) c.pop_value-capability.ensures in
    let begun = just_begun old mid s call new c.push-n.result owner (called_frame head (Held.Obj target ∷ [])) sets c.begin.ensures in
    subst (λ (vs : List Value). HasArrived call (next_segment c.args.shared.now) owner (called_frame head (Held.Obj target ∷ vs)) new)
    (sym (no_values values (carries.as_many ∙ none)))
    (subst (λ (n : SegmentNo). HasArrived call n owner (called_frame head (Held.Obj target ∷ [])) new) number begun)

-- ---- Where there are some.

pub carry-requires-clause-admitted : goal.carry-requires-clause-admitted
carry-requires-clause-admitted g c = c.requires.arrives.admitted

pub carry-requires-clause-new : goal.carry-requires-clause-new
carry-requires-clause-new g c =
    let number : c.push-n.result ≡ next_segment c.args.shared.now = (λ i. record { 0 = c.push-n.ensures.number i }) in
    ap (g.F.SegmentFrames.content c.args.frames.now).segment number ∙ c.requires.arrives.new

pub returns-clause-frames : goal.returns-clause-frames
returns-clause-frames g c = λ call values carries fits.
    let owner = c.args.callee.now.owner in
    let frame = called_frame c.args.callee.now.head (Held.Obj c.args.callee.now.target ∷ values) in
    let number : c.push-n.result ≡ next_segment c.args.shared.now = (λ i. record { 0 = c.push-n.ensures.number i }) in
    subst (λ (n : SegmentNo). HasArrived call n owner frame (g.F.SegmentFrames.content c.carry.new.frames)) number
    (c.carry.ensures call values carries fits).0
