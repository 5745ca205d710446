-- By what the capability leads to, and then as the call is let enter.
use Rattle.std.proofs.Common.{◌∙◌, refl, subst}
use Rattle.machine_parts.specs.MachineParts.{MachineParts}
use Rattle.domain_crossing.specs.declared.answers.Crossed.{Crossed}
use Rattle.domain_crossing.specs.EnteringCalls.{EntersSo}
use Rattle.domain_crossing.specs.PassedValues.{Crossing}
use Rattle.domain_crossing.proofs.CallsAsked.{IsCalled, answered, arrives, as_many, copied, few, few_params, fit, fits, given_out, here, is_method, refuses, runs, stubs_kept, unchanged}
use Rattle.domain_crossing.proofs.CallsEnter.{frames_same, home_of}
use Rattle.domain_crossing.proofs.SegmentsArrive.{heap_same}
use Rattle.domain_crossing.proofs.TopsTakenOff.{over, shared_apart}
use Rattle.domain_crossing.proofs.entering.enter.Goals as goal

pub find_callee-requires : goal.find_callee-requires
find_callee-requires g c =
    let p : MachineParts = record {
      world = c.args.w.now;
      owns = c.requires.may.0;
      shared = c.args.shared.now;
      heap = g.H.ObjectStore.content c.args.heap.now;
      frames = g.F.SegmentFrames.content c.args.frames.now;
    } in
    let t = c.args.t in
    let k = c.args.k in
    let m = c.args.method in
    given_out p t k m c.requires.may.1

pub returns-in-Err-clause-answer : goal.returns-in-Err-clause-answer
returns-in-Err-clause-answer g c = λ owns may.
    let p : MachineParts = record {
      world = c.args.w.now;
      owns = owns;
      shared = c.args.shared.now;
      heap = g.H.ObjectStore.content c.args.heap.now;
      frames = g.F.SegmentFrames.content c.args.frames.now;
    } in
    let t = c.args.t in
    let k = c.args.k in
    let m = c.args.method in
    refuses p t k m may c.in-Err.r c.in-Err.ensures

pub returns-in-Err-clause-as_before : goal.returns-in-Err-clause-as_before
returns-in-Err-clause-as_before g c = λ r e.
    (refl, heap_same (g.H.ObjectStore.content c.args.heap.now), frames_same (g.F.SegmentFrames.content c.args.frames.now))

pub returns-in-Err-clause-fitting : goal.returns-in-Err-clause-fitting
returns-in-Err-clause-fitting g c = λ owns fit. fit

pub caller_of-caller-requires-clause-apart : goal.caller_of-caller-requires-clause-apart
caller_of-caller-requires-clause-apart g c =
    let may = c.requires.may.1 in
    let p : MachineParts = record {
      world = c.args.w.now;
      owns = c.requires.may.0;
      shared = c.args.shared.now;
      heap = g.H.ObjectStore.content c.args.heap.now;
      frames = g.F.SegmentFrames.content c.args.frames.now;
    } in
    let t = c.args.t in
    let k = c.args.k in
    let m = c.args.method in
    shared_apart p t may.cross may.call.place

pub caller_of-caller-requires-clause-method : goal.caller_of-caller-requires-clause-method
caller_of-caller-requires-clause-method g c =
    let may = c.requires.may.1 in
    let p : MachineParts = record {
      world = c.args.w.now;
      owns = c.requires.may.0;
      shared = c.args.shared.now;
      heap = g.H.ObjectStore.content c.args.heap.now;
      frames = g.F.SegmentFrames.content c.args.frames.now;
    } in
    let t = c.args.t in
    let k = c.args.k in
    let m = c.args.method in
    (may.call.named, is_method p t k m may, few_params p t k m may)

pub caller_of-caller-requires-clause-top : goal.caller_of-caller-requires-clause-top
caller_of-caller-requires-clause-top g c =
    let may = c.requires.may.1 in
    let p : MachineParts = record {
      world = c.args.w.now;
      owns = c.requires.may.0;
      shared = c.args.shared.now;
      heap = g.H.ObjectStore.content c.args.heap.now;
      frames = g.F.SegmentFrames.content c.args.frames.now;
    } in
    let t = c.args.t in
    let k = c.args.k in
    let m = c.args.method in
    over p t may.cross may.call.place

pub cross-requires-clause-arrives : goal.cross-requires-clause-arrives
cross-requires-clause-arrives g c =
    let may = c.requires.may.1 in
    let p : MachineParts = record {
      world = c.args.w.now;
      owns = c.requires.may.0;
      shared = c.args.shared.now;
      heap = g.H.ObjectStore.content c.args.heap.now;
      frames = g.F.SegmentFrames.content c.args.frames.now;
    } in
    let t = c.args.t in
    let k = c.args.k in
    let m = c.args.method in
    let callee = c.in-Ok.callee in
    let caller = c.caller_of-caller.result in
    let top = over p t may.cross may.call.place in
    let called : IsCalled p t k m may callee caller = record {
      run = runs p t k m may callee c.in-Ok.ensures;
      at = c.caller_of-caller.ensures.segment top;
      domain = c.caller_of-caller.ensures.domain top ∙ home_of p t may.cross may.call;
      count = c.caller_of-caller.ensures.given may.call.named (is_method p t k m may);
    } in
    arrives p t k m may callee caller called

pub cross-requires-clause-few : goal.cross-requires-clause-few
cross-requires-clause-few g c =
    let may = c.requires.may.1 in
    let p : MachineParts = record {
      world = c.args.w.now;
      owns = c.requires.may.0;
      shared = c.args.shared.now;
      heap = g.H.ObjectStore.content c.args.heap.now;
      frames = g.F.SegmentFrames.content c.args.frames.now;
    } in
    let t = c.args.t in
    let k = c.args.k in
    let m = c.args.method in
    let callee = c.in-Ok.callee in
    let caller = c.caller_of-caller.result in
    let top = over p t may.cross may.call.place in
    let called : IsCalled p t k m may callee caller = record {
      run = runs p t k m may callee c.in-Ok.ensures;
      at = c.caller_of-caller.ensures.segment top;
      domain = c.caller_of-caller.ensures.domain top ∙ home_of p t may.cross may.call;
      count = c.caller_of-caller.ensures.given may.call.named (is_method p t k m may);
    } in
    few p t k m may callee caller called

pub cross-requires-clause-may : goal.cross-requires-clause-may
cross-requires-clause-may g c =
    let may = c.requires.may.1 in
    let p : MachineParts = record {
      world = c.args.w.now;
      owns = c.requires.may.0;
      shared = c.args.shared.now;
      heap = g.H.ObjectStore.content c.args.heap.now;
      frames = g.F.SegmentFrames.content c.args.frames.now;
    } in
    let t = c.args.t in
    let k = c.args.k in
    let m = c.args.method in
    let callee = c.in-Ok.callee in
    let caller = c.caller_of-caller.result in
    let top = over p t may.cross may.call.place in
    let called : IsCalled p t k m may callee caller = record {
      run = runs p t k m may callee c.in-Ok.ensures;
      at = c.caller_of-caller.ensures.segment top;
      domain = c.caller_of-caller.ensures.domain top ∙ home_of p t may.cross may.call;
      count = c.caller_of-caller.ensures.given may.call.named (is_method p t k m may);
    } in (
      here p t k m may callee caller called,
      as_many p t k m may callee caller called,
      copied p t k m may callee caller called,
      fit p t k m may callee caller called,
    )

pub returns-clause-answer : goal.returns-clause-answer
returns-clause-answer g c = λ owns may.
    let p : MachineParts = record {
      world = c.args.w.now;
      owns = owns;
      shared = c.args.shared.now;
      heap = g.H.ObjectStore.content c.args.heap.now;
      frames = g.F.SegmentFrames.content c.args.frames.now;
    } in
    let t = c.args.t in
    let k = c.args.k in
    let m = c.args.method in
    let callee = c.in-Ok.callee in
    let caller = c.caller_of-caller.result in
    let top = over p t may.cross may.call.place in
    let called : IsCalled p t k m may callee caller = record {
      run = runs p t k m may callee c.in-Ok.ensures;
      at = c.caller_of-caller.ensures.segment top;
      domain = c.caller_of-caller.ensures.domain top ∙ home_of p t may.cross may.call;
      count = c.caller_of-caller.ensures.given may.call.named (is_method p t k m may);
    } in
    let heap = g.H.ObjectStore.content c.cross.new.heap in
    let after = g.F.SegmentFrames.content c.cross.new.frames in
    let done = c.cross.ensures (here p t k m may callee caller called) (as_many p t k m may callee caller called)
    (fit p t k m may callee caller called) in
    answered p t k m may callee caller called c.cross.result heap c.cross.new.shared after done

pub returns-clause-as_before : goal.returns-clause-as_before
returns-clause-as_before g c = λ r e.
    let may = c.requires.may.1 in
    let p : MachineParts = record {
      world = c.args.w.now;
      owns = c.requires.may.0;
      shared = c.args.shared.now;
      heap = g.H.ObjectStore.content c.args.heap.now;
      frames = g.F.SegmentFrames.content c.args.frames.now;
    } in
    let t = c.args.t in
    let k = c.args.k in
    let m = c.args.method in
    let callee = c.in-Ok.callee in
    let caller = c.caller_of-caller.result in
    let top = over p t may.cross may.call.place in
    let called : IsCalled p t k m may callee caller = record {
      run = runs p t k m may callee c.in-Ok.ensures;
      at = c.caller_of-caller.ensures.segment top;
      domain = c.caller_of-caller.ensures.domain top ∙ home_of p t may.cross may.call;
      count = c.caller_of-caller.ensures.given may.call.named (is_method p t k m may);
    } in
    let heap = g.H.ObjectStore.content c.cross.new.heap in
    let after = g.F.SegmentFrames.content c.cross.new.frames in
    let done = c.cross.ensures (here p t k m may callee caller called) (as_many p t k m may callee caller called)
    (fit p t k m may callee caller called) in
    let crossing : Crossing = record { world = p.world; heap = p.heap; from = caller.domain; to = callee.owner } in
    unchanged p t k m may callee caller called r heap c.cross.new.shared after
    (subst (λ (x : Crossed). EntersSo crossing c.args.shared.now (here p t k m may callee caller called) t callee x heap c.cross.new.shared after) e done)

pub returns-clause-stubs : goal.returns-clause-stubs
returns-clause-stubs g c =
    let may = c.requires.may.1 in
    let p : MachineParts = record {
      world = c.args.w.now;
      owns = c.requires.may.0;
      shared = c.args.shared.now;
      heap = g.H.ObjectStore.content c.args.heap.now;
      frames = g.F.SegmentFrames.content c.args.frames.now;
    } in
    let t = c.args.t in
    let k = c.args.k in
    let m = c.args.method in
    let callee = c.in-Ok.callee in
    let caller = c.caller_of-caller.result in
    let top = over p t may.cross may.call.place in
    let called : IsCalled p t k m may callee caller = record {
      run = runs p t k m may callee c.in-Ok.ensures;
      at = c.caller_of-caller.ensures.segment top;
      domain = c.caller_of-caller.ensures.domain top ∙ home_of p t may.cross may.call;
      count = c.caller_of-caller.ensures.given may.call.named (is_method p t k m may);
    } in
    let heap = g.H.ObjectStore.content c.cross.new.heap in
    let after = g.F.SegmentFrames.content c.cross.new.frames in
    let done = c.cross.ensures (here p t k m may callee caller called) (as_many p t k m may callee caller called)
    (fit p t k m may callee caller called) in
    stubs_kept (here p t k m may callee caller called) t callee c.cross.result heap c.cross.new.shared after done

pub returns-clause-fitting : goal.returns-clause-fitting
returns-clause-fitting g c = λ owns fit_before.
    let may = c.requires.may.1 in
    let p : MachineParts = record {
      world = c.args.w.now;
      owns = c.requires.may.0;
      shared = c.args.shared.now;
      heap = g.H.ObjectStore.content c.args.heap.now;
      frames = g.F.SegmentFrames.content c.args.frames.now;
    } in
    let t = c.args.t in
    let k = c.args.k in
    let m = c.args.method in
    let callee = c.in-Ok.callee in
    let caller = c.caller_of-caller.result in
    let top = over p t may.cross may.call.place in
    let called : IsCalled p t k m may callee caller = record {
      run = runs p t k m may callee c.in-Ok.ensures;
      at = c.caller_of-caller.ensures.segment top;
      domain = c.caller_of-caller.ensures.domain top ∙ home_of p t may.cross may.call;
      count = c.caller_of-caller.ensures.given may.call.named (is_method p t k m may);
    } in
    let heap = g.H.ObjectStore.content c.cross.new.heap in
    let after = g.F.SegmentFrames.content c.cross.new.frames in
    let done = c.cross.ensures (here p t k m may callee caller called) (as_many p t k m may callee caller called)
    (fit p t k m may callee caller called) in
    fits p t k m may callee caller called c.cross.result heap c.cross.new.shared after done owns fit_before
