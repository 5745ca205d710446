-- A thread that rests does nothing, and the step of each other one is taken.
use Rattle.std.proofs.Common.{Bool, Result, [], ◌++◌, refl, sym, subst}
use Rattle.std.proofs.lemmas.Result.{err_from_is_err_and}
use Rattle.jk_model.specs.declared.identifiers.ThreadNo.{ThreadNo}
use Rattle.jk_model_machine_state.specs.Machines.{Machine}
use Rattle.jk_model_runs.specs.Steps.{Rested, Steps}
use Rattle.jk_outside.specs.declared.sinks.SinkFailed.{SinkFailed}
use Rattle.kernel_events.specs.KernelCalls.{MayDraw}
use Rattle.kernel_events.specs.PrintedLines.{Prints, SinkState, as_done}
use Rattle.kernel_parts.specs.SoundKernels.{KernelContent, kernel_machine, parts_of}
use Rattle.machine_laws.specs.KnownMachines.{IsKnownMachine}
use Rattle.kernel_turns.specs.RestingThreads.{IsResting}
use Rattle.kernel_turns.proofs.FramesOfThreads.{lives, runs_at}
use Rattle.domain_crossing.proofs.PartsEntered.{sealed_apart}
use Rattle.kernel_turns.proofs.SegmentsApart.{apart_in_shared}
use Rattle.domain_ends.proofs.PrintedLines.{printed_none}
use Rattle.kernel_turns.proofs.PrintedSteps.{failed_as}
use Rattle.kernel_turns.proofs.RestsTold.{sink_failed, step_taken}
use Rattle.kernel_turns.proofs.StepsPaid.{never_rests}
use Rattle.kernel_turns.proofs.WholeSteps.{none_steps, own_there, ready_so, rests_so, running_there, same_thread, top_there}
use Rattle.kernel_turns.proofs.whole_steps.step.Goals as goal

pub run_of-requires : goal.run_of-requires
run_of-requires g c =
    let k : KernelContent = record {
      world = c.k.inside.world;
      owns = c.k.inside.owns.items;
      shared = c.k.inside.shared;
      heap = g.H.ObjectStore.content c.k.inside.heap;
      frames = g.F.SegmentFrames.content c.k.inside.frames;
      main_kind = c.k.inside.main_kind;
    } in
    apart_in_shared (parts_of k) (sealed_apart (kernel_machine k) c.k.invariant.sound.sealed)

pub returns-in_default-clause-event : goal.returns-in_default-clause-event
returns-in_default-clause-event g c =
    let k : KernelContent = record {
      world = c.k.inside.world;
      owns = c.k.inside.owns.items;
      shared = c.k.inside.shared;
      heap = g.H.ObjectStore.content c.k.inside.heap;
      frames = g.F.SegmentFrames.content c.k.inside.frames;
      main_kind = c.k.inside.main_kind;
    } in
    let known : IsKnownMachine (kernel_machine k) = subst IsKnownMachine (sym c.k.view_is) c.requires.known in
    let a : SinkState = record { bytes = g.S.Sink.bytes c.args.out.now; pieces = g.S.Sink.pieces c.args.out.now; faults = g.S.Sink.faults c.args.out.now } in
    let rests = none_steps k c.args.t c.k.invariant known (c.in_default.ensures.none) in
    let there : IsResting c.args.k.now c.args.t = subst (λ (m : Machine). IsResting m c.args.t) c.k.view_is rests in
    ([], printed_none a (g.met.S.Sink.faults_fit c.args.out.now), (Rested, there))

pub returns-in_default-clause-rests : goal.returns-in_default-clause-rests
returns-in_default-clause-rests g c =
    let k : KernelContent = record {
      world = c.k.inside.world;
      owns = c.k.inside.owns.items;
      shared = c.k.inside.shared;
      heap = g.H.ObjectStore.content c.k.inside.heap;
      frames = g.F.SegmentFrames.content c.k.inside.frames;
      main_kind = c.k.inside.main_kind;
    } in
    let known : IsKnownMachine (kernel_machine k) = subst IsKnownMachine (sym c.k.view_is) c.requires.known in
    let rests = none_steps k c.args.t c.k.invariant known (c.in_default.ensures.none) in
    let there : IsResting c.args.k.now c.args.t = subst (λ (m : Machine). IsResting m c.args.t) c.k.view_is rests in
    λ _. (refl, (Rested, there))

pub returns-in_default-clause-resting : goal.returns-in_default-clause-resting
returns-in_default-clause-resting g c =
    let k : KernelContent = record {
      world = c.k.inside.world;
      owns = c.k.inside.owns.items;
      shared = c.k.inside.shared;
      heap = g.H.ObjectStore.content c.k.inside.heap;
      frames = g.F.SegmentFrames.content c.k.inside.frames;
      main_kind = c.k.inside.main_kind;
    } in
    let known : IsKnownMachine (kernel_machine k) = subst IsKnownMachine (sym c.k.view_is) c.requires.known in
    let rests = none_steps k c.args.t c.k.invariant known (c.in_default.ensures.none) in
    let there : IsResting c.args.k.now c.args.t = subst (λ (m : Machine). IsResting m c.args.t) c.k.view_is rests in
    (λ _. there, λ _. refl)

pub meet_in-met-requires-clause-own : goal.meet_in-met-requires-clause-own
meet_in-met-requires-clause-own g c =
    let k : KernelContent = record {
      world = c.k.inside.world;
      owns = c.k.inside.owns.items;
      shared = c.k.inside.shared;
      heap = g.H.ObjectStore.content c.k.inside.heap;
      frames = g.F.SegmentFrames.content c.k.inside.frames;
      main_kind = c.k.inside.main_kind;
    } in
    let known : IsKnownMachine (kernel_machine k) = subst IsKnownMachine (sym c.k.view_is) c.requires.known in
    let x = c.in-Some.running in
    let is = c.in-Some.ensures.some in
    ((runs_at k c.args.t c.k.invariant known is.segment is.is_top).own, own_there k c.args.t c.k.invariant known x is)

pub meet_in-met-requires-clause-top : goal.meet_in-met-requires-clause-top
meet_in-met-requires-clause-top g c =
    let k : KernelContent = record {
      world = c.k.inside.world;
      owns = c.k.inside.owns.items;
      shared = c.k.inside.shared;
      heap = g.H.ObjectStore.content c.k.inside.heap;
      frames = g.F.SegmentFrames.content c.k.inside.frames;
      main_kind = c.k.inside.main_kind;
    } in
    let known : IsKnownMachine (kernel_machine k) = subst IsKnownMachine (sym c.k.view_is) c.requires.known in
    let x = c.in-Some.running in
    let is = c.in-Some.ensures.some in
    top_there k c.args.t c.k.invariant known x is

pub rests-requires : goal.rests-requires
rests-requires g c =
    let k : KernelContent = record {
      world = c.k.inside.world;
      owns = c.k.inside.owns.items;
      shared = c.k.inside.shared;
      heap = g.H.ObjectStore.content c.k.inside.heap;
      frames = g.F.SegmentFrames.content c.k.inside.frames;
      main_kind = c.k.inside.main_kind;
    } in
    let known : IsKnownMachine (kernel_machine k) = subst IsKnownMachine (sym c.k.view_is) c.requires.known in
    let x = c.in-Some.running in
    let is = c.in-Some.ensures.some in
    lives k c.args.t c.k.invariant known x is

pub returns-then-rests-clause-event : goal.returns-then-rests-clause-event
returns-then-rests-clause-event g c =
    let k : KernelContent = record {
      world = c.k.inside.world;
      owns = c.k.inside.owns.items;
      shared = c.k.inside.shared;
      heap = g.H.ObjectStore.content c.k.inside.heap;
      frames = g.F.SegmentFrames.content c.k.inside.frames;
      main_kind = c.k.inside.main_kind;
    } in
    let known : IsKnownMachine (kernel_machine k) = subst IsKnownMachine (sym c.k.view_is) c.requires.known in
    let x = c.in-Some.running in
    let is = c.in-Some.ensures.some in
    let a : SinkState = record { bytes = g.S.Sink.bytes c.args.out.now; pieces = g.S.Sink.pieces c.args.out.now; faults = g.S.Sink.faults c.args.out.now } in
    let top = top_there k c.args.t c.k.invariant known x is in
    let own = own_there k c.args.t c.k.invariant known x is in
    let meets = c.meet_in-met.ensures (runs_at k c.args.t c.k.invariant known is.segment is.is_top).own own top.0 top.1 in
    let rests = rests_so k c.args.t c.k.invariant known x is top.0 c.meet_in-met.result top.1 meets (c.rests.ensures.yes c.if-rests.true) in
    let there : IsResting c.args.k.now c.args.t = subst (λ (m : Machine). IsResting m c.args.t) c.k.view_is rests in
    ([], printed_none a (g.met.S.Sink.faults_fit c.args.out.now), (Rested, there))

pub returns-then-rests-clause-rests : goal.returns-then-rests-clause-rests
returns-then-rests-clause-rests g c =
    let k : KernelContent = record {
      world = c.k.inside.world;
      owns = c.k.inside.owns.items;
      shared = c.k.inside.shared;
      heap = g.H.ObjectStore.content c.k.inside.heap;
      frames = g.F.SegmentFrames.content c.k.inside.frames;
      main_kind = c.k.inside.main_kind;
    } in
    let known : IsKnownMachine (kernel_machine k) = subst IsKnownMachine (sym c.k.view_is) c.requires.known in
    let x = c.in-Some.running in
    let is = c.in-Some.ensures.some in
    let top = top_there k c.args.t c.k.invariant known x is in
    let own = own_there k c.args.t c.k.invariant known x is in
    let meets = c.meet_in-met.ensures (runs_at k c.args.t c.k.invariant known is.segment is.is_top).own own top.0 top.1 in
    let rests = rests_so k c.args.t c.k.invariant known x is top.0 c.meet_in-met.result top.1 meets (c.rests.ensures.yes c.if-rests.true) in
    let there : IsResting c.args.k.now c.args.t = subst (λ (m : Machine). IsResting m c.args.t) c.k.view_is rests in
    λ _. (refl, (Rested, there))

pub returns-then-rests-clause-resting : goal.returns-then-rests-clause-resting
returns-then-rests-clause-resting g c =
    let k : KernelContent = record {
      world = c.k.inside.world;
      owns = c.k.inside.owns.items;
      shared = c.k.inside.shared;
      heap = g.H.ObjectStore.content c.k.inside.heap;
      frames = g.F.SegmentFrames.content c.k.inside.frames;
      main_kind = c.k.inside.main_kind;
    } in
    let known : IsKnownMachine (kernel_machine k) = subst IsKnownMachine (sym c.k.view_is) c.requires.known in
    let x = c.in-Some.running in
    let is = c.in-Some.ensures.some in
    let top = top_there k c.args.t c.k.invariant known x is in
    let own = own_there k c.args.t c.k.invariant known x is in
    let meets = c.meet_in-met.ensures (runs_at k c.args.t c.k.invariant known is.segment is.is_top).own own top.0 top.1 in
    let rests = rests_so k c.args.t c.k.invariant known x is top.0 c.meet_in-met.result top.1 meets (c.rests.ensures.yes c.if-rests.true) in
    let there : IsResting c.args.k.now c.args.t = subst (λ (m : Machine). IsResting m c.args.t) c.k.view_is rests in
    (λ _. there, λ _. refl)

pub begin-went-requires-clause-ready : goal.begin-went-requires-clause-ready
begin-went-requires-clause-ready g c =
    let k : KernelContent = record {
      world = c.k.inside.world;
      owns = c.k.inside.owns.items;
      shared = c.k.inside.shared;
      heap = g.H.ObjectStore.content c.k.inside.heap;
      frames = g.F.SegmentFrames.content c.k.inside.frames;
      main_kind = c.k.inside.main_kind;
    } in
    let known : IsKnownMachine (kernel_machine k) = subst IsKnownMachine (sym c.k.view_is) c.requires.known in
    let x = c.in-Some.running in
    let is = c.in-Some.ensures.some in
    let here = running_there k c.args.t x is in
    let u = x.runs.thread in
    let top = top_there k u c.k.invariant known x here in
    let own = own_there k u c.k.invariant known x here in
    let meets = c.meet_in-met.ensures (runs_at k u c.k.invariant known here.segment here.is_top).own own top.0 top.1 in
    let no = c.rests.ensures.no c.if-rests.false in
    let ready = ready_so k x c.k.invariant known here top.0 c.meet_in-met.result top.1 meets no.0 no.1 no.2
    (subst (λ (m : Machine). MayDraw m 1) (sym c.k.view_is) c.requires.numbers) in
    (c.k.inside.main_kind, ready)

pub begin-went-requires-clause-met : goal.begin-went-requires-clause-met
begin-went-requires-clause-met g c =
    let k : KernelContent = record {
      world = c.k.inside.world;
      owns = c.k.inside.owns.items;
      shared = c.k.inside.shared;
      heap = g.H.ObjectStore.content c.k.inside.heap;
      frames = g.F.SegmentFrames.content c.k.inside.frames;
      main_kind = c.k.inside.main_kind;
    } in
    let known : IsKnownMachine (kernel_machine k) = subst IsKnownMachine (sym c.k.view_is) c.requires.known in
    let x = c.in-Some.running in
    let is = c.in-Some.ensures.some in
    let here = running_there k c.args.t x is in
    let u = x.runs.thread in
    let top = top_there k u c.k.invariant known x here in
    let own = own_there k u c.k.invariant known x here in
    let meets = c.meet_in-met.ensures (runs_at k u c.k.invariant known here.segment here.is_top).own own top.0 top.1 in
    let no = c.rests.ensures.no c.if-rests.false in
    let ready = ready_so k x c.k.invariant known here top.0 c.meet_in-met.result top.1 meets no.0 no.1 no.2
    (subst (λ (m : Machine). MayDraw m 1) (sym c.k.view_is) c.requires.numbers) in
    ((runs_at k u c.k.invariant known here.segment here.is_top).own, own, (top.0, top.1, meets))

pub finish-requires : goal.finish-requires
finish-requires g c =
    let k : KernelContent = record {
      world = c.k.inside.world;
      owns = c.k.inside.owns.items;
      shared = c.k.inside.shared;
      heap = g.H.ObjectStore.content c.k.inside.heap;
      frames = g.F.SegmentFrames.content c.k.inside.frames;
      main_kind = c.k.inside.main_kind;
    } in
    let known : IsKnownMachine (kernel_machine k) = subst IsKnownMachine (sym c.k.view_is) c.requires.known in
    let x = c.in-Some.running in
    let is = c.in-Some.ensures.some in
    let here = running_there k c.args.t x is in
    let u = x.runs.thread in
    let top = top_there k u c.k.invariant known x here in
    let own = own_there k u c.k.invariant known x here in
    let meets = c.meet_in-met.ensures (runs_at k u c.k.invariant known here.segment here.is_top).own own top.0 top.1 in
    let no = c.rests.ensures.no c.if-rests.false in
    let ready = ready_so k x c.k.invariant known here top.0 c.meet_in-met.result top.1 meets no.0 no.1 no.2
    (subst (λ (m : Machine). MayDraw m 1) (sym c.k.view_is) c.requires.numbers) in
    let started = c.begin-went.ensures c.k.inside.main_kind ready in
    record { may = (c.k.inside.main_kind, started.2.may) }

pub invariant_of-k : goal.invariant_of-k
invariant_of-k g c =
    let k : KernelContent = record {
      world = c.k.inside.world;
      owns = c.k.inside.owns.items;
      shared = c.k.inside.shared;
      heap = g.H.ObjectStore.content c.k.inside.heap;
      frames = g.F.SegmentFrames.content c.k.inside.frames;
      main_kind = c.k.inside.main_kind;
    } in
    let known : IsKnownMachine (kernel_machine k) = subst IsKnownMachine (sym c.k.view_is) c.requires.known in
    let x = c.in-Some.running in
    let is = c.in-Some.ensures.some in
    let here = running_there k c.args.t x is in
    let u = x.runs.thread in
    let top = top_there k u c.k.invariant known x here in
    let own = own_there k u c.k.invariant known x here in
    let meets = c.meet_in-met.ensures (runs_at k u c.k.invariant known here.segment here.is_top).own own top.0 top.1 in
    let no = c.rests.ensures.no c.if-rests.false in
    let ready = ready_so k x c.k.invariant known here top.0 c.meet_in-met.result top.1 meets no.0 no.1 no.2
    (subst (λ (m : Machine). MayDraw m 1) (sym c.k.view_is) c.requires.numbers) in
    let n : KernelContent = record {
      world = c.finish.new.w;
      owns = c.finish.new.owns.items;
      shared = c.finish.new.shared;
      heap = g.H.ObjectStore.content c.finish.new.heap;
      frames = g.F.SegmentFrames.content c.finish.new.frames;
      main_kind = c.k.inside.main_kind;
    } in
    let started = c.begin-went.ensures c.k.inside.main_kind ready in
    let on = c.finish.ensures in
    let stepped = started.2.steps on.0 n (on.2 c.k.inside.main_kind started.2.may) in
    stepped.1

pub returns-in_err-finish-clause-event : goal.returns-in_err-finish-clause-event
returns-in_err-finish-clause-event g c =
    let k : KernelContent = record {
      world = c.k.inside.world;
      owns = c.k.inside.owns.items;
      shared = c.k.inside.shared;
      heap = g.H.ObjectStore.content c.k.inside.heap;
      frames = g.F.SegmentFrames.content c.k.inside.frames;
      main_kind = c.k.inside.main_kind;
    } in
    let known : IsKnownMachine (kernel_machine k) = subst IsKnownMachine (sym c.k.view_is) c.requires.known in
    let x = c.in-Some.running in
    let is = c.in-Some.ensures.some in
    let here = running_there k c.args.t x is in
    let u = x.runs.thread in
    let top = top_there k u c.k.invariant known x here in
    let own = own_there k u c.k.invariant known x here in
    let meets = c.meet_in-met.ensures (runs_at k u c.k.invariant known here.segment here.is_top).own own top.0 top.1 in
    let no = c.rests.ensures.no c.if-rests.false in
    let ready = ready_so k x c.k.invariant known here top.0 c.meet_in-met.result top.1 meets no.0 no.1 no.2
    (subst (λ (m : Machine). MayDraw m 1) (sym c.k.view_is) c.requires.numbers) in
    let n : KernelContent = record {
      world = c.finish.new.w;
      owns = c.finish.new.owns.items;
      shared = c.finish.new.shared;
      heap = g.H.ObjectStore.content c.finish.new.heap;
      frames = g.F.SegmentFrames.content c.finish.new.frames;
      main_kind = c.k.inside.main_kind;
    } in
    let started = c.begin-went.ensures c.k.inside.main_kind ready in
    let on = c.in_err-finish.ensures in
    let stepped = started.2.steps on.0 n (on.2 c.k.inside.main_kind started.2.may) in
    let a : SinkState = record { bytes = g.S.Sink.bytes c.args.out.now; pieces = g.S.Sink.pieces c.args.out.now; faults = g.S.Sink.faults c.args.out.now } in
    let out = c.finish.new.out in
    let b : SinkState = record { bytes = g.S.Sink.bytes out; pieces = g.S.Sink.pieces out; faults = g.S.Sink.faults out } in
    let by_thread : Steps (kernel_machine k) c.args.t (started.0 ++ on.0) (kernel_machine n) =
    subst (λ (t : ThreadNo). Steps (kernel_machine k) t (started.0 ++ on.0) (kernel_machine n)) (same_thread k c.args.t c.k.invariant known x is) stepped.0 in
    let there : Steps c.args.k.now c.args.t (started.0 ++ on.0) (kernel_machine n) =
    subst (λ (m : Machine). Steps m c.args.t (started.0 ++ on.0) (kernel_machine n)) c.k.view_is by_thread in
    let failed = err_from_is_err_and c.from_residual.result c.from_residual.ensures.1 in
    let prints : Prints a b (as_done c.from_residual.result) (started.0 ++ on.0) =
    subst (λ (r : Result Bool SinkFailed). Prints a b (as_done r) (started.0 ++ on.0)) (sym failed.1)
    (failed_as a b (started.0 ++ on.0) c.in_err-finish.field-0.0 failed.0 (on.1 a started.0 started.1)) in
    ((started.0 ++ on.0), prints, there)

pub returns-in_err-finish-clause-resting : goal.returns-in_err-finish-clause-resting
returns-in_err-finish-clause-resting g c =
    let k : KernelContent = record {
      world = c.k.inside.world;
      owns = c.k.inside.owns.items;
      shared = c.k.inside.shared;
      heap = g.H.ObjectStore.content c.k.inside.heap;
      frames = g.F.SegmentFrames.content c.k.inside.frames;
      main_kind = c.k.inside.main_kind;
    } in
    let known : IsKnownMachine (kernel_machine k) = subst IsKnownMachine (sym c.k.view_is) c.requires.known in
    let x = c.in-Some.running in
    let is = c.in-Some.ensures.some in
    let here = running_there k c.args.t x is in
    let u = x.runs.thread in
    let top = top_there k u c.k.invariant known x here in
    let own = own_there k u c.k.invariant known x here in
    let meets = c.meet_in-met.ensures (runs_at k u c.k.invariant known here.segment here.is_top).own own top.0 top.1 in
    let no = c.rests.ensures.no c.if-rests.false in
    let ready = ready_so k x c.k.invariant known here top.0 c.meet_in-met.result top.1 meets no.0 no.1 no.2
    (subst (λ (m : Machine). MayDraw m 1) (sym c.k.view_is) c.requires.numbers) in
    let never : IsResting c.args.k.now c.args.t → ⊥ =
    λ rests.
    never_rests k u ready.at ready.may c.first_rule_of_a_step_applies.ensures.pays
    (subst (λ (v : ThreadNo). IsResting (kernel_machine k) v) (sym (same_thread k c.args.t c.k.invariant known x is))
    (subst (λ (m : Machine). IsResting m c.args.t) (sym c.k.view_is) rests)) in
    let failed = err_from_is_err_and c.from_residual.result c.from_residual.ensures.1 in
    sink_failed (IsResting c.args.k.now c.args.t) c.from_residual.result failed.0 failed.1 never

pub invariant_of-k-2 : goal.invariant_of-k-2
invariant_of-k-2 g c =
    let k : KernelContent = record {
      world = c.k.inside.world;
      owns = c.k.inside.owns.items;
      shared = c.k.inside.shared;
      heap = g.H.ObjectStore.content c.k.inside.heap;
      frames = g.F.SegmentFrames.content c.k.inside.frames;
      main_kind = c.k.inside.main_kind;
    } in
    let known : IsKnownMachine (kernel_machine k) = subst IsKnownMachine (sym c.k.view_is) c.requires.known in
    let x = c.in-Some.running in
    let is = c.in-Some.ensures.some in
    let here = running_there k c.args.t x is in
    let u = x.runs.thread in
    let top = top_there k u c.k.invariant known x here in
    let own = own_there k u c.k.invariant known x here in
    let meets = c.meet_in-met.ensures (runs_at k u c.k.invariant known here.segment here.is_top).own own top.0 top.1 in
    let no = c.rests.ensures.no c.if-rests.false in
    let ready = ready_so k x c.k.invariant known here top.0 c.meet_in-met.result top.1 meets no.0 no.1 no.2
    (subst (λ (m : Machine). MayDraw m 1) (sym c.k.view_is) c.requires.numbers) in
    let n : KernelContent = record {
      world = c.finish.new.w;
      owns = c.finish.new.owns.items;
      shared = c.finish.new.shared;
      heap = g.H.ObjectStore.content c.finish.new.heap;
      frames = g.F.SegmentFrames.content c.finish.new.frames;
      main_kind = c.k.inside.main_kind;
    } in
    let started = c.begin-went.ensures c.k.inside.main_kind ready in
    let on = c.finish.ensures in
    let stepped = started.2.steps on.0 n (on.2 c.k.inside.main_kind started.2.may) in
    stepped.1

pub returns-clause-event : goal.returns-clause-event
returns-clause-event g c =
    let k : KernelContent = record {
      world = c.k.inside.world;
      owns = c.k.inside.owns.items;
      shared = c.k.inside.shared;
      heap = g.H.ObjectStore.content c.k.inside.heap;
      frames = g.F.SegmentFrames.content c.k.inside.frames;
      main_kind = c.k.inside.main_kind;
    } in
    let known : IsKnownMachine (kernel_machine k) = subst IsKnownMachine (sym c.k.view_is) c.requires.known in
    let x = c.in-Some.running in
    let is = c.in-Some.ensures.some in
    let here = running_there k c.args.t x is in
    let u = x.runs.thread in
    let top = top_there k u c.k.invariant known x here in
    let own = own_there k u c.k.invariant known x here in
    let meets = c.meet_in-met.ensures (runs_at k u c.k.invariant known here.segment here.is_top).own own top.0 top.1 in
    let no = c.rests.ensures.no c.if-rests.false in
    let ready = ready_so k x c.k.invariant known here top.0 c.meet_in-met.result top.1 meets no.0 no.1 no.2
    (subst (λ (m : Machine). MayDraw m 1) (sym c.k.view_is) c.requires.numbers) in
    let n : KernelContent = record {
      world = c.finish.new.w;
      owns = c.finish.new.owns.items;
      shared = c.finish.new.shared;
      heap = g.H.ObjectStore.content c.finish.new.heap;
      frames = g.F.SegmentFrames.content c.finish.new.frames;
      main_kind = c.k.inside.main_kind;
    } in
    let a : SinkState = record { bytes = g.S.Sink.bytes c.args.out.now; pieces = g.S.Sink.pieces c.args.out.now; faults = g.S.Sink.faults c.args.out.now } in
    let started = c.begin-went.ensures c.k.inside.main_kind ready in
    let on = c.in_ok-finish.ensures in
    let stepped = started.2.steps on.0 n (on.2 c.k.inside.main_kind started.2.may) in
    let by_thread : Steps (kernel_machine k) c.args.t (started.0 ++ on.0) (kernel_machine n) =
    subst (λ (t : ThreadNo). Steps (kernel_machine k) t (started.0 ++ on.0) (kernel_machine n)) (same_thread k c.args.t c.k.invariant known x is) stepped.0 in
    let there : Steps c.args.k.now c.args.t (started.0 ++ on.0) (kernel_machine n) =
    subst (λ (m : Machine). Steps m c.args.t (started.0 ++ on.0) (kernel_machine n)) c.k.view_is by_thread in
    ((started.0 ++ on.0), (on.1 a started.0 started.1), there)

pub returns-clause-resting : goal.returns-clause-resting
returns-clause-resting g c =
    let k : KernelContent = record {
      world = c.k.inside.world;
      owns = c.k.inside.owns.items;
      shared = c.k.inside.shared;
      heap = g.H.ObjectStore.content c.k.inside.heap;
      frames = g.F.SegmentFrames.content c.k.inside.frames;
      main_kind = c.k.inside.main_kind;
    } in
    let known : IsKnownMachine (kernel_machine k) = subst IsKnownMachine (sym c.k.view_is) c.requires.known in
    let x = c.in-Some.running in
    let is = c.in-Some.ensures.some in
    let here = running_there k c.args.t x is in
    let u = x.runs.thread in
    let top = top_there k u c.k.invariant known x here in
    let own = own_there k u c.k.invariant known x here in
    let meets = c.meet_in-met.ensures (runs_at k u c.k.invariant known here.segment here.is_top).own own top.0 top.1 in
    let no = c.rests.ensures.no c.if-rests.false in
    let ready = ready_so k x c.k.invariant known here top.0 c.meet_in-met.result top.1 meets no.0 no.1 no.2
    (subst (λ (m : Machine). MayDraw m 1) (sym c.k.view_is) c.requires.numbers) in
    let never : IsResting c.args.k.now c.args.t → ⊥ =
    λ rests.
    never_rests k u ready.at ready.may c.first_rule_of_a_step_applies.ensures.pays
    (subst (λ (v : ThreadNo). IsResting (kernel_machine k) v) (sym (same_thread k c.args.t c.k.invariant known x is))
    (subst (λ (m : Machine). IsResting m c.args.t) (sym c.k.view_is) rests)) in
    step_taken (IsResting c.args.k.now c.args.t) never
