-- What the segment did is steps of the machine, with what follows where the thread left it, and the parts are sound after it.
use Rattle.std.proofs.Common.{◌≡◌, ◌≤◌, Bool, false, true, Result, [], true≢false, refl, sym, ap, subst, ◌∙◌, arith}
use Rattle.std.proofs.lemmas.Result.{err_from_is_err_and}
use Rattle.jk_model.specs.declared.identifiers.ThreadNo.{ThreadNo}
use Rattle.jk_model_machine_state.specs.Machines.{Machine}
use Rattle.jk_outside.specs.declared.sinks.SinkFailed.{SinkFailed}
use Rattle.domain_crossing.proofs.PartsEntered.{sealed_apart}
use Rattle.domain_ends.proofs.PrintedLines.{printed_none}
use Rattle.kernel_events.specs.KernelCalls.{MayDraw}
use Rattle.kernel_events.specs.PrintedLines.{Prints, SinkState}
use Rattle.kernel_parts.specs.SoundKernels.{KernelContent, kernel_machine, parts_of}
use Rattle.machine_laws.specs.KnownMachines.{IsKnownMachine}
use Rattle.segment_steps.specs.declared.meeting.Runs.{Runs}
use Rattle.kernel_turns.specs.declared.frame_steps.Ran.{Ran}
use Rattle.kernel_turns.specs.RestingThreads.{IsResting}
use Rattle.kernel_turns.specs.SegmentRuns.{RanSo, RunsOn, as_run, leaves}
use Rattle.kernel_turns.proofs.FramesOfThreads.{lives}
use Rattle.kernel_turns.proofs.PrintedSteps.{failed_as}
use Rattle.kernel_turns.proofs.SegmentsApart.{apart_in_shared}
use Rattle.kernel_turns.proofs.SegmentsRun.{follows_then, none_of_rest, parts_still, ran_none, ran_nowhere, runs_then, stays_there}
use Rattle.kernel_turns.proofs.WorkingThreads.{may_work}
use Rattle.kernel_turns.proofs.frame_steps.run_segment.Goals as goal

pub run_of-requires : goal.run_of-requires
run_of-requires g c =
    let k : KernelContent = record {
      world = c.k.inside.world;
      owns = c.k.inside.owns.items;
      shared = c.k.inside.shared;
      heap = g.H.ObjectStore.content c.k.inside.heap;
      frames = g.F.SegmentFrames.content c.k.inside.frames;
      main_kind = c.k.inside.main_kind;
    } in
    apart_in_shared (parts_of k) (sealed_apart (kernel_machine k) c.k.invariant.sound.sealed)

pub within_budget-most-requires : goal.within_budget-most-requires
within_budget-most-requires g c =
    let k : KernelContent = record {
      world = c.k.inside.world;
      owns = c.k.inside.owns.items;
      shared = c.k.inside.shared;
      heap = g.H.ObjectStore.content c.k.inside.heap;
      frames = g.F.SegmentFrames.content c.k.inside.frames;
      main_kind = c.k.inside.main_kind;
    } in
    let known : IsKnownMachine (kernel_machine k) = subst IsKnownMachine (sym c.k.view_is) c.requires.known in
    let running = c.in-Some.running in
    let is = c.in-Some.ensures.some in
    lives k c.args.t c.k.invariant known running is

pub work_in_domain-steps-requires-clause-may : goal.work_in_domain-steps-requires-clause-may
work_in_domain-steps-requires-clause-may g c =
    let k : KernelContent = record {
      world = c.k.inside.world;
      owns = c.k.inside.owns.items;
      shared = c.k.inside.shared;
      heap = g.H.ObjectStore.content c.k.inside.heap;
      frames = g.F.SegmentFrames.content c.k.inside.frames;
      main_kind = c.k.inside.main_kind;
    } in
    let known : IsKnownMachine (kernel_machine k) = subst IsKnownMachine (sym c.k.view_is) c.requires.known in
    let running = c.in-Some.running in
    let is = c.in-Some.ensures.some in
    let free = c.is_free.ensures c.if-not-is_free.false in
    let may = may_work k c.args.t c.k.invariant known running is free.0 free.1 free.2 in
    (may.0, c.k.inside.main_kind, may.1, may.2)

pub returns-in_default-clause-event : goal.returns-in_default-clause-event
returns-in_default-clause-event g c =
    let a : SinkState = record { bytes = g.S.Sink.bytes c.args.out.now; pieces = g.S.Sink.pieces c.args.out.now; faults = g.S.Sink.faults c.args.out.now } in
    ([], printed_none a (g.met.S.Sink.faults_fit c.args.out.now), ran_nowhere c.args.k.now c.args.t c.args.most)

pub returns-then-not-is_free-clause-event : goal.returns-then-not-is_free-clause-event
returns-then-not-is_free-clause-event g c =
    let a : SinkState = record { bytes = g.S.Sink.bytes c.args.out.now; pieces = g.S.Sink.pieces c.args.out.now; faults = g.S.Sink.faults c.args.out.now } in
    ([], printed_none a (g.met.S.Sink.faults_fit c.args.out.now), ran_nowhere c.args.k.now c.args.t c.args.most)

pub follow-requires : goal.follow-requires
follow-requires g c =
    let k : KernelContent = record {
      world = c.k.inside.world;
      owns = c.k.inside.owns.items;
      shared = c.k.inside.shared;
      heap = g.H.ObjectStore.content c.k.inside.heap;
      frames = g.F.SegmentFrames.content c.k.inside.frames;
      main_kind = c.k.inside.main_kind;
    } in
    let known : IsKnownMachine (kernel_machine k) = subst IsKnownMachine (sym c.k.view_is) c.requires.known in
    let running = c.in-Some.running in
    let is = c.in-Some.ensures.some in
    let free = c.is_free.ensures c.if-not-is_free.false in
    let may = may_work k c.args.t c.k.invariant known running is free.0 free.1 free.2 in
    let did = c.work_in_domain-steps.ensures.event may.0 c.k.inside.main_kind may.1 may.2 in
    let mid : KernelContent = record {
      world = c.k.inside.world;
      owns = c.work_in_domain-steps.new.owns.items;
      shared = c.work_in_domain-steps.new.shared;
      heap = g.H.ObjectStore.content c.work_in_domain-steps.new.heap;
      frames = g.F.SegmentFrames.content c.work_in_domain-steps.new.frames;
      main_kind = c.k.inside.main_kind;
    } in
    let steps = c.work_in_domain-steps.result in
    let went = c.work_in_domain-steps.new.went in
    record {
      may = (
        c.k.inside.main_kind,
        follows_then k running.runs steps mid went did (subst (λ (m : Machine). MayDraw m 1) (sym c.k.view_is) c.requires.numbers),
      );
    }

pub invariant_of-k : goal.invariant_of-k
invariant_of-k g c =
    let k : KernelContent = record {
      world = c.k.inside.world;
      owns = c.k.inside.owns.items;
      shared = c.k.inside.shared;
      heap = g.H.ObjectStore.content c.k.inside.heap;
      frames = g.F.SegmentFrames.content c.k.inside.frames;
      main_kind = c.k.inside.main_kind;
    } in
    let known : IsKnownMachine (kernel_machine k) = subst IsKnownMachine (sym c.k.view_is) c.requires.known in
    let running = c.in-Some.running in
    let is = c.in-Some.ensures.some in
    let free = c.is_free.ensures c.if-not-is_free.false in
    let may = may_work k c.args.t c.k.invariant known running is free.0 free.1 free.2 in
    let did = c.work_in_domain-steps.ensures.event may.0 c.k.inside.main_kind may.1 may.2 in
    let mid : KernelContent = record {
      world = c.k.inside.world;
      owns = c.work_in_domain-steps.new.owns.items;
      shared = c.work_in_domain-steps.new.shared;
      heap = g.H.ObjectStore.content c.work_in_domain-steps.new.heap;
      frames = g.F.SegmentFrames.content c.work_in_domain-steps.new.frames;
      main_kind = c.k.inside.main_kind;
    } in
    let steps = c.work_in_domain-steps.result in
    let went = c.work_in_domain-steps.new.went in
    parts_still k running.runs steps mid went (sym c.has_left.ensures ∙ c.if-not-has_left.true) did

pub returns-then-not-has_left-clause-event : goal.returns-then-not-has_left-clause-event
returns-then-not-has_left-clause-event g c =
    let k : KernelContent = record {
      world = c.k.inside.world;
      owns = c.k.inside.owns.items;
      shared = c.k.inside.shared;
      heap = g.H.ObjectStore.content c.k.inside.heap;
      frames = g.F.SegmentFrames.content c.k.inside.frames;
      main_kind = c.k.inside.main_kind;
    } in
    let known : IsKnownMachine (kernel_machine k) = subst IsKnownMachine (sym c.k.view_is) c.requires.known in
    let running = c.in-Some.running in
    let is = c.in-Some.ensures.some in
    let free = c.is_free.ensures c.if-not-is_free.false in
    let may = may_work k c.args.t c.k.invariant known running is free.0 free.1 free.2 in
    let did = c.work_in_domain-steps.ensures.event may.0 c.k.inside.main_kind may.1 may.2 in
    let mid : KernelContent = record {
      world = c.k.inside.world;
      owns = c.work_in_domain-steps.new.owns.items;
      shared = c.work_in_domain-steps.new.shared;
      heap = g.H.ObjectStore.content c.work_in_domain-steps.new.heap;
      frames = g.F.SegmentFrames.content c.work_in_domain-steps.new.frames;
      main_kind = c.k.inside.main_kind;
    } in
    let steps = c.work_in_domain-steps.result in
    let went = c.work_in_domain-steps.new.went in
    let a : SinkState = record { bytes = g.S.Sink.bytes c.args.out.now; pieces = g.S.Sink.pieces c.args.out.now; faults = g.S.Sink.faults c.args.out.now } in
    let thread = ap (λ (r : Runs). r.thread) is.runs_there in
    let ran = stays_there k running.runs steps mid went (sym c.has_left.ensures ∙ c.if-not-has_left.true) did in
    let few : steps ≤ c.args.most = omega (arith, c.work_in_domain-steps.ensures.few, c.within_budget-most.ensures.few) in (
      [],
      printed_none a (g.met.S.Sink.faults_fit c.args.out.now),
      record {
        ran = record { steps = steps; left = false };
        told = refl;
        few = few;
        runs = subst (λ (m : Machine). RunsOn m c.args.t steps false [] (kernel_machine mid)) c.k.view_is
            (subst (λ (t : ThreadNo). RunsOn (kernel_machine k) t steps false [] (kernel_machine mid)) thread ran);
      },
    )

pub returns-then-not-has_left-clause-resting : goal.returns-then-not-has_left-clause-resting
returns-then-not-has_left-clause-resting g c =
    let k : KernelContent = record {
      world = c.k.inside.world;
      owns = c.k.inside.owns.items;
      shared = c.k.inside.shared;
      heap = g.H.ObjectStore.content c.k.inside.heap;
      frames = g.F.SegmentFrames.content c.k.inside.frames;
      main_kind = c.k.inside.main_kind;
    } in
    let known : IsKnownMachine (kernel_machine k) = subst IsKnownMachine (sym c.k.view_is) c.requires.known in
    let running = c.in-Some.running in
    let is = c.in-Some.ensures.some in
    let free = c.is_free.ensures c.if-not-is_free.false in
    let may = may_work k c.args.t c.k.invariant known running is free.0 free.1 free.2 in
    let did = c.work_in_domain-steps.ensures.event may.0 c.k.inside.main_kind may.1 may.2 in
    let mid : KernelContent = record {
      world = c.k.inside.world;
      owns = c.work_in_domain-steps.new.owns.items;
      shared = c.work_in_domain-steps.new.shared;
      heap = g.H.ObjectStore.content c.work_in_domain-steps.new.heap;
      frames = g.F.SegmentFrames.content c.work_in_domain-steps.new.frames;
      main_kind = c.k.inside.main_kind;
    } in
    let steps = c.work_in_domain-steps.result in
    let went = c.work_in_domain-steps.new.went in
    let thread = ap (λ (r : Runs). r.thread) is.runs_there in
    λ rests.
    let none = none_of_rest k running.runs steps mid went did
    (subst (λ (t : ThreadNo). IsResting (kernel_machine k) t) (sym thread) (subst (λ (m : Machine). IsResting m c.args.t) (sym c.k.view_is) rests)) in
    ran_none steps false none.0 refl

pub invariant_of-k-2 : goal.invariant_of-k-2
invariant_of-k-2 g c =
    let k : KernelContent = record {
      world = c.k.inside.world;
      owns = c.k.inside.owns.items;
      shared = c.k.inside.shared;
      heap = g.H.ObjectStore.content c.k.inside.heap;
      frames = g.F.SegmentFrames.content c.k.inside.frames;
      main_kind = c.k.inside.main_kind;
    } in
    let known : IsKnownMachine (kernel_machine k) = subst IsKnownMachine (sym c.k.view_is) c.requires.known in
    let running = c.in-Some.running in
    let is = c.in-Some.ensures.some in
    let free = c.is_free.ensures c.if-not-is_free.false in
    let may = may_work k c.args.t c.k.invariant known running is free.0 free.1 free.2 in
    let did = c.work_in_domain-steps.ensures.event may.0 c.k.inside.main_kind may.1 may.2 in
    let mid : KernelContent = record {
      world = c.k.inside.world;
      owns = c.work_in_domain-steps.new.owns.items;
      shared = c.work_in_domain-steps.new.shared;
      heap = g.H.ObjectStore.content c.work_in_domain-steps.new.heap;
      frames = g.F.SegmentFrames.content c.work_in_domain-steps.new.frames;
      main_kind = c.k.inside.main_kind;
    } in
    let steps = c.work_in_domain-steps.result in
    let went = c.work_in_domain-steps.new.went in
    let n : KernelContent = record {
      world = c.follow.new.w;
      owns = c.follow.new.owns.items;
      shared = c.follow.new.shared;
      heap = g.H.ObjectStore.content c.follow.new.heap;
      frames = g.F.SegmentFrames.content c.follow.new.frames;
      main_kind = c.k.inside.main_kind;
    } in
    let on = c.follow.ensures in
    let may_on = follows_then k running.runs steps mid went did (subst (λ (m : Machine). MayDraw m 1) (sym c.k.view_is) c.requires.numbers) in
    (runs_then k running.runs steps mid went did on.0 n (on.2 c.k.inside.main_kind may_on)).1

pub invariant_of-k-in_err-follow : goal.invariant_of-k-in_err-follow
invariant_of-k-in_err-follow g c =
    let k : KernelContent = record {
      world = c.k.inside.world;
      owns = c.k.inside.owns.items;
      shared = c.k.inside.shared;
      heap = g.H.ObjectStore.content c.k.inside.heap;
      frames = g.F.SegmentFrames.content c.k.inside.frames;
      main_kind = c.k.inside.main_kind;
    } in
    let known : IsKnownMachine (kernel_machine k) = subst IsKnownMachine (sym c.k.view_is) c.requires.known in
    let running = c.in-Some.running in
    let is = c.in-Some.ensures.some in
    let free = c.is_free.ensures c.if-not-is_free.false in
    let may = may_work k c.args.t c.k.invariant known running is free.0 free.1 free.2 in
    let did = c.work_in_domain-steps.ensures.event may.0 c.k.inside.main_kind may.1 may.2 in
    let mid : KernelContent = record {
      world = c.k.inside.world;
      owns = c.work_in_domain-steps.new.owns.items;
      shared = c.work_in_domain-steps.new.shared;
      heap = g.H.ObjectStore.content c.work_in_domain-steps.new.heap;
      frames = g.F.SegmentFrames.content c.work_in_domain-steps.new.frames;
      main_kind = c.k.inside.main_kind;
    } in
    let steps = c.work_in_domain-steps.result in
    let went = c.work_in_domain-steps.new.went in
    let n : KernelContent = record {
      world = c.follow.new.w;
      owns = c.follow.new.owns.items;
      shared = c.follow.new.shared;
      heap = g.H.ObjectStore.content c.follow.new.heap;
      frames = g.F.SegmentFrames.content c.follow.new.frames;
      main_kind = c.k.inside.main_kind;
    } in
    let on = c.follow.ensures in
    let may_on = follows_then k running.runs steps mid went did (subst (λ (m : Machine). MayDraw m 1) (sym c.k.view_is) c.requires.numbers) in
    (runs_then k running.runs steps mid went did on.0 n (on.2 c.k.inside.main_kind may_on)).1

pub returns-in_err-follow-clause-event : goal.returns-in_err-follow-clause-event
returns-in_err-follow-clause-event g c =
    let k : KernelContent = record {
      world = c.k.inside.world;
      owns = c.k.inside.owns.items;
      shared = c.k.inside.shared;
      heap = g.H.ObjectStore.content c.k.inside.heap;
      frames = g.F.SegmentFrames.content c.k.inside.frames;
      main_kind = c.k.inside.main_kind;
    } in
    let known : IsKnownMachine (kernel_machine k) = subst IsKnownMachine (sym c.k.view_is) c.requires.known in
    let running = c.in-Some.running in
    let is = c.in-Some.ensures.some in
    let free = c.is_free.ensures c.if-not-is_free.false in
    let may = may_work k c.args.t c.k.invariant known running is free.0 free.1 free.2 in
    let did = c.work_in_domain-steps.ensures.event may.0 c.k.inside.main_kind may.1 may.2 in
    let mid : KernelContent = record {
      world = c.k.inside.world;
      owns = c.work_in_domain-steps.new.owns.items;
      shared = c.work_in_domain-steps.new.shared;
      heap = g.H.ObjectStore.content c.work_in_domain-steps.new.heap;
      frames = g.F.SegmentFrames.content c.work_in_domain-steps.new.frames;
      main_kind = c.k.inside.main_kind;
    } in
    let steps = c.work_in_domain-steps.result in
    let went = c.work_in_domain-steps.new.went in
    let n : KernelContent = record {
      world = c.follow.new.w;
      owns = c.follow.new.owns.items;
      shared = c.follow.new.shared;
      heap = g.H.ObjectStore.content c.follow.new.heap;
      frames = g.F.SegmentFrames.content c.follow.new.frames;
      main_kind = c.k.inside.main_kind;
    } in
    let a : SinkState = record { bytes = g.S.Sink.bytes c.args.out.now; pieces = g.S.Sink.pieces c.args.out.now; faults = g.S.Sink.faults c.args.out.now } in
    let b : SinkState =
    record { bytes = g.S.Sink.bytes c.follow.new.out; pieces = g.S.Sink.pieces c.follow.new.out; faults = g.S.Sink.faults c.follow.new.out } in
    let few : steps ≤ c.args.most = omega (arith, c.work_in_domain-steps.ensures.few, c.within_budget-most.ensures.few) in
    let none = printed_none a (g.met.S.Sink.faults_fit c.args.out.now) in
    let thread = ap (λ (r : Runs). r.thread) is.runs_there in
    let on = c.in_err-follow.ensures in
    let may_on = follows_then k running.runs steps mid went did (subst (λ (m : Machine). MayDraw m 1) (sym c.k.view_is) c.requires.numbers) in
    let ran = runs_then k running.runs steps mid went did on.0 n (on.2 c.k.inside.main_kind may_on) in
    let failed = err_from_is_err_and c.from_residual.result c.from_residual.ensures.1 in
    let by_thread : RunsOn (kernel_machine k) c.args.t steps true on.0 (kernel_machine n) =
    subst (λ (left : Bool). RunsOn (kernel_machine k) c.args.t steps left on.0 (kernel_machine n)) (sym c.has_left.ensures ∙ c.if-not-has_left.false)
    (subst (λ (t : ThreadNo). RunsOn (kernel_machine k) t steps (leaves went) on.0 (kernel_machine n)) thread ran.0) in
    let by_machine : RunsOn c.args.k.now c.args.t steps true on.0 (kernel_machine n) =
    subst (λ (m : Machine). RunsOn m c.args.t steps true on.0 (kernel_machine n)) c.k.view_is by_thread in
    let prints : Prints a b (as_run c.from_residual.result) on.0 =
    subst (λ (r : Result Ran SinkFailed). Prints a b (as_run r) on.0) (sym failed.1)
    (failed_as a b on.0 c.in_err-follow.field-0.0 failed.0 (on.1 a [] none)) in
    let so : Result Ran SinkFailed → Type 0 = λ answer. RanSo c.args.k.now c.args.t c.args.most answer on.0 (kernel_machine n) in (
      on.0,
      prints,
      subst so (sym failed.1) (record { ran = record { steps = steps; left = true }; told = refl; few = few; runs = by_machine }),
    )

pub returns-clause-event : goal.returns-clause-event
returns-clause-event g c =
    let k : KernelContent = record {
      world = c.k.inside.world;
      owns = c.k.inside.owns.items;
      shared = c.k.inside.shared;
      heap = g.H.ObjectStore.content c.k.inside.heap;
      frames = g.F.SegmentFrames.content c.k.inside.frames;
      main_kind = c.k.inside.main_kind;
    } in
    let known : IsKnownMachine (kernel_machine k) = subst IsKnownMachine (sym c.k.view_is) c.requires.known in
    let running = c.in-Some.running in
    let is = c.in-Some.ensures.some in
    let free = c.is_free.ensures c.if-not-is_free.false in
    let may = may_work k c.args.t c.k.invariant known running is free.0 free.1 free.2 in
    let did = c.work_in_domain-steps.ensures.event may.0 c.k.inside.main_kind may.1 may.2 in
    let mid : KernelContent = record {
      world = c.k.inside.world;
      owns = c.work_in_domain-steps.new.owns.items;
      shared = c.work_in_domain-steps.new.shared;
      heap = g.H.ObjectStore.content c.work_in_domain-steps.new.heap;
      frames = g.F.SegmentFrames.content c.work_in_domain-steps.new.frames;
      main_kind = c.k.inside.main_kind;
    } in
    let steps = c.work_in_domain-steps.result in
    let went = c.work_in_domain-steps.new.went in
    let n : KernelContent = record {
      world = c.follow.new.w;
      owns = c.follow.new.owns.items;
      shared = c.follow.new.shared;
      heap = g.H.ObjectStore.content c.follow.new.heap;
      frames = g.F.SegmentFrames.content c.follow.new.frames;
      main_kind = c.k.inside.main_kind;
    } in
    let a : SinkState = record { bytes = g.S.Sink.bytes c.args.out.now; pieces = g.S.Sink.pieces c.args.out.now; faults = g.S.Sink.faults c.args.out.now } in
    let few : steps ≤ c.args.most = omega (arith, c.work_in_domain-steps.ensures.few, c.within_budget-most.ensures.few) in
    let none = printed_none a (g.met.S.Sink.faults_fit c.args.out.now) in
    let thread = ap (λ (r : Runs). r.thread) is.runs_there in
    let on = c.in_ok-follow.ensures in
    let may_on = follows_then k running.runs steps mid went did (subst (λ (m : Machine). MayDraw m 1) (sym c.k.view_is) c.requires.numbers) in
    let ran = runs_then k running.runs steps mid went did on.0 n (on.2 c.k.inside.main_kind may_on) in
    let by_thread : RunsOn (kernel_machine k) c.args.t steps (leaves went) on.0 (kernel_machine n) =
    subst (λ (t : ThreadNo). RunsOn (kernel_machine k) t steps (leaves went) on.0 (kernel_machine n)) thread ran.0 in
    let by_machine : RunsOn c.args.k.now c.args.t steps (leaves went) on.0 (kernel_machine n) =
    subst (λ (m : Machine). RunsOn m c.args.t steps (leaves went) on.0 (kernel_machine n)) c.k.view_is by_thread in (
      on.0,
      on.1 a [] none,
      record {
        ran = record { steps = steps; left = true };
        told = refl;
        few = few;
        runs = subst (λ (left : Bool). RunsOn c.args.k.now c.args.t steps left on.0 (kernel_machine n))
            (sym c.has_left.ensures ∙ c.if-not-has_left.false) by_machine;
      },
    )

pub returns-in_err-follow-clause-resting : goal.returns-in_err-follow-clause-resting
returns-in_err-follow-clause-resting g c =
    let k : KernelContent = record {
      world = c.k.inside.world;
      owns = c.k.inside.owns.items;
      shared = c.k.inside.shared;
      heap = g.H.ObjectStore.content c.k.inside.heap;
      frames = g.F.SegmentFrames.content c.k.inside.frames;
      main_kind = c.k.inside.main_kind;
    } in
    let known : IsKnownMachine (kernel_machine k) = subst IsKnownMachine (sym c.k.view_is) c.requires.known in
    let running = c.in-Some.running in
    let is = c.in-Some.ensures.some in
    let free = c.is_free.ensures c.if-not-is_free.false in
    let may = may_work k c.args.t c.k.invariant known running is free.0 free.1 free.2 in
    let did = c.work_in_domain-steps.ensures.event may.0 c.k.inside.main_kind may.1 may.2 in
    let mid : KernelContent = record {
      world = c.k.inside.world;
      owns = c.work_in_domain-steps.new.owns.items;
      shared = c.work_in_domain-steps.new.shared;
      heap = g.H.ObjectStore.content c.work_in_domain-steps.new.heap;
      frames = g.F.SegmentFrames.content c.work_in_domain-steps.new.frames;
      main_kind = c.k.inside.main_kind;
    } in
    let steps = c.work_in_domain-steps.result in
    let went = c.work_in_domain-steps.new.went in
    let thread = ap (λ (r : Runs). r.thread) is.runs_there in
    λ rests.
    let none = none_of_rest k running.runs steps mid went did
    (subst (λ (t : ThreadNo). IsResting (kernel_machine k) t) (sym thread) (subst (λ (m : Machine). IsResting m c.args.t) (sym c.k.view_is) rests)) in
    let both : true ≡ false = sym (sym c.has_left.ensures ∙ c.if-not-has_left.false) ∙ none.1 in
    absurd (true≢false both)

pub returns-clause-resting : goal.returns-clause-resting
returns-clause-resting g c =
    let k : KernelContent = record {
      world = c.k.inside.world;
      owns = c.k.inside.owns.items;
      shared = c.k.inside.shared;
      heap = g.H.ObjectStore.content c.k.inside.heap;
      frames = g.F.SegmentFrames.content c.k.inside.frames;
      main_kind = c.k.inside.main_kind;
    } in
    let known : IsKnownMachine (kernel_machine k) = subst IsKnownMachine (sym c.k.view_is) c.requires.known in
    let running = c.in-Some.running in
    let is = c.in-Some.ensures.some in
    let free = c.is_free.ensures c.if-not-is_free.false in
    let may = may_work k c.args.t c.k.invariant known running is free.0 free.1 free.2 in
    let did = c.work_in_domain-steps.ensures.event may.0 c.k.inside.main_kind may.1 may.2 in
    let mid : KernelContent = record {
      world = c.k.inside.world;
      owns = c.work_in_domain-steps.new.owns.items;
      shared = c.work_in_domain-steps.new.shared;
      heap = g.H.ObjectStore.content c.work_in_domain-steps.new.heap;
      frames = g.F.SegmentFrames.content c.work_in_domain-steps.new.frames;
      main_kind = c.k.inside.main_kind;
    } in
    let steps = c.work_in_domain-steps.result in
    let went = c.work_in_domain-steps.new.went in
    let thread = ap (λ (r : Runs). r.thread) is.runs_there in
    λ rests.
    let none = none_of_rest k running.runs steps mid went did
    (subst (λ (t : ThreadNo). IsResting (kernel_machine k) t) (sym thread) (subst (λ (m : Machine). IsResting m c.args.t) (sym c.k.view_is) rests)) in
    let both : true ≡ false = sym (sym c.has_left.ensures ∙ c.if-not-has_left.false) ∙ none.1 in
    absurd (true≢false both)
