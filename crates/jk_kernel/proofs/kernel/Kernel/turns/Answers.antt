-- The steps that were done are turns, and the rest of them are there.
use Rattle.std.proofs.Common.{◌≡◌, ℕ, ◌+◌, ◌-◌, ◌<◌, ◌≤◌, Bool, Result, [], Ok, false, true≢false, nat_lt, refl, ap, sym, subst, ◌∙◌, arith}
use Rattle.std.proofs.lemmas.Bool.{ltb-false}
use Rattle.std.proofs.lemmas.Result.{err_from_is_err_and}
use Rattle.jk_model.specs.declared.identifiers.ThreadNo.{ThreadNo}
use Rattle.jk_model_machine_state.specs.Machines.{Machine}
use Rattle.jk_model_runs.specs.Steps.{Steps}
use Rattle.jk_outside.specs.declared.sinks.SinkFailed.{SinkFailed}
use Rattle.kernel_events.specs.PrintedLines.{SinkState}
use Rattle.kernel_events.proofs.NumbersOfEvents.{rises_more}
use Rattle.kernel_turns.specs.RestingThreads.{IsResting}
use Rattle.kernel_turns.proofs.RestsTold.{failed_or_not, sink_failed, step_taken}
use Rattle.jk_kernel.proofs.NumbersLeft.{counts_of, may_draw}
use Rattle.jk_kernel.proofs.RestingTurns.{none_taken, still_rests}
use Rattle.jk_kernel.proofs.TurnsSoFar.{failed_not_none, failed_rises, none_told, rests_on, run_failed, run_failed_rises, told_few, told_runs, told_some, went_all, went_failed, went_more, went_none, went_nowhere, went_rest, went_rises, went_run}
use Rattle.jk_kernel.proofs.kernel.Kernel.turns.Goals as goal

abbrev Same : Result Bool SinkFailed → Result Bool SinkFailed → Type 0
Same x y = x ≡ y

same_answer : {a b : Bool} → Same (Ok a) (Ok b) → a ≡ b
same_answer e = cc

not_above : (n : ℕ) → nat_lt 0 n ≡ false → n ≡ 0
not_above n e = omega (arith, ltb-false 0 n e)

-- that so many steps are some
abbrev above_none : ℕ → Result Bool SinkFailed
above_none n = Ok (nat_lt 0 n)

pub loop-done-init : goal.loop-done-init
loop-done-init g c =
    let t : ThreadNo = record { 0 = c.args.thread } in
    let a : SinkState =
    record { bytes = g.S.Sink.bytes c.args.out.now; pieces = g.S.Sink.pieces c.args.out.now; faults = g.S.Sink.faults c.args.out.now } in
    (went_none t c.args.self.now a (g.met.S.Sink.faults_fit c.args.out.now) c.is_sound.ensures, omega arith, λ _. refl)

-- ---- The sink failed in the last line of what the top segment did.

pub run_segment-requires : goal.run_segment-requires
run_segment-requires g c =
    let t : ThreadNo = record { 0 = c.args.thread } in
    let a : SinkState =
    record { bytes = g.S.Sink.bytes c.args.out.now; pieces = g.S.Sink.pieces c.args.out.now; faults = g.S.Sink.faults c.args.out.now } in
    let b : SinkState =
    record { bytes = g.S.Sink.bytes c.loop-done.out; pieces = g.S.Sink.pieces c.loop-done.out; faults = g.S.Sink.faults c.loop-done.out } in
    let l = c.loop-done in
    let m = c.args.self.now in
    record {
      numbers = may_draw m l.self l.done 1 c.args.steps (omega (arith, c.loop-done-test.true))
          (went_rises c.numbers_rise.ensures t l.done m l.self a b l.invariant.0) c.requires.numbers;
    }

pub returns-in_err-ran-clause-failed : goal.returns-in_err-ran-clause-failed
returns-in_err-ran-clause-failed g c =
    let t : ThreadNo = record { 0 = c.args.thread } in
    let a : SinkState =
    record { bytes = g.S.Sink.bytes c.args.out.now; pieces = g.S.Sink.pieces c.args.out.now; faults = g.S.Sink.faults c.args.out.now } in
    let b : SinkState =
    record { bytes = g.S.Sink.bytes c.loop-done.out; pieces = g.S.Sink.pieces c.loop-done.out; faults = g.S.Sink.faults c.loop-done.out } in
    let l = c.loop-done in
    let m = c.args.self.now in
    let sunk : SinkState =
    record { bytes = g.S.Sink.bytes c.run_segment.new.out; pieces = g.S.Sink.pieces c.run_segment.new.out; faults = g.S.Sink.faults c.run_segment.new.out } in
    let mid = c.run_segment.new.self in
    let did = c.in_err-ran.ensures.event in
    let failed = err_from_is_err_and c.from_residual.result c.from_residual.ensures.1 in
    rw failed.1 (run_failed c.machines_stay_sound.ensures.steps t l.done c.args.steps m l.self mid a b did.0 c.in_err-ran.field-0.0 c.loop-done-test.true
    l.invariant.0 did.2 c.run_segment.ensures.sound.1 c.steps_are_apart.ensures c.machines_go_on.ensures.turns sunk did.1)

pub returns-in_err-ran-clause-counts : goal.returns-in_err-ran-clause-counts
returns-in_err-ran-clause-counts g c =
    let t : ThreadNo = record { 0 = c.args.thread } in
    let a : SinkState =
    record { bytes = g.S.Sink.bytes c.args.out.now; pieces = g.S.Sink.pieces c.args.out.now; faults = g.S.Sink.faults c.args.out.now } in
    let b : SinkState =
    record { bytes = g.S.Sink.bytes c.loop-done.out; pieces = g.S.Sink.pieces c.loop-done.out; faults = g.S.Sink.faults c.loop-done.out } in
    let l = c.loop-done in
    let m = c.args.self.now in
    let mid = c.run_segment.new.self in
    let did = c.in_err-ran.ensures.event in
    counts_of m mid c.args.steps
    (run_failed_rises c.machines_stay_sound.ensures.steps t l.done c.args.steps m l.self mid a b did.0 c.in_err-ran.field-0.0 c.loop-done-test.true
    l.invariant.0 did.2 c.run_segment.ensures.sound.1 c.numbers_rise.ensures)

pub returns-in_err-ran-clause-resting : goal.returns-in_err-ran-clause-resting
returns-in_err-ran-clause-resting g c =
    λ some.
    let t : ThreadNo = record { 0 = c.args.thread } in
    let a : SinkState =
    record { bytes = g.S.Sink.bytes c.args.out.now; pieces = g.S.Sink.pieces c.args.out.now; faults = g.S.Sink.faults c.args.out.now } in
    let b : SinkState =
    record { bytes = g.S.Sink.bytes c.loop-done.out; pieces = g.S.Sink.pieces c.loop-done.out; faults = g.S.Sink.faults c.loop-done.out } in
    let l = c.loop-done in
    let m = c.args.self.now in
    let failed = err_from_is_err_and c.from_residual.result c.from_residual.ensures.1 in
    sink_failed (IsResting m t) c.from_residual.result failed.0 failed.1
    (λ rests.
    failed_not_none c.in_err-ran.field-0.0 (record { steps = 0; left = false })
    (c.in_err-ran.ensures.resting (still_rests t l.done m l.self a b l.invariant.0 l.invariant.2 rests)))

-- ---- Its lines went out.

pub overflow_add-done : goal.overflow_add-done
overflow_add-done g c =
    let t : ThreadNo = record { 0 = c.args.thread } in
    let did = c.in_ok-ran.ensures.event in
    let few = told_few c.loop-done.self c.run_segment.new.self t (c.args.steps - c.loop-done.done) c.in_ok-ran.ran did.0 did.2 in
    omega (arith, few)

pub returns-then-done-steps-clause-event : goal.returns-then-done-steps-clause-event
returns-then-done-steps-clause-event g c =
    let t : ThreadNo = record { 0 = c.args.thread } in
    let a : SinkState =
    record { bytes = g.S.Sink.bytes c.args.out.now; pieces = g.S.Sink.pieces c.args.out.now; faults = g.S.Sink.faults c.args.out.now } in
    let b : SinkState =
    record { bytes = g.S.Sink.bytes c.loop-done.out; pieces = g.S.Sink.pieces c.loop-done.out; faults = g.S.Sink.faults c.loop-done.out } in
    let l = c.loop-done in
    let m = c.args.self.now in
    let sunk : SinkState =
    record { bytes = g.S.Sink.bytes c.run_segment.new.out; pieces = g.S.Sink.pieces c.run_segment.new.out; faults = g.S.Sink.faults c.run_segment.new.out } in
    let mid = c.run_segment.new.self in
    let ran = c.in_ok-ran.ran in
    let did = c.in_ok-ran.ensures.event in
    let runs = told_runs l.self mid t (c.args.steps - l.done) ran did.0 did.2 in
    let few = told_few l.self mid t (c.args.steps - l.done) ran did.0 did.2 in
    let done = l.done + ran.steps in
    let went = went_run t l.done ran.steps m l.self mid a b sunk did.0 l.invariant.0 did.1 c.run_segment.ensures.sound.1 ran.left runs in
    went_all c.machines_stay_sound.ensures.steps c.steps_are_apart.ensures t done c.args.steps m mid a sunk c.if-done-steps.true went

pub returns-then-done-steps-clause-counts : goal.returns-then-done-steps-clause-counts
returns-then-done-steps-clause-counts g c =
    let t : ThreadNo = record { 0 = c.args.thread } in
    let a : SinkState =
    record { bytes = g.S.Sink.bytes c.args.out.now; pieces = g.S.Sink.pieces c.args.out.now; faults = g.S.Sink.faults c.args.out.now } in
    let b : SinkState =
    record { bytes = g.S.Sink.bytes c.loop-done.out; pieces = g.S.Sink.pieces c.loop-done.out; faults = g.S.Sink.faults c.loop-done.out } in
    let l = c.loop-done in
    let m = c.args.self.now in
    let sunk : SinkState =
    record { bytes = g.S.Sink.bytes c.run_segment.new.out; pieces = g.S.Sink.pieces c.run_segment.new.out; faults = g.S.Sink.faults c.run_segment.new.out } in
    let mid = c.run_segment.new.self in
    let ran = c.in_ok-ran.ran in
    let did = c.in_ok-ran.ensures.event in
    let runs = told_runs l.self mid t (c.args.steps - l.done) ran did.0 did.2 in
    let few = told_few l.self mid t (c.args.steps - l.done) ran did.0 did.2 in
    let done = l.done + ran.steps in
    let went = went_run t l.done ran.steps m l.self mid a b sunk did.0 l.invariant.0 did.1 c.run_segment.ensures.sound.1 ran.left runs in
    let all : done ≤ c.args.steps = omega (arith, few, c.loop-done-test.true) in
    counts_of m mid c.args.steps (rises_more m mid done c.args.steps all (went_rises c.numbers_rise.ensures t done m mid a sunk went))

pub returns-then-done-steps-clause-resting : goal.returns-then-done-steps-clause-resting
returns-then-done-steps-clause-resting g c =
    λ some.
    let t : ThreadNo = record { 0 = c.args.thread } in
    let a : SinkState =
    record { bytes = g.S.Sink.bytes c.args.out.now; pieces = g.S.Sink.pieces c.args.out.now; faults = g.S.Sink.faults c.args.out.now } in
    let b : SinkState =
    record { bytes = g.S.Sink.bytes c.loop-done.out; pieces = g.S.Sink.pieces c.loop-done.out; faults = g.S.Sink.faults c.loop-done.out } in
    let l = c.loop-done in
    let m = c.args.self.now in
    let sunk : SinkState =
    record { bytes = g.S.Sink.bytes c.run_segment.new.out; pieces = g.S.Sink.pieces c.run_segment.new.out; faults = g.S.Sink.faults c.run_segment.new.out } in
    let mid = c.run_segment.new.self in
    let ran = c.in_ok-ran.ran in
    let did = c.in_ok-ran.ensures.event in
    let runs = told_runs l.self mid t (c.args.steps - l.done) ran did.0 did.2 in
    let few = told_few l.self mid t (c.args.steps - l.done) ran did.0 did.2 in
    let done = l.done + ran.steps in
    let went = went_run t l.done ran.steps m l.self mid a b sunk did.0 l.invariant.0 did.1 c.run_segment.ensures.sound.1 ran.left runs in
    let idle : IsResting m t → done ≡ 0 =
    none_taken t l.done ran.steps m l.self a b l.invariant.0 l.invariant.2 (λ rests. none_told ran (c.in_ok-ran.ensures.resting rests)) in
    step_taken (IsResting m t) (λ rests. omega (arith, some, idle rests, c.if-done-steps.true))

pub loop-done-smaller-then-ran : goal.loop-done-smaller-then-ran
loop-done-smaller-then-ran g c =
    let t : ThreadNo = record { 0 = c.args.thread } in
    let a : SinkState =
    record { bytes = g.S.Sink.bytes c.args.out.now; pieces = g.S.Sink.pieces c.args.out.now; faults = g.S.Sink.faults c.args.out.now } in
    let b : SinkState =
    record { bytes = g.S.Sink.bytes c.loop-done.out; pieces = g.S.Sink.pieces c.loop-done.out; faults = g.S.Sink.faults c.loop-done.out } in
    let l = c.loop-done in
    let m = c.args.self.now in
    let sunk : SinkState =
    record { bytes = g.S.Sink.bytes c.run_segment.new.out; pieces = g.S.Sink.pieces c.run_segment.new.out; faults = g.S.Sink.faults c.run_segment.new.out } in
    let mid = c.run_segment.new.self in
    let ran = c.in_ok-ran.ran in
    let did = c.in_ok-ran.ensures.event in
    let runs = told_runs l.self mid t (c.args.steps - l.done) ran did.0 did.2 in
    let few = told_few l.self mid t (c.args.steps - l.done) ran did.0 did.2 in
    let done = l.done + ran.steps in
    let went = went_run t l.done ran.steps m l.self mid a b sunk did.0 l.invariant.0 did.1 c.run_segment.ensures.sound.1 ran.left runs in
    let some = told_some l.self mid t (c.args.steps - l.done) ran did.0 did.2 c.if-ran.true in
    omega (arith, some, few, c.loop-done-test.true)

pub loop-done-preserved-then-ran : goal.loop-done-preserved-then-ran
loop-done-preserved-then-ran g c =
    let t : ThreadNo = record { 0 = c.args.thread } in
    let a : SinkState =
    record { bytes = g.S.Sink.bytes c.args.out.now; pieces = g.S.Sink.pieces c.args.out.now; faults = g.S.Sink.faults c.args.out.now } in
    let b : SinkState =
    record { bytes = g.S.Sink.bytes c.loop-done.out; pieces = g.S.Sink.pieces c.loop-done.out; faults = g.S.Sink.faults c.loop-done.out } in
    let l = c.loop-done in
    let m = c.args.self.now in
    let sunk : SinkState =
    record { bytes = g.S.Sink.bytes c.run_segment.new.out; pieces = g.S.Sink.pieces c.run_segment.new.out; faults = g.S.Sink.faults c.run_segment.new.out } in
    let mid = c.run_segment.new.self in
    let ran = c.in_ok-ran.ran in
    let did = c.in_ok-ran.ensures.event in
    let runs = told_runs l.self mid t (c.args.steps - l.done) ran did.0 did.2 in
    let few = told_few l.self mid t (c.args.steps - l.done) ran did.0 did.2 in
    let done = l.done + ran.steps in
    let went = went_run t l.done ran.steps m l.self mid a b sunk did.0 l.invariant.0 did.1 c.run_segment.ensures.sound.1 ran.left runs in
    let idle : IsResting m t → done ≡ 0 =
    none_taken t l.done ran.steps m l.self a b l.invariant.0 l.invariant.2 (λ rests. none_told ran (c.in_ok-ran.ensures.resting rests)) in
    (went, omega (arith, few, c.loop-done-test.true), idle)

-- ---- The segment does no more alone, and a step is taken.

pub step-requires : goal.step-requires
step-requires g c =
    let t : ThreadNo = record { 0 = c.args.thread } in
    let a : SinkState =
    record { bytes = g.S.Sink.bytes c.args.out.now; pieces = g.S.Sink.pieces c.args.out.now; faults = g.S.Sink.faults c.args.out.now } in
    let b : SinkState =
    record { bytes = g.S.Sink.bytes c.loop-done.out; pieces = g.S.Sink.pieces c.loop-done.out; faults = g.S.Sink.faults c.loop-done.out } in
    let l = c.loop-done in
    let m = c.args.self.now in
    let sunk : SinkState =
    record { bytes = g.S.Sink.bytes c.run_segment.new.out; pieces = g.S.Sink.pieces c.run_segment.new.out; faults = g.S.Sink.faults c.run_segment.new.out } in
    let mid = c.run_segment.new.self in
    let ran = c.in_ok-ran.ran in
    let did = c.in_ok-ran.ensures.event in
    let runs = told_runs l.self mid t (c.args.steps - l.done) ran did.0 did.2 in
    let few = told_few l.self mid t (c.args.steps - l.done) ran did.0 did.2 in
    let done = l.done + ran.steps in
    let went = went_run t l.done ran.steps m l.self mid a b sunk did.0 l.invariant.0 did.1 c.run_segment.ensures.sound.1 ran.left runs in
    let less : done < c.args.steps = omega (arith, few, c.loop-done-test.true, c.if-done-steps.false) in
    record {
      numbers = may_draw m mid done 1 c.args.steps (omega (arith, less)) (went_rises c.numbers_rise.ensures t done m mid a sunk went)
          c.requires.numbers;
    }

pub returns-in_err-step-clause-failed : goal.returns-in_err-step-clause-failed
returns-in_err-step-clause-failed g c =
    let t : ThreadNo = record { 0 = c.args.thread } in
    let a : SinkState =
    record { bytes = g.S.Sink.bytes c.args.out.now; pieces = g.S.Sink.pieces c.args.out.now; faults = g.S.Sink.faults c.args.out.now } in
    let b : SinkState =
    record { bytes = g.S.Sink.bytes c.loop-done.out; pieces = g.S.Sink.pieces c.loop-done.out; faults = g.S.Sink.faults c.loop-done.out } in
    let l = c.loop-done in
    let m = c.args.self.now in
    let sunk : SinkState =
    record { bytes = g.S.Sink.bytes c.run_segment.new.out; pieces = g.S.Sink.pieces c.run_segment.new.out; faults = g.S.Sink.faults c.run_segment.new.out } in
    let mid = c.run_segment.new.self in
    let ran = c.in_ok-ran.ran in
    let did = c.in_ok-ran.ensures.event in
    let runs = told_runs l.self mid t (c.args.steps - l.done) ran did.0 did.2 in
    let few = told_few l.self mid t (c.args.steps - l.done) ran did.0 did.2 in
    let done = l.done + ran.steps in
    let went = went_run t l.done ran.steps m l.self mid a b sunk did.0 l.invariant.0 did.1 c.run_segment.ensures.sound.1 ran.left runs in
    let less : done < c.args.steps = omega (arith, few, c.loop-done-test.true, c.if-done-steps.false) in
    let out : SinkState =
    record { bytes = g.S.Sink.bytes c.step.new.out; pieces = g.S.Sink.pieces c.step.new.out; faults = g.S.Sink.faults c.step.new.out } in
    let next = c.step.new.self in
    let failed = err_from_is_err_and c.from_residual-in_err-step.result c.from_residual-in_err-step.ensures.1 in
    let event = c.in_err-step.ensures.event in
    rw failed.1 (went_failed c.machines_stay_sound.ensures.steps c.steps_are_apart.ensures c.machines_go_on.ensures.turns t done
    c.args.steps m mid next a sunk out event.0 c.in_err-step.field-0.0 less went event.1 event.2 c.step.ensures.sound.1)

pub returns-in_err-step-clause-counts : goal.returns-in_err-step-clause-counts
returns-in_err-step-clause-counts g c =
    let t : ThreadNo = record { 0 = c.args.thread } in
    let a : SinkState =
    record { bytes = g.S.Sink.bytes c.args.out.now; pieces = g.S.Sink.pieces c.args.out.now; faults = g.S.Sink.faults c.args.out.now } in
    let b : SinkState =
    record { bytes = g.S.Sink.bytes c.loop-done.out; pieces = g.S.Sink.pieces c.loop-done.out; faults = g.S.Sink.faults c.loop-done.out } in
    let l = c.loop-done in
    let m = c.args.self.now in
    let sunk : SinkState =
    record { bytes = g.S.Sink.bytes c.run_segment.new.out; pieces = g.S.Sink.pieces c.run_segment.new.out; faults = g.S.Sink.faults c.run_segment.new.out } in
    let mid = c.run_segment.new.self in
    let ran = c.in_ok-ran.ran in
    let did = c.in_ok-ran.ensures.event in
    let runs = told_runs l.self mid t (c.args.steps - l.done) ran did.0 did.2 in
    let few = told_few l.self mid t (c.args.steps - l.done) ran did.0 did.2 in
    let done = l.done + ran.steps in
    let went = went_run t l.done ran.steps m l.self mid a b sunk did.0 l.invariant.0 did.1 c.run_segment.ensures.sound.1 ran.left runs in
    let less : done < c.args.steps = omega (arith, few, c.loop-done-test.true, c.if-done-steps.false) in
    let next = c.step.new.self in
    let event = c.in_err-step.ensures.event in
    counts_of m next c.args.steps
    (failed_rises c.numbers_rise.ensures t done c.args.steps m mid next a sunk event.0 less went event.2 c.step.ensures.sound.1)

pub returns-in_err-step-clause-resting : goal.returns-in_err-step-clause-resting
returns-in_err-step-clause-resting g c =
    λ some.
    let t : ThreadNo = record { 0 = c.args.thread } in
    let a : SinkState =
    record { bytes = g.S.Sink.bytes c.args.out.now; pieces = g.S.Sink.pieces c.args.out.now; faults = g.S.Sink.faults c.args.out.now } in
    let b : SinkState =
    record { bytes = g.S.Sink.bytes c.loop-done.out; pieces = g.S.Sink.pieces c.loop-done.out; faults = g.S.Sink.faults c.loop-done.out } in
    let l = c.loop-done in
    let m = c.args.self.now in
    let sunk : SinkState =
    record { bytes = g.S.Sink.bytes c.run_segment.new.out; pieces = g.S.Sink.pieces c.run_segment.new.out; faults = g.S.Sink.faults c.run_segment.new.out } in
    let mid = c.run_segment.new.self in
    let ran = c.in_ok-ran.ran in
    let did = c.in_ok-ran.ensures.event in
    let runs = told_runs l.self mid t (c.args.steps - l.done) ran did.0 did.2 in
    let few = told_few l.self mid t (c.args.steps - l.done) ran did.0 did.2 in
    let done = l.done + ran.steps in
    let went = went_run t l.done ran.steps m l.self mid a b sunk did.0 l.invariant.0 did.1 c.run_segment.ensures.sound.1 ran.left runs in
    let idle : IsResting m t → done ≡ 0 =
    none_taken t l.done ran.steps m l.self a b l.invariant.0 l.invariant.2 (λ rests. none_told ran (c.in_ok-ran.ensures.resting rests)) in
    let failed = err_from_is_err_and c.from_residual-in_err-step.result c.from_residual-in_err-step.ensures.1 in
    sink_failed (IsResting m t) c.from_residual-in_err-step.result failed.0 failed.1
    (λ rests. failed_or_not c.in_err-step.field-0.0 (c.in_err-step.ensures.resting.1 (still_rests t done m mid a sunk went idle rests)))

pub returns-then-not-branch-clause-event : goal.returns-then-not-branch-clause-event
returns-then-not-branch-clause-event g c =
    let t : ThreadNo = record { 0 = c.args.thread } in
    let a : SinkState =
    record { bytes = g.S.Sink.bytes c.args.out.now; pieces = g.S.Sink.pieces c.args.out.now; faults = g.S.Sink.faults c.args.out.now } in
    let b : SinkState =
    record { bytes = g.S.Sink.bytes c.loop-done.out; pieces = g.S.Sink.pieces c.loop-done.out; faults = g.S.Sink.faults c.loop-done.out } in
    let l = c.loop-done in
    let m = c.args.self.now in
    let sunk : SinkState =
    record { bytes = g.S.Sink.bytes c.run_segment.new.out; pieces = g.S.Sink.pieces c.run_segment.new.out; faults = g.S.Sink.faults c.run_segment.new.out } in
    let mid = c.run_segment.new.self in
    let ran = c.in_ok-ran.ran in
    let did = c.in_ok-ran.ensures.event in
    let runs = told_runs l.self mid t (c.args.steps - l.done) ran did.0 did.2 in
    let few = told_few l.self mid t (c.args.steps - l.done) ran did.0 did.2 in
    let done = l.done + ran.steps in
    let went = went_run t l.done ran.steps m l.self mid a b sunk did.0 l.invariant.0 did.1 c.run_segment.ensures.sound.1 ran.left runs in
    let less : done < c.args.steps = omega (arith, few, c.loop-done-test.true, c.if-done-steps.false) in
    let out : SinkState =
    record { bytes = g.S.Sink.bytes c.step.new.out; pieces = g.S.Sink.pieces c.step.new.out; faults = g.S.Sink.faults c.step.new.out } in
    let next = c.step.new.self in
    let rests = c.in_ok-step.ensures.rests (ap Ok c.if-not-branch.true) in
    let event = c.in_ok-step.ensures.event in
    let still : Steps next t [] next = subst (λ (x : Machine). Steps x t [] x) (sym rests.0) rests.1 in
    let more = went_more t done m mid next a sunk out event.0 went event.1 event.2 c.step.ensures.sound.1 in
    let all = went_rest t (done + 1) c.args.steps m next a out (omega (arith, less)) more still in
    went_all c.machines_stay_sound.ensures.steps c.steps_are_apart.ensures t c.args.steps c.args.steps m next a out refl all

pub returns-then-not-branch-clause-rests : goal.returns-then-not-branch-clause-rests
returns-then-not-branch-clause-rests g c =
    λ is.
    let t : ThreadNo = record { 0 = c.args.thread } in
    let a : SinkState =
    record { bytes = g.S.Sink.bytes c.args.out.now; pieces = g.S.Sink.pieces c.args.out.now; faults = g.S.Sink.faults c.args.out.now } in
    let b : SinkState =
    record { bytes = g.S.Sink.bytes c.loop-done.out; pieces = g.S.Sink.pieces c.loop-done.out; faults = g.S.Sink.faults c.loop-done.out } in
    let l = c.loop-done in
    let m = c.args.self.now in
    let sunk : SinkState =
    record { bytes = g.S.Sink.bytes c.run_segment.new.out; pieces = g.S.Sink.pieces c.run_segment.new.out; faults = g.S.Sink.faults c.run_segment.new.out } in
    let mid = c.run_segment.new.self in
    let ran = c.in_ok-ran.ran in
    let did = c.in_ok-ran.ensures.event in
    let runs = told_runs l.self mid t (c.args.steps - l.done) ran did.0 did.2 in
    let few = told_few l.self mid t (c.args.steps - l.done) ran did.0 did.2 in
    let done = l.done + ran.steps in
    let went = went_run t l.done ran.steps m l.self mid a b sunk did.0 l.invariant.0 did.1 c.run_segment.ensures.sound.1 ran.left runs in
    let rests = c.in_ok-step.ensures.rests (ap Ok c.if-not-branch.true) in
    let none = not_above done (same_answer is) in
    let first : mid ≡ m = went_nowhere t done m mid a sunk none went in
    (rests.0 ∙ first, rests_on t m went.before (subst (λ (x : Machine). Steps x t [] x) first rests.1))

pub returns-then-not-branch-clause-counts : goal.returns-then-not-branch-clause-counts
returns-then-not-branch-clause-counts g c =
    let t : ThreadNo = record { 0 = c.args.thread } in
    let a : SinkState =
    record { bytes = g.S.Sink.bytes c.args.out.now; pieces = g.S.Sink.pieces c.args.out.now; faults = g.S.Sink.faults c.args.out.now } in
    let b : SinkState =
    record { bytes = g.S.Sink.bytes c.loop-done.out; pieces = g.S.Sink.pieces c.loop-done.out; faults = g.S.Sink.faults c.loop-done.out } in
    let l = c.loop-done in
    let m = c.args.self.now in
    let sunk : SinkState =
    record { bytes = g.S.Sink.bytes c.run_segment.new.out; pieces = g.S.Sink.pieces c.run_segment.new.out; faults = g.S.Sink.faults c.run_segment.new.out } in
    let mid = c.run_segment.new.self in
    let ran = c.in_ok-ran.ran in
    let did = c.in_ok-ran.ensures.event in
    let runs = told_runs l.self mid t (c.args.steps - l.done) ran did.0 did.2 in
    let few = told_few l.self mid t (c.args.steps - l.done) ran did.0 did.2 in
    let done = l.done + ran.steps in
    let went = went_run t l.done ran.steps m l.self mid a b sunk did.0 l.invariant.0 did.1 c.run_segment.ensures.sound.1 ran.left runs in
    let less : done < c.args.steps = omega (arith, few, c.loop-done-test.true, c.if-done-steps.false) in
    let out : SinkState =
    record { bytes = g.S.Sink.bytes c.step.new.out; pieces = g.S.Sink.pieces c.step.new.out; faults = g.S.Sink.faults c.step.new.out } in
    let next = c.step.new.self in
    let rests = c.in_ok-step.ensures.rests (ap Ok c.if-not-branch.true) in
    let event = c.in_ok-step.ensures.event in
    let still : Steps next t [] next = subst (λ (x : Machine). Steps x t [] x) (sym rests.0) rests.1 in
    let more = went_more t done m mid next a sunk out event.0 went event.1 event.2 c.step.ensures.sound.1 in
    let all = went_rest t (done + 1) c.args.steps m next a out (omega (arith, less)) more still in
    counts_of m next c.args.steps (went_rises c.numbers_rise.ensures t c.args.steps m next a out all)

pub returns-then-not-branch-clause-resting : goal.returns-then-not-branch-clause-resting
returns-then-not-branch-clause-resting g c =
    λ some.
    let t : ThreadNo = record { 0 = c.args.thread } in
    let a : SinkState =
    record { bytes = g.S.Sink.bytes c.args.out.now; pieces = g.S.Sink.pieces c.args.out.now; faults = g.S.Sink.faults c.args.out.now } in
    let b : SinkState =
    record { bytes = g.S.Sink.bytes c.loop-done.out; pieces = g.S.Sink.pieces c.loop-done.out; faults = g.S.Sink.faults c.loop-done.out } in
    let l = c.loop-done in
    let m = c.args.self.now in
    let sunk : SinkState =
    record { bytes = g.S.Sink.bytes c.run_segment.new.out; pieces = g.S.Sink.pieces c.run_segment.new.out; faults = g.S.Sink.faults c.run_segment.new.out } in
    let mid = c.run_segment.new.self in
    let ran = c.in_ok-ran.ran in
    let did = c.in_ok-ran.ensures.event in
    let runs = told_runs l.self mid t (c.args.steps - l.done) ran did.0 did.2 in
    let few = told_few l.self mid t (c.args.steps - l.done) ran did.0 did.2 in
    let done = l.done + ran.steps in
    let went = went_run t l.done ran.steps m l.self mid a b sunk did.0 l.invariant.0 did.1 c.run_segment.ensures.sound.1 ran.left runs in
    let idle : IsResting m t → done ≡ 0 =
    none_taken t l.done ran.steps m l.self a b l.invariant.0 l.invariant.2 (λ rests. none_told ran (c.in_ok-ran.ensures.resting rests)) in (
      λ is.
          let none : mid ≡ m = went_nowhere t done m mid a sunk (not_above done (same_answer is)) went in
          subst (λ (x : Machine). IsResting x t) none (c.in_ok-step.ensures.resting.0 (ap Ok c.if-not-branch.true)),
      λ rests. ap above_none (idle rests),
    )

pub loop-done-preserved : goal.loop-done-preserved
loop-done-preserved g c =
    let t : ThreadNo = record { 0 = c.args.thread } in
    let a : SinkState =
    record { bytes = g.S.Sink.bytes c.args.out.now; pieces = g.S.Sink.pieces c.args.out.now; faults = g.S.Sink.faults c.args.out.now } in
    let b : SinkState =
    record { bytes = g.S.Sink.bytes c.loop-done.out; pieces = g.S.Sink.pieces c.loop-done.out; faults = g.S.Sink.faults c.loop-done.out } in
    let l = c.loop-done in
    let m = c.args.self.now in
    let sunk : SinkState =
    record { bytes = g.S.Sink.bytes c.run_segment.new.out; pieces = g.S.Sink.pieces c.run_segment.new.out; faults = g.S.Sink.faults c.run_segment.new.out } in
    let mid = c.run_segment.new.self in
    let ran = c.in_ok-ran.ran in
    let did = c.in_ok-ran.ensures.event in
    let runs = told_runs l.self mid t (c.args.steps - l.done) ran did.0 did.2 in
    let few = told_few l.self mid t (c.args.steps - l.done) ran did.0 did.2 in
    let done = l.done + ran.steps in
    let went = went_run t l.done ran.steps m l.self mid a b sunk did.0 l.invariant.0 did.1 c.run_segment.ensures.sound.1 ran.left runs in
    let less : done < c.args.steps = omega (arith, few, c.loop-done-test.true, c.if-done-steps.false) in
    let out : SinkState =
    record { bytes = g.S.Sink.bytes c.step.new.out; pieces = g.S.Sink.pieces c.step.new.out; faults = g.S.Sink.faults c.step.new.out } in
    let next = c.step.new.self in
    let event = c.in_ok-step.ensures.event in
    let idle : IsResting m t → done ≡ 0 =
    none_taken t l.done ran.steps m l.self a b l.invariant.0 l.invariant.2 (λ rests. none_told ran (c.in_ok-ran.ensures.resting rests)) in (
      went_more t done m mid next a sunk out event.0 went event.1 event.2 c.step.ensures.sound.1,
      omega (arith, less),
      λ rests.
          let told = same_answer (c.in_ok-step.ensures.resting.1 (still_rests t done m mid a sunk went idle rests)) in
          absurd (true≢false (sym c.if-not-branch.false ∙ told)),
    )

-- ---- At the end.

pub returns-clause-event : goal.returns-clause-event
returns-clause-event g c =
    let t : ThreadNo = record { 0 = c.args.thread } in
    let a : SinkState =
    record { bytes = g.S.Sink.bytes c.args.out.now; pieces = g.S.Sink.pieces c.args.out.now; faults = g.S.Sink.faults c.args.out.now } in
    let b : SinkState =
    record { bytes = g.S.Sink.bytes c.loop-done.out; pieces = g.S.Sink.pieces c.loop-done.out; faults = g.S.Sink.faults c.loop-done.out } in
    let l = c.loop-done in
    let all : l.done ≡ c.args.steps = omega (arith, l.invariant.1, c.loop-done-test.false) in
    went_all c.machines_stay_sound.ensures.steps c.steps_are_apart.ensures t l.done c.args.steps c.args.self.now l.self a b all l.invariant.0

pub returns-clause-counts : goal.returns-clause-counts
returns-clause-counts g c =
    let t : ThreadNo = record { 0 = c.args.thread } in
    let a : SinkState =
    record { bytes = g.S.Sink.bytes c.args.out.now; pieces = g.S.Sink.pieces c.args.out.now; faults = g.S.Sink.faults c.args.out.now } in
    let b : SinkState =
    record { bytes = g.S.Sink.bytes c.loop-done.out; pieces = g.S.Sink.pieces c.loop-done.out; faults = g.S.Sink.faults c.loop-done.out } in
    let l = c.loop-done in
    counts_of c.args.self.now l.self c.args.steps
    (rises_more c.args.self.now l.self l.done c.args.steps l.invariant.1
    (went_rises c.numbers_rise.ensures t l.done c.args.self.now l.self a b l.invariant.0))

pub returns-clause-resting : goal.returns-clause-resting
returns-clause-resting g c =
    λ some.
    let l = c.loop-done in
    let all : l.done ≡ c.args.steps = omega (arith, l.invariant.1, c.loop-done-test.false) in
    step_taken (IsResting c.args.self.now (record { 0 = c.args.thread })) (λ rests. omega (arith, some, l.invariant.2 rests, all))
