-- The rounds that were gone are followed by the others.
use Rattle.std.proofs.Common.{◌≡◌, ℕ, ◌+◌, ◌<◌, [], Ok, sym, ap, subst, arith}
use Rattle.std.proofs.lemmas.Result.{err_from_is_err_and}
use Rattle.jk_model_machine_state.specs.Machines.{Machine}
use Rattle.jk_model_runs.specs.Events.{Goes, Rounds}
use Rattle.kernel_events.specs.KernelCalls.{steps_of}
use Rattle.kernel_events.specs.PrintedLines.{SinkState}
use Rattle.kernel_events.specs.RisingNumbers.{Rises}
use Rattle.jk_kernel.proofs.NumbersLeft.{counts_of}
use Rattle.jk_kernel.proofs.RoundsSoFar.{gone_failed, gone_more, gone_none, gone_rest, gone_rises, may_go}
use Rattle.jk_kernel.proofs.kernel.Kernel.rounds.Goals as goal

pub loop-init : goal.loop-init
loop-init g c =
    let a : SinkState =
    record { bytes = g.S.Sink.bytes c.args.out.now; pieces = g.S.Sink.pieces c.args.out.now; faults = g.S.Sink.faults c.args.out.now } in
    gone_none c.args.steps c.args.self.now a (g.met.S.Sink.faults_fit c.args.out.now) c.is_sound.ensures

pub one_round-requires : goal.one_round-requires
one_round-requires g c =
    let a : SinkState =
    record { bytes = g.S.Sink.bytes c.args.out.now; pieces = g.S.Sink.pieces c.args.out.now; faults = g.S.Sink.faults c.args.out.now } in
    let b : SinkState = record { bytes = g.S.Sink.bytes c.loop.out; pieces = g.S.Sink.pieces c.loop.out; faults = g.S.Sink.faults c.loop.out } in
    let l = c.loop in
    let m = c.args.self.now in
    let steps = c.args.steps in
    let less : l.counter < c.args.count = omega (arith, c.loop-test.true) in
    record { numbers = may_go c.numbers_rise.ensures steps l.counter c.args.count m l.self a b less l.invariant c.requires.numbers }

pub returns-in_err-changed-clause-failed : goal.returns-in_err-changed-clause-failed
returns-in_err-changed-clause-failed g c =
    let a : SinkState =
    record { bytes = g.S.Sink.bytes c.args.out.now; pieces = g.S.Sink.pieces c.args.out.now; faults = g.S.Sink.faults c.args.out.now } in
    let b : SinkState = record { bytes = g.S.Sink.bytes c.loop.out; pieces = g.S.Sink.pieces c.loop.out; faults = g.S.Sink.faults c.loop.out } in
    let l = c.loop in
    let m = c.args.self.now in
    let steps = c.args.steps in
    let less : l.counter < c.args.count = omega (arith, c.loop-test.true) in
    let out : SinkState =
    record { bytes = g.S.Sink.bytes c.one_round.new.out; pieces = g.S.Sink.pieces c.one_round.new.out; faults = g.S.Sink.faults c.one_round.new.out } in
    let next = c.one_round.new.self in
    let failed = err_from_is_err_and c.from_residual.result c.from_residual.ensures.1 in
    rw failed.1 (gone_failed c.machines_go_on.ensures.steps c.machines_go_on.ensures.rounds steps l.counter c.args.count m l.self
    next a b out less l.invariant c.in_err-changed.ensures.failed)

pub returns-in_err-changed-clause-counts : goal.returns-in_err-changed-clause-counts
returns-in_err-changed-clause-counts g c =
    let a : SinkState =
    record { bytes = g.S.Sink.bytes c.args.out.now; pieces = g.S.Sink.pieces c.args.out.now; faults = g.S.Sink.faults c.args.out.now } in
    let b : SinkState = record { bytes = g.S.Sink.bytes c.loop.out; pieces = g.S.Sink.pieces c.loop.out; faults = g.S.Sink.faults c.loop.out } in
    let l = c.loop in
    let m = c.args.self.now in
    let steps = c.args.steps in
    let less : l.counter < c.args.count = omega (arith, c.loop-test.true) in
    let out : SinkState =
    record { bytes = g.S.Sink.bytes c.one_round.new.out; pieces = g.S.Sink.pieces c.one_round.new.out; faults = g.S.Sink.faults c.one_round.new.out } in
    let next = c.one_round.new.self in
    let all = gone_failed c.machines_go_on.ensures.steps c.machines_go_on.ensures.rounds steps l.counter c.args.count m l.self
    next a b out less l.invariant c.in_err-changed.ensures.failed in
    counts_of m next (steps_of c.args.count steps m)
    (c.numbers_rise.ensures.some_rounds c.args.count steps all.0 m all.1.mid next all.1.before all.1.said all.1.so_far all.1.step)

pub loop-preserved : goal.loop-preserved
loop-preserved g c =
    let a : SinkState =
    record { bytes = g.S.Sink.bytes c.args.out.now; pieces = g.S.Sink.pieces c.args.out.now; faults = g.S.Sink.faults c.args.out.now } in
    let b : SinkState = record { bytes = g.S.Sink.bytes c.loop.out; pieces = g.S.Sink.pieces c.loop.out; faults = g.S.Sink.faults c.loop.out } in
    let l = c.loop in
    let m = c.args.self.now in
    let steps = c.args.steps in
    let out : SinkState =
    record { bytes = g.S.Sink.bytes c.one_round.new.out; pieces = g.S.Sink.pieces c.one_round.new.out; faults = g.S.Sink.faults c.one_round.new.out } in
    let next = c.one_round.new.self in
    let more = gone_more steps l.counter m l.self next a b out l.invariant c.in_ok-changed.ensures.event c.is_sound-in-loop.ensures in
    more

pub returns-then-not-changed-clause-event : goal.returns-then-not-changed-clause-event
returns-then-not-changed-clause-event g c =
    let a : SinkState =
    record { bytes = g.S.Sink.bytes c.args.out.now; pieces = g.S.Sink.pieces c.args.out.now; faults = g.S.Sink.faults c.args.out.now } in
    let b : SinkState = record { bytes = g.S.Sink.bytes c.loop.out; pieces = g.S.Sink.pieces c.loop.out; faults = g.S.Sink.faults c.loop.out } in
    let l = c.loop in
    let m = c.args.self.now in
    let steps = c.args.steps in
    let less : l.counter < c.args.count = omega (arith, c.loop-test.true) in
    let out : SinkState =
    record { bytes = g.S.Sink.bytes c.one_round.new.out; pieces = g.S.Sink.pieces c.one_round.new.out; faults = g.S.Sink.faults c.one_round.new.out } in
    let next = c.one_round.new.self in
    let more = gone_more steps l.counter m l.self next a b out l.invariant c.in_ok-changed.ensures.event c.is_sound-in-loop.ensures in
    let still = c.in_ok-changed.ensures.rests (ap Ok c.if-not-changed.true) in
    let all = gone_rest steps (l.counter + 1) c.args.count m next a out (omega (arith, less)) more
    (subst (λ (x : Machine). Goes steps 1 x [] x) (sym still.0) still.1) in
    (all.lines, all.prints, all.rounds)

pub returns-then-not-changed-clause-counts : goal.returns-then-not-changed-clause-counts
returns-then-not-changed-clause-counts g c =
    let a : SinkState =
    record { bytes = g.S.Sink.bytes c.args.out.now; pieces = g.S.Sink.pieces c.args.out.now; faults = g.S.Sink.faults c.args.out.now } in
    let b : SinkState = record { bytes = g.S.Sink.bytes c.loop.out; pieces = g.S.Sink.pieces c.loop.out; faults = g.S.Sink.faults c.loop.out } in
    let l = c.loop in
    let m = c.args.self.now in
    let steps = c.args.steps in
    let less : l.counter < c.args.count = omega (arith, c.loop-test.true) in
    let out : SinkState =
    record { bytes = g.S.Sink.bytes c.one_round.new.out; pieces = g.S.Sink.pieces c.one_round.new.out; faults = g.S.Sink.faults c.one_round.new.out } in
    let next = c.one_round.new.self in
    let more = gone_more steps l.counter m l.self next a b out l.invariant c.in_ok-changed.ensures.event c.is_sound-in-loop.ensures in
    let still = c.in_ok-changed.ensures.rests (ap Ok c.if-not-changed.true) in
    let all = gone_rest steps (l.counter + 1) c.args.count m next a out (omega (arith, less)) more
    (subst (λ (x : Machine). Goes steps 1 x [] x) (sym still.0) still.1) in
    counts_of m next (steps_of c.args.count steps m) (gone_rises c.numbers_rise.ensures steps c.args.count m next a out all)

pub returns-clause-event : goal.returns-clause-event
returns-clause-event g c =
    let a : SinkState =
    record { bytes = g.S.Sink.bytes c.args.out.now; pieces = g.S.Sink.pieces c.args.out.now; faults = g.S.Sink.faults c.args.out.now } in
    let b : SinkState = record { bytes = g.S.Sink.bytes c.loop.out; pieces = g.S.Sink.pieces c.loop.out; faults = g.S.Sink.faults c.loop.out } in
    let l = c.loop in
    let m = c.args.self.now in
    let steps = c.args.steps in
    let all : l.counter ≡ c.args.count = omega (arith, c.loop.auto.counter-end, c.loop-test.false) in
    (l.invariant.lines, l.invariant.prints, subst (λ (n : ℕ). Rounds n steps m l.invariant.lines l.self) all l.invariant.rounds)

pub returns-clause-counts : goal.returns-clause-counts
returns-clause-counts g c =
    let a : SinkState =
    record { bytes = g.S.Sink.bytes c.args.out.now; pieces = g.S.Sink.pieces c.args.out.now; faults = g.S.Sink.faults c.args.out.now } in
    let b : SinkState = record { bytes = g.S.Sink.bytes c.loop.out; pieces = g.S.Sink.pieces c.loop.out; faults = g.S.Sink.faults c.loop.out } in
    let l = c.loop in
    let m = c.args.self.now in
    let steps = c.args.steps in
    let all : l.counter ≡ c.args.count = omega (arith, c.loop.auto.counter-end, c.loop-test.false) in
    counts_of m l.self (steps_of c.args.count steps m)
    (subst (λ (n : ℕ). Rises m (steps_of n steps m) l.self) all (gone_rises c.numbers_rise.ensures steps l.counter m l.self a b l.invariant))
