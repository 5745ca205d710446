-- The turns of each live thread follow one another, and the threads between them do nothing.
use Rattle.std.proofs.Common.{◌≡◌, Bool, Result, Ok, ap}
use Rattle.std.proofs.lemmas.Bool.{or_parts}
use Rattle.std.proofs.lemmas.Result.{err_from_is_err_and}
use Rattle.jk_outside.specs.declared.sinks.SinkFailed.{SinkFailed}
use Rattle.kernel_events.specs.PrintedLines.{SinkState}
use Rattle.jk_kernel.proofs.OneRound.{may_turn, rest_begins, rest_more, rest_over, round_begins, round_failed, round_more, round_over}
use Rattle.jk_kernel.proofs.kernel.Kernel.one_round.Goals as goal

abbrev Same : Result Bool SinkFailed → Result Bool SinkFailed → Type 0
Same x y = x ≡ y

same_answer : {a b : Bool} → Same (Ok a) (Ok b) → a ≡ b
same_answer e = cc

pub loop-thread-init : goal.loop-thread-init
loop-thread-init g c =
    let a : SinkState =
    record { bytes = g.S.Sink.bytes c.args.out.now; pieces = g.S.Sink.pieces c.args.out.now; faults = g.S.Sink.faults c.args.out.now } in (
      round_begins c.args.steps c.args.self.now a (g.met.S.Sink.faults_fit c.args.out.now) c.is_sound.ensures,
      λ _. rest_begins c.args.steps c.args.self.now,
    )

pub turns-requires : goal.turns-requires
turns-requires g c =
    let a : SinkState =
    record { bytes = g.S.Sink.bytes c.args.out.now; pieces = g.S.Sink.pieces c.args.out.now; faults = g.S.Sink.faults c.args.out.now } in
    let b : SinkState =
    record { bytes = g.S.Sink.bytes c.loop-thread.out; pieces = g.S.Sink.pieces c.loop-thread.out; faults = g.S.Sink.faults c.loop-thread.out } in
    let l = c.loop-thread in
    let m = c.args.self.now in
    let steps = c.args.steps in
    let t = c.in-Some.thread in
    let next = c.in-Some.ensures.some in
    record { numbers = may_turn steps l.above t m l.self a b l.invariant.0 next c.requires.numbers }

pub returns-in_err-changed-clause-failed : goal.returns-in_err-changed-clause-failed
returns-in_err-changed-clause-failed g c =
    let a : SinkState =
    record { bytes = g.S.Sink.bytes c.args.out.now; pieces = g.S.Sink.pieces c.args.out.now; faults = g.S.Sink.faults c.args.out.now } in
    let b : SinkState =
    record { bytes = g.S.Sink.bytes c.loop-thread.out; pieces = g.S.Sink.pieces c.loop-thread.out; faults = g.S.Sink.faults c.loop-thread.out } in
    let l = c.loop-thread in
    let m = c.args.self.now in
    let steps = c.args.steps in
    let t = c.in-Some.thread in
    let next = c.in-Some.ensures.some in
    let out : SinkState =
    record { bytes = g.S.Sink.bytes c.turns.new.out; pieces = g.S.Sink.pieces c.turns.new.out; faults = g.S.Sink.faults c.turns.new.out } in
    let failed = err_from_is_err_and c.from_residual.result c.from_residual.ensures.1 in
    rw failed.1 (round_failed c.machines_go_on.ensures.steps c.machines_go_on.ensures.threads steps l.above t m l.self
    c.turns.new.self a b out l.invariant.0 next c.in_err-changed.ensures.failed)

pub loop-thread-preserved : goal.loop-thread-preserved
loop-thread-preserved g c =
    let a : SinkState =
    record { bytes = g.S.Sink.bytes c.args.out.now; pieces = g.S.Sink.pieces c.args.out.now; faults = g.S.Sink.faults c.args.out.now } in
    let b : SinkState =
    record { bytes = g.S.Sink.bytes c.loop-thread.out; pieces = g.S.Sink.pieces c.loop-thread.out; faults = g.S.Sink.faults c.loop-thread.out } in
    let l = c.loop-thread in
    let m = c.args.self.now in
    let steps = c.args.steps in
    let t = c.in-Some.thread in
    let next = c.in-Some.ensures.some in
    let out : SinkState =
    record { bytes = g.S.Sink.bytes c.turns.new.out; pieces = g.S.Sink.pieces c.turns.new.out; faults = g.S.Sink.faults c.turns.new.out } in
    let after = c.is_sound-in-Some.ensures in (
      round_more c.numbers_rise.ensures steps l.above t m l.self c.turns.new.self a b out l.invariant.0 next c.in_ok-changed.ensures.event after,
      λ still.
          let parts = or_parts l.changed c.in_ok-changed.field-0 still in
          rest_more steps l.above t m l.self c.turns.new.self (l.invariant.1 parts.0) next l.invariant.0.sound
          (c.in_ok-changed.ensures.rests (ap Ok parts.1)),
    )

pub returns-clause-event : goal.returns-clause-event
returns-clause-event g c =
    let a : SinkState =
    record { bytes = g.S.Sink.bytes c.args.out.now; pieces = g.S.Sink.pieces c.args.out.now; faults = g.S.Sink.faults c.args.out.now } in
    let b : SinkState =
    record { bytes = g.S.Sink.bytes c.loop-thread.out; pieces = g.S.Sink.pieces c.loop-thread.out; faults = g.S.Sink.faults c.loop-thread.out } in
    let l = c.loop-thread in
    let m = c.args.self.now in
    let steps = c.args.steps in
    round_over steps l.above m l.self a b l.invariant.0 c.in_default.ensures.none

pub returns-clause-rests : goal.returns-clause-rests
returns-clause-rests g c =
    λ is.
    let a : SinkState =
    record { bytes = g.S.Sink.bytes c.args.out.now; pieces = g.S.Sink.pieces c.args.out.now; faults = g.S.Sink.faults c.args.out.now } in
    let b : SinkState =
    record { bytes = g.S.Sink.bytes c.loop-thread.out; pieces = g.S.Sink.pieces c.loop-thread.out; faults = g.S.Sink.faults c.loop-thread.out } in
    let l = c.loop-thread in
    let m = c.args.self.now in
    let steps = c.args.steps in
    rest_over steps l.above m l.self (l.invariant.1 (same_answer is)) l.invariant.0.sound c.in_default.ensures.none
