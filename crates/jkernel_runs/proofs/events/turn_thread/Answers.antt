-- Steps that are confined are steps, and those up to one whose lines broke off are followed by the others.
use Rattle.jk_model.specs.declared.identifiers.ThreadNo.{ThreadNo}
use Rattle.jk_model_runs.specs.Events.{Turns}
use Rattle.kernel_events.specs.PrintedLines.{sink}
use Rattle.kernel_events.specs.StepsInTurn.{TurnsBefore}
use Rattle.jkernel_runs.proofs.EventsPrinted.{breaks_off_in, is_told, turns_of}
use Rattle.jkernel_runs.proofs.events.turn_thread.Goals as goal

pub returns-in-Ok-clause-ends : goal.returns-in-Ok-clause-ends
returns-in-Ok-clause-ends g c =
    let event = c.in-Ok.ensures.event in
    is_told (Turns c.args.steps (record { 0 = c.args.thread }) c.args.kernel.now) c.turns-went.new.self
    (sink (g.S.Sink.bytes c.args.out.now) (g.S.Sink.pieces c.args.out.now) (g.S.Sink.faults c.args.out.now))
    (sink (g.S.Sink.bytes c.turns-went.new.out) (g.S.Sink.pieces c.turns-went.new.out) (g.S.Sink.faults c.turns-went.new.out))
    c.holds.ensures
    (event.0, event.1, turns_of c.args.steps (record { 0 = c.args.thread }) c.args.kernel.now c.turns-went.new.self event.0 event.2)

pub returns-in-Err-clause-ends : goal.returns-in-Err-clause-ends
returns-in-Err-clause-ends g c =
    let t : ThreadNo = record { 0 = c.args.thread } in
    breaks_off_in t (TurnsBefore c.args.steps t) (Turns c.args.steps t) c.args.kernel.now c.turns-went.new.self
    (sink (g.S.Sink.bytes c.args.out.now) (g.S.Sink.pieces c.args.out.now) (g.S.Sink.faults c.args.out.now))
    (sink (g.S.Sink.bytes c.turns-went.new.out) (g.S.Sink.pieces c.turns-went.new.out) (g.S.Sink.faults c.turns-went.new.out))
    c.in-Err.ensures.failed
