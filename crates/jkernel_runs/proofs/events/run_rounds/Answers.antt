-- The steps up to one whose lines broke off are followed by the others.
use Rattle.jk_model_runs.specs.Events.{Rounds}
use Rattle.kernel_events.specs.PrintedLines.{sink}
use Rattle.kernel_events.specs.StepsInTurn.{RoundsBefore}
use Rattle.jkernel_runs.proofs.EventsPrinted.{breaks_off_in}
use Rattle.jkernel_runs.proofs.events.run_rounds.Goals as goal

pub returns-in-Err-clause-ends : goal.returns-in-Err-clause-ends
returns-in-Err-clause-ends g c =
    let stops = c.in-Err.ensures.failed in
    breaks_off_in stops.0 (RoundsBefore c.args.rounds c.args.steps stops.0) (Rounds c.args.rounds c.args.steps) c.args.kernel.now
    c.rounds-went.new.self
    (sink (g.S.Sink.bytes c.args.out.now) (g.S.Sink.pieces c.args.out.now) (g.S.Sink.faults c.args.out.now))
    (sink (g.S.Sink.bytes c.rounds-went.new.out) (g.S.Sink.pieces c.rounds-went.new.out) (g.S.Sink.faults c.rounds-went.new.out))
    stops.1
