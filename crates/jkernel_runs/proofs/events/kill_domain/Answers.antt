-- A kill in whose lines the output failed has happened whole.
use Rattle.jk_model_runs.specs.Events.{Kills}
use Rattle.kernel_events.specs.PrintedLines.{sink}
use Rattle.jkernel_runs.proofs.EventsPrinted.{breaks_off_whole}
use Rattle.jkernel_runs.proofs.events.kill_domain.Goals as goal

pub returns-in-Err-clause-ends : goal.returns-in-Err-clause-ends
returns-in-Err-clause-ends g c =
    breaks_off_whole (Kills c.args.kernel.now c.args.name.now) c.kill-went.new.self
    (sink (g.S.Sink.bytes c.args.out.now) (g.S.Sink.pieces c.args.out.now) (g.S.Sink.faults c.args.out.now))
    (sink (g.S.Sink.bytes c.kill-went.new.out) (g.S.Sink.pieces c.kill-went.new.out) (g.S.Sink.faults c.kill-went.new.out))
    c.in-Err.field-0 c.holds.ensures c.in-Err.ensures.event
