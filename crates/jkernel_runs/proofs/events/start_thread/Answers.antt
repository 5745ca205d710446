-- A start whose line the output failed in has happened whole.
use Rattle.jk_model_runs.specs.Starts.{Starts}
use Rattle.kernel_events.specs.PrintedLines.{sink}
use Rattle.jkernel_runs.proofs.EventsPrinted.{breaks_off_whole}
use Rattle.jkernel_runs.proofs.events.start_thread.Goals as goal

pub returns-in-Err-clause-ends : goal.returns-in-Err-clause-ends
returns-in-Err-clause-ends g c =
    breaks_off_whole (Starts c.args.kernel.now (record { domain = c.args.name.now; class = c.args.class.now; words = c.args.words.now }))
    c.start-went.new.self
    (sink (g.S.Sink.bytes c.args.out.now) (g.S.Sink.pieces c.args.out.now) (g.S.Sink.faults c.args.out.now))
    (sink (g.S.Sink.bytes c.start-went.new.out) (g.S.Sink.pieces c.start-went.new.out) (g.S.Sink.faults c.start-went.new.out))
    c.in-Err.field-0 c.holds.ensures c.in-Err.ensures.event
