-- One line is printed, after none.
use Rattle.std.proofs.Common.{[], ◌∷◌, sym, subst}
use Rattle.kernel_events.specs.PrintedLines.{Prints, SinkState}
use Rattle.kernel_openings.specs.declared.answers.Beginning.{Beginning}
use Rattle.kernel_openings.specs.StartedThreads.{told_of}
use Rattle.jk_kernel.proofs.LinesJoined.{printed_none}
use Rattle.jk_kernel.proofs.starting.tell.Goals as goal

pub returns-in-Begun : goal.returns-in-Begun
returns-in-Begun g c =
    let a : SinkState = record { bytes = g.S.Sink.bytes c.args.out.now; pieces = g.S.Sink.pieces c.args.out.now; faults = g.S.Sink.faults c.args.out.now } in
    let out = c.print_next.new.out in
    let b : SinkState = record { bytes = g.S.Sink.bytes out; pieces = g.S.Sink.pieces out; faults = g.S.Sink.faults out } in
    subst (λ (came : Beginning). Prints a b c.print_next.result (told_of c.args.name.now came ∷ [])) (sym c.in-Begun.is)
    (c.print_next.ensures a.bytes a.pieces a.faults [] (printed_none a (g.met.S.Sink.faults_fit c.args.out.now)))

pub returns-in-Refused : goal.returns-in-Refused
returns-in-Refused g c =
    let a : SinkState = record { bytes = g.S.Sink.bytes c.args.out.now; pieces = g.S.Sink.pieces c.args.out.now; faults = g.S.Sink.faults c.args.out.now } in
    let out = c.print_next-in-Refused.new.out in
    let b : SinkState = record { bytes = g.S.Sink.bytes out; pieces = g.S.Sink.pieces out; faults = g.S.Sink.faults out } in
    subst (λ (came : Beginning). Prints a b c.print_next-in-Refused.result (told_of c.args.name.now came ∷ [])) (sym c.in-Refused.is)
    (c.print_next-in-Refused.ensures a.bytes a.pieces a.faults [] (printed_none a (g.met.S.Sink.faults_fit c.args.out.now)))
