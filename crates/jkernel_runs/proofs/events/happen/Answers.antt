-- What starts, turns, rounds and kills leave, as events: they ask for nothing.
use Rattle.std.proofs.Common.{refl}
use Rattle.jk_model.specs.declared.script.Event.TheVariants.{Start, Turn, Round, Kill}
use Rattle.kernel_events.specs.PrintedLines.{sink}
use Rattle.jkernel_runs.specs.DomainEvents.{OpensFolder}
use Rattle.jkernel_runs.specs.Events.{moment}
use Rattle.jkernel_runs.proofs.DomainOpens.{ends_printed}
use Rattle.jkernel_runs.proofs.events.happen.Goals as goal

pub returns-in-Start-clause-ends : goal.returns-in-Start-clause-ends
returns-in-Start-clause-ends g c =
    let ends = rw (c.as_slice-in-Start.ensures, c.as_slice-in-Start-2.ensures, c.as_slice-in-Start-3.ensures) at c.start_thread.ensures.ends in
    rw c.in-Start.is
    (ends_printed (g.F.Files.tree c.args.files.now) c.args.root.now (OpensFolder (g.F.Files.tree c.args.files.now) c.args.root.now)
    (Start c.in-Start.name c.in-Start.class c.in-Start.words) c.args.kernel.now c.start_thread.new.kernel
    (moment (sink (g.S.Sink.bytes c.args.out.now) (g.S.Sink.pieces c.args.out.now) (g.S.Sink.faults c.args.out.now))
    (g.F.Files.asked c.args.files.now) (g.F.Files.faults c.args.files.now))
    (moment (sink (g.S.Sink.bytes c.start_thread.new.out) (g.S.Sink.pieces c.start_thread.new.out) (g.S.Sink.faults c.start_thread.new.out))
    (g.F.Files.asked c.args.files.now) (g.F.Files.faults c.args.files.now))
    c.start_thread.result (λ lines. refl) refl ends)

pub returns-in-Turn-clause-ends : goal.returns-in-Turn-clause-ends
returns-in-Turn-clause-ends g c =
    rw c.in-Turn.is
    (ends_printed (g.F.Files.tree c.args.files.now) c.args.root.now (OpensFolder (g.F.Files.tree c.args.files.now) c.args.root.now)
    (Turn c.in-Turn.thread c.in-Turn.steps) c.args.kernel.now c.turn_thread.new.kernel
    (moment (sink (g.S.Sink.bytes c.args.out.now) (g.S.Sink.pieces c.args.out.now) (g.S.Sink.faults c.args.out.now))
    (g.F.Files.asked c.args.files.now) (g.F.Files.faults c.args.files.now))
    (moment (sink (g.S.Sink.bytes c.turn_thread.new.out) (g.S.Sink.pieces c.turn_thread.new.out) (g.S.Sink.faults c.turn_thread.new.out))
    (g.F.Files.asked c.args.files.now) (g.F.Files.faults c.args.files.now))
    c.turn_thread.result (λ lines. refl) refl c.turn_thread.ensures.ends)

pub returns-in-Round-clause-ends : goal.returns-in-Round-clause-ends
returns-in-Round-clause-ends g c =
    rw c.in-Round.is
    (ends_printed (g.F.Files.tree c.args.files.now) c.args.root.now (OpensFolder (g.F.Files.tree c.args.files.now) c.args.root.now)
    (Round c.in-Round.rounds c.in-Round.steps) c.args.kernel.now c.run_rounds.new.kernel
    (moment (sink (g.S.Sink.bytes c.args.out.now) (g.S.Sink.pieces c.args.out.now) (g.S.Sink.faults c.args.out.now))
    (g.F.Files.asked c.args.files.now) (g.F.Files.faults c.args.files.now))
    (moment (sink (g.S.Sink.bytes c.run_rounds.new.out) (g.S.Sink.pieces c.run_rounds.new.out) (g.S.Sink.faults c.run_rounds.new.out))
    (g.F.Files.asked c.args.files.now) (g.F.Files.faults c.args.files.now))
    c.run_rounds.result (λ lines. refl) refl c.run_rounds.ensures.ends)

pub returns-in-Kill-clause-ends : goal.returns-in-Kill-clause-ends
returns-in-Kill-clause-ends g c =
    let ends = rw c.as_slice-in-Kill.ensures at c.kill_domain.ensures.ends in
    rw c.in-Kill.is
    (ends_printed (g.F.Files.tree c.args.files.now) c.args.root.now (OpensFolder (g.F.Files.tree c.args.files.now) c.args.root.now)
    (Kill c.in-Kill.name) c.args.kernel.now c.kill_domain.new.kernel
    (moment (sink (g.S.Sink.bytes c.args.out.now) (g.S.Sink.pieces c.args.out.now) (g.S.Sink.faults c.args.out.now))
    (g.F.Files.asked c.args.files.now) (g.F.Files.faults c.args.files.now))
    (moment (sink (g.S.Sink.bytes c.kill_domain.new.out) (g.S.Sink.pieces c.kill_domain.new.out) (g.S.Sink.faults c.kill_domain.new.out))
    (g.F.Files.asked c.args.files.now) (g.F.Files.faults c.args.files.now))
    c.kill_domain.result (λ lines. refl) refl ends)
