-- One more event, and an event that stops the run.
use Rattle.std.proofs.Common.{◌∙◌, refl, sym, arith, subst, Option, Err, Ok}
use Rattle.std.specs.Prelude.{IsSome}
use Rattle.std.proofs.lemmas.Result.{err_from_is_err_and}
use Rattle.jk_model.specs.Outside.{Tree}
use Rattle.jk_model.proofs.CountsNeverFall.{NeverFalls-after, NeverFalls-refl}
use Rattle.kernel_events.specs.PrintedLines.{sink}
use Rattle.jkernel_runs.specs.DomainEvents.{OpensFolder}
use Rattle.jkernel_runs.specs.Events.{EventAsks, EventEnds, moment}
use Rattle.jkernel_runs.proofs.EventsPrinted.{drawn_more}
use Rattle.jkernel_runs.proofs.EventsInTurn.{runs_nothing, goes_on, run_stops, runs_whole, asks_so_far, asks_to_stop}
use Rattle.jkernel_runs.proofs.events.all_happen.Goals as goal

pub returns-in_err-happen-clause-ends : goal.returns-in_err-happen-clause-ends
returns-in_err-happen-clause-ends g c =
    let t = g.F.Files.tree c.args.files.now in
    let root = c.args.root.now in
    let exit = err_from_is_err_and c.from_residual.result c.from_residual.ensures.1 in
    let ends = subst (λ (o : Option Tree). EventEnds o root (OpensFolder o root) c.event-item.result c.loop-event.kernel c.happen.new.kernel
    (moment (sink (g.S.Sink.bytes c.loop-event.out) (g.S.Sink.pieces c.loop-event.out) (g.S.Sink.faults c.loop-event.out)) (g.F.Files.asked c.loop-event.files)
    (g.F.Files.faults c.loop-event.files))
    (moment (sink (g.S.Sink.bytes c.happen.new.out) (g.S.Sink.pieces c.happen.new.out) (g.S.Sink.faults c.happen.new.out)) (g.F.Files.asked c.happen.new.files)
    (g.F.Files.faults c.happen.new.files))
    (Err c.in_err-happen.field-0.0)) c.loop-event.invariant.stays c.in_err-happen.ensures.ends in
    let asks = subst (λ (o : Option Tree). EventAsks o root c.event-item.result (g.F.Files.asked c.loop-event.files) (g.F.Files.asked c.happen.new.files))
    c.loop-event.invariant.stays c.in_err-happen.ensures.asks in
    rw (exit.1, exit.2)
    (run_stops t root (OpensFolder t root) c.args.events.now c.loop-event.event-index c.event-item.result c.loop-event.kernel c.happen.new.kernel
    (moment (sink (g.S.Sink.bytes c.args.out.now) (g.S.Sink.pieces c.args.out.now) (g.S.Sink.faults c.args.out.now))
    (g.F.Files.asked c.args.files.now) (g.F.Files.faults c.args.files.now))
    (moment (sink (g.S.Sink.bytes c.loop-event.out) (g.S.Sink.pieces c.loop-event.out) (g.S.Sink.faults c.loop-event.out)) (g.F.Files.asked c.loop-event.files)
    (g.F.Files.faults c.loop-event.files))
    (moment (sink (g.S.Sink.bytes c.happen.new.out) (g.S.Sink.pieces c.happen.new.out) (g.S.Sink.faults c.happen.new.out)) (g.F.Files.asked c.happen.new.files)
    (g.F.Files.faults c.happen.new.files))
    c.in_err-happen.field-0.0 c.loop-event-test.true c.event-item.is c.loop-event.invariant.run c.loop-event.invariant.files_faults
    c.loop-event.invariant.faults ends asks)

pub returns-in_err-happen-clause-asks : goal.returns-in_err-happen-clause-asks
returns-in_err-happen-clause-asks g c =
    let asks = subst (λ (o : Option Tree). EventAsks o c.args.root.now c.event-item.result (g.F.Files.asked c.loop-event.files)
    (g.F.Files.asked c.happen.new.files)) c.loop-event.invariant.stays c.in_err-happen.ensures.asks in
    asks_to_stop (g.F.Files.tree c.args.files.now) c.args.root.now (OpensFolder (g.F.Files.tree c.args.files.now) c.args.root.now) c.args.events.now
    c.loop-event.event-index
    c.event-item.result c.loop-event.kernel
    (moment (sink (g.S.Sink.bytes c.args.out.now) (g.S.Sink.pieces c.args.out.now) (g.S.Sink.faults c.args.out.now))
    (g.F.Files.asked c.args.files.now) (g.F.Files.faults c.args.files.now))
    (moment (sink (g.S.Sink.bytes c.loop-event.out) (g.S.Sink.pieces c.loop-event.out) (g.S.Sink.faults c.loop-event.out)) (g.F.Files.asked c.loop-event.files)
    (g.F.Files.faults c.loop-event.files))
    (moment (sink (g.S.Sink.bytes c.happen.new.out) (g.S.Sink.pieces c.happen.new.out) (g.S.Sink.faults c.happen.new.out)) (g.F.Files.asked c.happen.new.files)
    (g.F.Files.faults c.happen.new.files))
    c.loop-event-test.true c.event-item.is c.loop-event.invariant.run asks

pub returns-in_err-happen-clause-calm : goal.returns-in_err-happen-clause-calm
returns-in_err-happen-clause-calm g c = λ no told.
    let exit = err_from_is_err_and c.from_residual.result c.from_residual.ensures.1 in
    let unread = rw (exit.1, exit.2) at no in
    c.in_err-happen.ensures.calm unread (subst (λ (o : Option Tree). IsSome o) (sym c.loop-event.invariant.stays) told) ∙ c.loop-event.invariant.calm told

pub returns-in_err-happen-clause-calm_out : goal.returns-in_err-happen-clause-calm_out
returns-in_err-happen-clause-calm_out g c = λ no.
    let exit = err_from_is_err_and c.from_residual.result c.from_residual.ensures.1 in
    let written = rw (exit.1, exit.2) at no in
    c.in_err-happen.ensures.calm_out written ∙ c.loop-event.invariant.calm_out

pub loop-event-preserved : goal.loop-event-preserved
loop-event-preserved g c =
    let t = g.F.Files.tree c.args.files.now in
    let root = c.args.root.now in
    let test = c.loop-event-test.true in
    let ends = subst (λ (o : Option Tree). EventEnds o root (OpensFolder o root) c.event-item.result c.loop-event.kernel c.happen.new.kernel
    (moment (sink (g.S.Sink.bytes c.loop-event.out) (g.S.Sink.pieces c.loop-event.out) (g.S.Sink.faults c.loop-event.out)) (g.F.Files.asked c.loop-event.files)
    (g.F.Files.faults c.loop-event.files))
    (moment (sink (g.S.Sink.bytes c.happen.new.out) (g.S.Sink.pieces c.happen.new.out) (g.S.Sink.faults c.happen.new.out)) (g.F.Files.asked c.happen.new.files)
    (g.F.Files.faults c.happen.new.files))
    (Ok tt)) c.loop-event.invariant.stays c.in_ok-happen.ensures.ends in
    record {
      run = goes_on t root (OpensFolder t root) c.args.events.now c.loop-event.event-index c.event-item.result c.loop-event.kernel c.happen.new.kernel
          (moment (sink (g.S.Sink.bytes c.args.out.now) (g.S.Sink.pieces c.args.out.now) (g.S.Sink.faults c.args.out.now)) (g.F.Files.asked c.args.files.now)
          (g.F.Files.faults c.args.files.now))
          (moment (sink (g.S.Sink.bytes c.loop-event.out) (g.S.Sink.pieces c.loop-event.out) (g.S.Sink.faults c.loop-event.out))
          (g.F.Files.asked c.loop-event.files) (g.F.Files.faults c.loop-event.files))
          (moment (sink (g.S.Sink.bytes c.happen.new.out) (g.S.Sink.pieces c.happen.new.out) (g.S.Sink.faults c.happen.new.out))
          (g.F.Files.asked c.happen.new.files) (g.F.Files.faults c.happen.new.files))
          tt test c.event-item.is c.loop-event.invariant.run ends;
      within = omega arith;
      threads = omega (arith, c.in_ok-happen.ensures.counts.threads, c.loop-event.invariant.threads);
      segments = drawn_more c.loop-event.event-index c.loop-event.kernel c.happen.new.kernel c.loop-event.invariant.segments c.in_ok-happen.ensures.counts;
      stays = c.in_ok-happen.ensures.stays ∙ c.loop-event.invariant.stays;
      calm = λ told. c.in_ok-happen.ensures.calm (λ e. absurd cc) (subst (λ (o : Option Tree). IsSome o) (sym c.loop-event.invariant.stays) told)
          ∙ c.loop-event.invariant.calm told;
      files_faults = NeverFalls-after (g.F.Files.faults c.args.files.now) (g.F.Files.faults c.loop-event.files) (g.F.Files.faults c.happen.new.files)
          c.loop-event.invariant.files_faults c.in_ok-happen.ensures.files_faults;
      calm_out = c.in_ok-happen.ensures.calm_out (λ e. absurd cc) ∙ c.loop-event.invariant.calm_out;
      faults = NeverFalls-after (g.S.Sink.faults c.args.out.now) (g.S.Sink.faults c.loop-event.out) (g.S.Sink.faults c.happen.new.out)
          c.loop-event.invariant.faults c.in_ok-happen.ensures.faults;
    }

pub returns-clause-ends : goal.returns-clause-ends
returns-clause-ends g c =
    runs_whole (g.F.Files.tree c.args.files.now) c.args.root.now (OpensFolder (g.F.Files.tree c.args.files.now) c.args.root.now) c.args.events.now
    c.loop-event.event-index c.loop-event.kernel
    (moment (sink (g.S.Sink.bytes c.args.out.now) (g.S.Sink.pieces c.args.out.now) (g.S.Sink.faults c.args.out.now))
    (g.F.Files.asked c.args.files.now) (g.F.Files.faults c.args.files.now))
    (moment (sink (g.S.Sink.bytes c.loop-event.out) (g.S.Sink.pieces c.loop-event.out) (g.S.Sink.faults c.loop-event.out)) (g.F.Files.asked c.loop-event.files)
    (g.F.Files.faults c.loop-event.files))
    (omega arith) c.loop-event.invariant.within c.loop-event.invariant.run

pub returns-clause-asks : goal.returns-clause-asks
returns-clause-asks g c =
    asks_so_far (g.F.Files.tree c.args.files.now) c.args.root.now (OpensFolder (g.F.Files.tree c.args.files.now) c.args.root.now) c.args.events.now
    c.loop-event.event-index c.loop-event.kernel
    (moment (sink (g.S.Sink.bytes c.args.out.now) (g.S.Sink.pieces c.args.out.now) (g.S.Sink.faults c.args.out.now))
    (g.F.Files.asked c.args.files.now) (g.F.Files.faults c.args.files.now))
    (moment (sink (g.S.Sink.bytes c.loop-event.out) (g.S.Sink.pieces c.loop-event.out) (g.S.Sink.faults c.loop-event.out)) (g.F.Files.asked c.loop-event.files)
    (g.F.Files.faults c.loop-event.files))
    c.loop-event.invariant.run

pub loop-event-init : goal.loop-event-init
loop-event-init g c = record {
  run = runs_nothing (g.F.Files.tree c.args.files.now) c.args.root.now (OpensFolder (g.F.Files.tree c.args.files.now) c.args.root.now)
      c.args.events.now c.args.kernel.now
      (moment (sink (g.S.Sink.bytes c.args.out.now) (g.S.Sink.pieces c.args.out.now) (g.S.Sink.faults c.args.out.now))
      (g.F.Files.asked c.args.files.now) (g.F.Files.faults c.args.files.now))
      c.requires.first (g.met.S.Sink.faults_fit c.args.out.now);
  within = omega arith;
  threads = omega (arith, c.requires.first.threads_from);
  segments = omega (arith, c.requires.first.segments_from);
  stays = refl;
  calm = λ told. refl;
  files_faults = NeverFalls-refl (g.F.Files.faults c.args.files.now) (g.met.F.Files.faults_fit c.args.files.now);
  calm_out = refl;
  faults = NeverFalls-refl (g.S.Sink.faults c.args.out.now) (g.met.S.Sink.faults_fit c.args.out.now);
}
