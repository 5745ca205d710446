-- A run of a script ends as the script and its events do.
use Rattle.std.proofs.Common.{◌≡◌, inl, inr, Option, List, Result, Ok, Err, refl, sym, ap, subst, ◌∙◌}
use Rattle.std.specs.Prelude.{IsSome}
use Rattle.jk_model.specs.declared.script.Event.{Event}
use Rattle.jk_model.specs.Outside.{Tree}
use Rattle.kernel_events.specs.PrintedLines.{sink}
use Rattle.jkernel_runs.specs.declared.ends.End.{End}
use Rattle.jkernel_runs.specs.DomainEvents.{OpensFolder}
use Rattle.jkernel_runs.specs.Ends.{end_of}
use Rattle.jkernel_runs.specs.Events.{RunEnds, RunAsks, moment}
use Rattle.jkernel_runs.proofs.RunEndsSo.{refused_so, run_ends, run_asks, script_ends, well_of}
use Rattle.jkernel_runs.proofs.program.run_script.Goals as goal

no_error : {events : List Event} {end : End} → ◌≡◌ {A = Result (List Event) End} (Ok events) (Err end) → ⊥
no_error e = cc

pub returns-in-Err-clause-ends : goal.returns-in-Err-clause-ends
returns-in-Err-clause-ends g c = λ words call.
    script_ends (g.F.Files.tree c.args.files.now) words c.args.root.now c.args.script.now
    (moment (sink (g.S.Sink.bytes c.args.out.now) (g.S.Sink.pieces c.args.out.now) (g.S.Sink.faults c.args.out.now))
    (g.F.Files.asked c.args.files.now) (g.F.Files.faults c.args.files.now))
    (moment (sink (g.S.Sink.bytes c.args.out.now) (g.S.Sink.pieces c.args.out.now) (g.S.Sink.faults c.args.out.now)) (g.F.Files.asked c.script_at.new.files)
    (g.F.Files.faults c.script_at.new.files))
    c.in-Err.end call refl c.in-Err.ensures.asks c.in-Err.ensures.ends

pub returns-in-Err-clause-fault : goal.returns-in-Err-clause-fault
returns-in-Err-clause-fault g c = λ text f has at.
    refused_so f (g.F.Files.faults c.args.files.now) (g.F.Files.faults c.script_at.new.files) c.in-Err.end (c.in-Err.ensures.fault text f has at)

pub returns-clause-ends : goal.returns-clause-ends
returns-clause-ends g c = λ words call.
    let out = sink (g.S.Sink.bytes c.args.out.now) (g.S.Sink.pieces c.args.out.now) (g.S.Sink.faults c.args.out.now) in
    let a = moment out (g.F.Files.asked c.args.files.now) (g.F.Files.faults c.args.files.now) in
    let b = moment out (g.F.Files.asked c.script_at.new.files) (g.F.Files.faults c.script_at.new.files) in
    let d = moment (sink (g.S.Sink.bytes c.run_events.new.out) (g.S.Sink.pieces c.run_events.new.out) (g.S.Sink.faults c.run_events.new.out))
    (g.F.Files.asked c.run_events.new.files) (g.F.Files.faults c.run_events.new.files) in
    let r = c.run_events.result in
    let ends = subst (λ (es : List Event). RunEnds (g.F.Files.tree c.args.files.now) c.args.root.now (OpensFolder (g.F.Files.tree
    c.args.files.now) c.args.root.now) es b d r) c.as_slice.ensures
    (subst (λ (o : Option Tree). RunEnds o c.args.root.now (OpensFolder o c.args.root.now) c.as_slice.result.now b d r) c.in-Ok.ensures.stays
    c.run_events.ensures.ends) in
    rw c.ended.ensures
    (run_ends (g.F.Files.tree c.args.files.now) words c.args.root.now c.args.script.now c.in-Ok.events a b d call c.in-Ok.ensures.ends
    c.in-Ok.ensures.asks c.in-Ok.ensures.faults refl r ends)

pub returns-clause-asks : goal.returns-clause-asks
returns-clause-asks g c = λ words call.
    let asks = subst (λ (es : List Event). RunAsks (g.F.Files.tree c.args.files.now) c.args.root.now es (g.F.Files.asked c.script_at.new.files)
    (g.F.Files.asked c.run_events.new.files)) c.as_slice.ensures
    (subst (λ (o : Option Tree). RunAsks o c.args.root.now c.as_slice.result.now (g.F.Files.asked c.script_at.new.files)
    (g.F.Files.asked c.run_events.new.files)) c.in-Ok.ensures.stays c.run_events.ensures.asks) in
    run_asks (g.F.Files.tree c.args.files.now) words c.args.root.now c.args.script.now c.in-Ok.events
    (moment (sink (g.S.Sink.bytes c.args.out.now) (g.S.Sink.pieces c.args.out.now) (g.S.Sink.faults c.args.out.now))
    (g.F.Files.asked c.args.files.now) (g.F.Files.faults c.args.files.now))
    (moment (sink (g.S.Sink.bytes c.args.out.now) (g.S.Sink.pieces c.args.out.now) (g.S.Sink.faults c.args.out.now)) (g.F.Files.asked c.script_at.new.files)
    (g.F.Files.faults c.script_at.new.files))
    (moment (sink (g.S.Sink.bytes c.run_events.new.out) (g.S.Sink.pieces c.run_events.new.out) (g.S.Sink.faults c.run_events.new.out))
    (g.F.Files.asked c.run_events.new.files) (g.F.Files.faults c.run_events.new.files))
    call c.in-Ok.ensures.ends c.in-Ok.ensures.asks c.in-Ok.ensures.faults refl asks

pub returns-clause-calm : goal.returns-clause-calm
returns-clause-calm g c = λ other told.
    c.run_events.ensures.calm (λ e. other (c.ended.ensures ∙ ap end_of e)) (subst (λ (o : Option Tree). IsSome o) (sym c.in-Ok.ensures.stays) told)
    ∙ c.in-Ok.ensures.calm (λ e. no_error e) told

pub returns-clause-calm_out : goal.returns-clause-calm_out
returns-clause-calm_out g c = λ other. c.run_events.ensures.calm_out (λ e. other (c.ended.ensures ∙ ap end_of e))

pub returns-clause-missing : goal.returns-clause-missing
returns-clause-missing g c = λ none. absurd (no_error (c.in-Ok.ensures.missing none))

pub returns-clause-over : goal.returns-clause-over
returns-clause-over g c = λ long. elim (c.in-Ok.ensures.over long) [ inl e ↦ absurd (no_error e) | inr e ↦ absurd (no_error e) ]

pub returns-clause-script : goal.returns-clause-script
returns-clause-script g c = λ text events has is.
    let out = sink (g.S.Sink.bytes c.args.out.now) (g.S.Sink.pieces c.args.out.now) (g.S.Sink.faults c.args.out.now) in
    let a = moment out (g.F.Files.asked c.args.files.now) (g.F.Files.faults c.args.files.now) in
    let b = moment out (g.F.Files.asked c.script_at.new.files) (g.F.Files.faults c.script_at.new.files) in
    let d = moment (sink (g.S.Sink.bytes c.run_events.new.out) (g.S.Sink.pieces c.run_events.new.out) (g.S.Sink.faults c.run_events.new.out))
    (g.F.Files.asked c.run_events.new.files) (g.F.Files.faults c.run_events.new.files) in
    let r = c.run_events.result in
    let ends = subst (λ (es : List Event). RunEnds (g.F.Files.tree c.args.files.now) c.args.root.now (OpensFolder (g.F.Files.tree
    c.args.files.now) c.args.root.now) es b d r) c.as_slice.ensures
    (subst (λ (o : Option Tree). RunEnds o c.args.root.now (OpensFolder o c.args.root.now) c.as_slice.result.now b d r) c.in-Ok.ensures.stays
    c.run_events.ensures.ends) in
    rw c.ended.ensures
    (well_of (g.F.Files.tree c.args.files.now) c.args.root.now c.in-Ok.events (g.F.Files.faults c.args.files.now) b d c.in-Ok.ensures.faults r ends)

pub returns-clause-fault : goal.returns-clause-fault
returns-clause-fault g c = λ text f has at. absurd (c.in-Ok.ensures.fault text f has at)
