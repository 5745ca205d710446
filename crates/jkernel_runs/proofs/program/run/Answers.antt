-- A run ends as what its words call for, where they were taken.
use Rattle.std.proofs.Common.{map, inl, inr, refl}
use Rattle.std.specs.Prelude.{string_bytes}
use Rattle.kernel_events.specs.PrintedLines.{sink}
use Rattle.jkernel_runs.specs.Events.{moment}
use Rattle.jkernel_runs.proofs.WordsUntaken.{no_call_ends, untaken_ends, untaken_so}
use Rattle.jkernel_runs.proofs.program.run.Goals as goal

pub returns-in-Ok-clause-ends : goal.returns-in-Ok-clause-ends
returns-in-Ok-clause-ends g c = c.run_call.ensures.ends (map string_bytes c.args.words.now) c.in-Ok.ensures.call

pub returns-in-Ok-clause-asks : goal.returns-in-Ok-clause-asks
returns-in-Ok-clause-asks g c = c.run_call.ensures.asks (map string_bytes c.args.words.now) c.in-Ok.ensures.call

pub returns-in-Ok-clause-no_call : goal.returns-in-Ok-clause-no_call
returns-in-Ok-clause-no_call g c = λ none. absurd (no_call_ends (map string_bytes c.args.words.now) c.in-Ok.call none c.in-Ok.ensures.call)

pub returns-in-Ok-clause-missing : goal.returns-in-Ok-clause-missing
returns-in-Ok-clause-missing g c = λ root script call none.
    inl (c.run_call.ensures.missing root script (c.in-Ok.ensures.script root script call) none)

pub returns-in-Ok-clause-missing_plain : goal.returns-in-Ok-clause-missing_plain
returns-in-Ok-clause-missing_plain g c = λ root script plain none.
    c.run_call.ensures.missing root script (c.in-Ok.ensures.plain root script plain) none

pub returns-in-Ok-clause-over : goal.returns-in-Ok-clause-over
returns-in-Ok-clause-over g c = λ root script call long.
    elim (c.run_call.ensures.over root script (c.in-Ok.ensures.script root script call) long) [
      | inl refused ↦ inl refused
      | inr read ↦ inr (inl read)
    ]

pub returns-in-Ok-clause-over_plain : goal.returns-in-Ok-clause-over_plain
returns-in-Ok-clause-over_plain g c = λ root script plain long.
    c.run_call.ensures.over root script (c.in-Ok.ensures.plain root script plain) long

pub returns-in-Ok-clause-script : goal.returns-in-Ok-clause-script
returns-in-Ok-clause-script g c = λ root script text events call has is.
    c.run_call.ensures.script root script text events (c.in-Ok.ensures.script root script call) has is

pub returns-in-Ok-clause-fault : goal.returns-in-Ok-clause-fault
returns-in-Ok-clause-fault g c = λ root script text f call has at.
    c.run_call.ensures.fault root script text f (c.in-Ok.ensures.script root script call) has at

pub returns-in-Ok-clause-demo : goal.returns-in-Ok-clause-demo
returns-in-Ok-clause-demo g c = λ seed call. c.run_call.ensures.demo seed (c.in-Ok.ensures.demo seed call)

pub returns-in-Err-clause-ends : goal.returns-in-Err-clause-ends
returns-in-Err-clause-ends g c =
    rw c.untaken.ensures
    (untaken_ends (g.F.Files.tree c.args.files.now) (map string_bytes c.args.words.now)
    (moment (sink (g.S.Sink.bytes c.args.out.now) (g.S.Sink.pieces c.args.out.now) (g.S.Sink.faults c.args.out.now))
    (g.F.Files.asked c.args.files.now) (g.F.Files.faults c.args.files.now)) c.in-Err.error (λ is. c.in-Err.ensures.usage (rw is refl)))

pub returns-in-Err-clause-no_call : goal.returns-in-Err-clause-no_call
returns-in-Err-clause-no_call g c = λ none. rw c.untaken.ensures (untaken_so c.in-Err.error)

pub returns-in-Err-clause-missing : goal.returns-in-Err-clause-missing
returns-in-Err-clause-missing g c = λ root script call none. inr (rw (c.untaken.ensures, c.in-Err.ensures.script root script call) refl)

pub returns-in-Err-clause-missing_plain : goal.returns-in-Err-clause-missing_plain
returns-in-Err-clause-missing_plain g c = λ root script plain none. absurd (c.in-Err.ensures.plain root script plain)

pub returns-in-Err-clause-over : goal.returns-in-Err-clause-over
returns-in-Err-clause-over g c = λ root script call long. inr (inr (rw (c.untaken.ensures, c.in-Err.ensures.script root script call) refl))

pub returns-in-Err-clause-over_plain : goal.returns-in-Err-clause-over_plain
returns-in-Err-clause-over_plain g c = λ root script plain long. absurd (c.in-Err.ensures.plain root script plain)

pub returns-in-Err-clause-script : goal.returns-in-Err-clause-script
returns-in-Err-clause-script g c = λ root script text events call has is. rw (c.untaken.ensures, c.in-Err.ensures.script root script call) tt

pub returns-in-Err-clause-fault : goal.returns-in-Err-clause-fault
returns-in-Err-clause-fault g c = λ root script text f call has at. rw (c.untaken.ensures, c.in-Err.ensures.script root script call) tt

pub returns-in-Err-clause-demo : goal.returns-in-Err-clause-demo
returns-in-Err-clause-demo g c = λ seed call. rw (c.untaken.ensures, c.in-Err.ensures.demo seed call) tt
