-- The status is that of the run's end.
use Rattle.std.proofs.Common.{◌≡◌, ◌⊎◌, map, sym, subst, ◌∙◌}
use Rattle.std.specs.Prelude.{string_bytes}
use Rattle.kernel_events.specs.PrintedLines.{sink}
use Rattle.jkernel_runs.specs.declared.status.Status.{Status}
use Rattle.jkernel_runs.specs.declared.status.Status.TheVariants.{Done, ScriptRefused, OutOfMemory}
use Rattle.jkernel_runs.specs.Events.{moment}
use Rattle.jkernel_runs.proofs.RunEndsSo.{demo_status, ends_done, ends_in_lines, ends_no_call, refused_status}
use Rattle.jkernel_runs.proofs.program.jkernel.Goals as goal

pub returns-clause-causes_fault : goal.returns-clause-causes_fault
returns-clause-causes_fault g c = λ root script text fault call has at calm.
    subst (λ (s : Status). (s ≡ ScriptRefused) ⊎ (s ≡ OutOfMemory)) (sym c.status.ensures)
    (refused_status fault (g.F.Files.faults c.args.files.now) (g.F.Files.faults c.run-end.new.files) c.run-end.result
    (c.run-end.ensures.fault root script text fault call has at) calm)

pub returns-clause-early_write : goal.returns-clause-early_write
returns-clause-early_write g c = λ is.
    ends_in_lines (g.F.Files.tree c.args.files.now) (map string_bytes c.args.words.now)
    (moment (sink (g.S.Sink.bytes c.args.out.now) (g.S.Sink.pieces c.args.out.now) (g.S.Sink.faults c.args.out.now))
    (g.F.Files.asked c.args.files.now) (g.F.Files.faults c.args.files.now))
    (moment (sink (g.S.Sink.bytes c.run-end.new.out) (g.S.Sink.pieces c.run-end.new.out) (g.S.Sink.faults c.run-end.new.out))
    (g.F.Files.asked c.run-end.new.files) (g.F.Files.faults c.run-end.new.files))
    c.run-end.result c.run-end.ensures.ends (sym c.status.ensures ∙ is)

pub returns-clause-done : goal.returns-clause-done
returns-clause-done g c = λ is.
    ends_done (g.F.Files.tree c.args.files.now) (map string_bytes c.args.words.now)
    (moment (sink (g.S.Sink.bytes c.args.out.now) (g.S.Sink.pieces c.args.out.now) (g.S.Sink.faults c.args.out.now))
    (g.F.Files.asked c.args.files.now) (g.F.Files.faults c.args.files.now))
    (moment (sink (g.S.Sink.bytes c.run-end.new.out) (g.S.Sink.pieces c.run-end.new.out) (g.S.Sink.faults c.run-end.new.out))
    (g.F.Files.asked c.run-end.new.files) (g.F.Files.faults c.run-end.new.files))
    c.run-end.result c.run-end.ensures.ends (sym c.status.ensures ∙ is)

pub returns-clause-causes_usage : goal.returns-clause-causes_usage
returns-clause-causes_usage g c = λ is.
    ends_no_call (g.F.Files.tree c.args.files.now) (map string_bytes c.args.words.now)
    (moment (sink (g.S.Sink.bytes c.args.out.now) (g.S.Sink.pieces c.args.out.now) (g.S.Sink.faults c.args.out.now))
    (g.F.Files.asked c.args.files.now) (g.F.Files.faults c.args.files.now))
    (moment (sink (g.S.Sink.bytes c.run-end.new.out) (g.S.Sink.pieces c.run-end.new.out) (g.S.Sink.faults c.run-end.new.out))
    (g.F.Files.asked c.run-end.new.files) (g.F.Files.faults c.run-end.new.files))
    c.run-end.result c.run-end.ensures.ends (sym c.status.ensures ∙ is)

pub returns-clause-complete_demo : goal.returns-clause-complete_demo
returns-clause-complete_demo g c = λ seed call calm.
    subst (λ (s : Status). (s ≡ Done) ⊎ (s ≡ OutOfMemory)) (sym c.status.ensures)
    (demo_status (g.S.Sink.faults c.args.out.now) (g.S.Sink.faults c.run-end.new.out) c.run-end.result
    (c.run-end.ensures.demo seed call) calm)
