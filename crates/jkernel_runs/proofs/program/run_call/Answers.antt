-- A script is run so, and the demo is, which asks nothing of the files.
use Rattle.std.proofs.Common.{inl, refl}
use Rattle.jkernel_runs.proofs.program.run_call.Goals as goal

pub returns-in-Script-clause-ends : goal.returns-in-Script-clause-ends
returns-in-Script-clause-ends g c = λ words called. c.run_script.ensures.ends words (rw c.in-Script.is at called)

pub returns-in-Script-clause-asks : goal.returns-in-Script-clause-asks
returns-in-Script-clause-asks g c = λ words called. c.run_script.ensures.asks words (rw c.in-Script.is at called)

pub returns-in-Demo-clause-ends : goal.returns-in-Demo-clause-ends
returns-in-Demo-clause-ends g c = λ words called.
    c.run_demo.ensures.ends words (g.F.Files.tree c.args.files.now) (g.F.Files.asked c.args.files.now) (g.F.Files.faults c.args.files.now)
    (rw c.in-Demo.is at called)

pub returns-in-Demo-clause-asks : goal.returns-in-Demo-clause-asks
returns-in-Demo-clause-asks g c = λ words called. inl refl
