-- What is found of a script, from what was read at its path.
use Rattle.std.proofs.Common.{ℕ, List, Err, ap, subst, sym, ◌∙◌}
use Rattle.jkernel_runs.specs.Scripts.{IsAtFault}
use Rattle.jkernel_runs.proofs.EventsOfScripts.{script_fits}
use Rattle.jkernel_runs.proofs.RunEndsSo.{too_long, same_text, fault_is}
use Rattle.jkernel_runs.proofs.scripts.script_at.Goals as goal

pub returns-in-Err-TooLong-clause-ends : goal.returns-in-Err-TooLong-clause-ends
returns-in-Err-TooLong-clause-ends g c =
    too_long (g.F.Files.tree c.args.files.now) c.args.path.now (g.F.Files.taken c.args.files.now) (g.F.Files.taken c.read.new.self) 0 0
    (c.in-Err-TooLong.ensures.too_long (ap Err c.in-Err-TooLong.field-0-is))

pub returns-in-Ok-read_script-clause-of_script : goal.returns-in-Ok-read_script-clause-of_script
returns-in-Ok-read_script-clause-of_script g c = script_fits c.as_slice.result.now c.in-Ok-read_script.events c.in-Ok-read_script.ensures.events

pub returns-in-Ok-read_script-clause-fault : goal.returns-in-Ok-read_script-clause-fault
returns-in-Ok-read_script-clause-fault g c = λ text f has at.
    let same = same_text (g.F.Files.tree c.args.files.now) c.args.path.now c.in-Ok.text text c.in-Ok.ensures.found has in
    c.in-Ok-read_script.ensures.only_fault f (subst (λ (x : List ℕ). IsAtFault x f) (same ∙ sym c.as_slice.ensures) at)

pub returns-in-Err-Fault-clause-fault : goal.returns-in-Err-Fault-clause-fault
returns-in-Err-Fault-clause-fault g c = λ text f has at.
    let same = same_text (g.F.Files.tree c.args.files.now) c.args.path.now c.in-Ok.text text c.in-Ok.ensures.found has in
    fault_is c.in-Err-Fault.field-0 c.in-Err-Fault.fault f c.in-Err-Fault.field-0-is
    (c.in-Err-Fault.ensures.only_fault f (subst (λ (x : List ℕ). IsAtFault x f) (same ∙ sym c.as_slice.ensures) at))
