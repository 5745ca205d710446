-- No class breaks C27 where none was found.
use Rattle.shared_interfaces.proofs.remote.remote_fault.Goals as goal

pub returns-in_err-c-clause-no_fault : goal.returns-in_err-c-clause-no_fault
returns-in_err-c-clause-no_fault c = rw (c.from_residual.ensures, ← c.classes-classes.ensures) c.in_err-c.ensures
