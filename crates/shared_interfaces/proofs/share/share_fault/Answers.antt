-- C25 is asked first, and C26 where no class breaks it.
use Rattle.std.proofs.Common.{inr, refl}
use Rattle.shared_interfaces.proofs.share.share_fault.Goals as goal

pub returns-in_err-c-in-None-clause-no_fault : goal.returns-in_err-c-in-None-clause-no_fault
returns-in_err-c-in-None-clause-no_fault c =
    rw c.from_residual.ensures (rw c.classes-classes.ensures at c.in-None.ensures, c.in_err-c-in-None.ensures)

pub returns-in_ok-c-in-None-clause-fault : goal.returns-in_ok-c-in-None-clause-fault
returns-in_ok-c-in-None-clause-fault c = inr (refl, rw c.classes-classes.ensures at c.in-None.ensures, c.in_ok-c-in-None.ensures)
