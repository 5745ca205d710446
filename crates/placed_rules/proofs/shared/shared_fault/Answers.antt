-- The first class that breaks a rule is that of the first file that does.
use Rattle.placed_rules.proofs.SharedFiles.{shared_first, shared_none}
use Rattle.placed_rules.proofs.shared.shared_fault.Goals as goal

pub returns-in_err-class-clause-none : goal.returns-in_err-class-clause-none
returns-in_err-class-clause-none c =
    rw c.from_residual.ensures
    (shared_none c.args.w.now c.args.home c.args.order.now c.args.first c.args.offers.now c.args.declared.now c.in_err-class.ensures.none)

pub returns-clause-fault : goal.returns-clause-fault
returns-clause-fault c =
    shared_first c.args.w.now c.args.home c.args.order.now c.args.first c.args.offers.now c.args.declared.now c.in_ok-class.class c.in_ok-class.fault
    c.file_of-file.result c.in_ok-class.ensures.fault c.file_of-file.ensures
