-- The texts of literals are known.
use Rattle.class_init.proofs.own.Own.holds.Goals as goal

pub returns-clause-literals : goal.returns-clause-literals
returns-clause-literals c = rw (← c.self.view_is) c.differ-2.ensures.known
