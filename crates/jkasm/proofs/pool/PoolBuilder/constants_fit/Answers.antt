-- The pool of a file has room for its constants.
use Rattle.jkasm.proofs.FilePoolFits.{file_pool_fits}
use Rattle.jkasm.proofs.pool.PoolBuilder.constants_fit.Goals as goal

pub returns-clause-fit : goal.returns-clause-fit
returns-clause-fit c = λ constants h fits. file_pool_fits c.args.self.now constants (rw (← c.self.view_is) (c.self.invariant.file)) h fits
