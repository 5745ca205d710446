-- Each fault of the pool has its cause.
use Rattle.std.proofs.Common.{drop, length, Result, Err, ap}
use Rattle.const_pool.specs.declared.pool.Pool.{Pool}
use Rattle.const_pool.specs.declared.pool.PoolError.{PoolError}
use Rattle.class_reader.proofs.FirstFaultFound.{pool_fault}
use Rattle.class_reader.proofs.class.pool_of.Goals as goal

pub returns-in-Err : goal.returns-in-Err
returns-in-Err c =
    let h = c.in-Err.ensures in
    let failed = λ (e : PoolError). let r : Result Pool PoolError = Err e in r in
    rw c.pool_refusal.ensures
    (pool_fault (length c.args.bytes.now) (drop 8 c.args.bytes.now) c.in-Err.e (λ i e. h.bad_tag i (ap failed e)) (λ i e. h.bad_index i (ap failed e))
    (λ i e. h.bad_utf i (ap failed e)) (λ e. h.truncated (ap failed e)))
