-- Where a full pool is the fault of a line, the pool was full.
use Rattle.std.proofs.Common.{◌≡◌, refl, sym, ◌∙◌, Result, Ok, Err}
use Rattle.std.specs.Result.{IsErrAnd}
use Rattle.jkasm.specs.declared.code_writer.LineStop.{LineStop}
use Rattle.jkasm.specs.declared.code_writer.LineStop.TheVariants as stop
use Rattle.jkasm.specs.declared.pool.PoolError.{PoolError}
use Rattle.jkasm.specs.declared.pool.PoolError.TheVariants.{Full, OutOfMemory}
use Rattle.jkasm.specs.LineStops.{stop_of}

stop_full : (e : PoolError) → stop_of e ≡ stop.AtFault → e ≡ Full
stop_full Full h = refl
stop_full OutOfMemory h = absurd cc

-- the answer of a `?` on a pool
pub full_at_fault : {X : Type 0} (r : Result X LineStop) (e : PoolError) → IsErrAnd r (λ s. s ≡ stop_of e) → r ≡ Err stop.AtFault → e ≡ Full
full_at_fault (Ok x) e is h = absurd cc
full_at_fault (Err s) e is h =
    let fault : s ≡ stop.AtFault = cc in
    stop_full e (sym is ∙ fault)

-- the answer of a `?` on another line's part
pub same_fault : {X : Type 0} (r : Result X LineStop) (e : LineStop) → IsErrAnd r (λ s. s ≡ e) → r ≡ Err stop.AtFault → e ≡ stop.AtFault
same_fault (Ok x) e is h = absurd cc
same_fault (Err s) e is h =
    let fault : s ≡ stop.AtFault = cc in
    sym is ∙ fault
