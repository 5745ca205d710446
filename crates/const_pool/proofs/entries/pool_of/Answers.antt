-- The count, and the entries after it.
use Rattle.std.proofs.Common.{arith, List, ℕ, sym, subst}
use Rattle.std.proofs.lemmas.Result.{err_from_is_err_and}
use Rattle.const_pool.specs.Reading.{seen}
use Rattle.const_pool.specs.Answer.{IsPoolAnswer}
use Rattle.const_pool.proofs.EntriesMakePool.{no_count, count_is}
use Rattle.const_pool.proofs.entries.pool_of.Goals as goal

pub returns-in_err-count : goal.returns-in_err-count
returns-in_err-count c =
    let p = err_from_is_err_and c.from_residual.result c.from_residual.ensures.1 in
    rw (p.1, p.2) (no_count c.args.bytes.now (λ i. omega (arith, c.type_inv.bytes i)) c.in_err-count.ensures.gives)

pub returns : goal.returns
returns c =
    let front = count_is c.args.bytes.now c.in_ok-count.count c.in_ok-count.rest.now (λ i. omega (arith, c.type_inv.bytes i)) c.in_ok-count.ensures.gives in
    subst (λ (w : List ℕ). IsPoolAnswer w (seen (λ x. (x.0, x.1.now)) c.entries_of.result)) (sym front) c.entries_of.ensures
