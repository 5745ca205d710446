-- Each entry goes on with the pool, or is why there is none.
use Rattle.std.proofs.Common.{ℕ, ◌+◌, ◌<◌, ◌≤◌, length, Err, subst}
use Rattle.std.proofs.lemmas.Result.{err_from_is_err_and}
use Rattle.const_pool.specs.Answer.{group, IsEntryAnswer}
use Rattle.const_pool.proofs.EntriesMakePool.{goes_on, stops, is_done}
use Rattle.const_pool.proofs.entries.entries_of.Goals as goal

pub returns-in_err-entry : goal.returns-in_err-entry
returns-in_err-entry c =
    let p = err_from_is_err_and c.from_residual-in_err-entry.result c.from_residual-in_err-entry.ensures.1 in
    let why =
    subst (λ (n : ℕ). IsEntryAnswer n c.args.count c.loop-alloc.rest.now (Err c.in_err-entry.field-0.0)) c.len-in-loop-alloc.ensures
    c.in_err-entry.ensures in
    rw (p.1, p.2) (stops c.args.count c.args.bytes.now c.loop-alloc.entries c.loop-alloc.rest.now c.in_err-entry.field-0.0 c.loop-alloc.invariant
    c.ranges.count.fits (subst (λ (n : ℕ). n < c.args.count) c.len.ensures c.loop-alloc-test.true) why)

pub loop-alloc-preserved : goal.loop-alloc-preserved
loop-alloc-preserved c =
    let h = c.in_ok-entry.ensures in
    let room = subst (λ (n : ℕ). n + length (group c.in_ok-entry.entry) ≤ c.args.count) c.len-in-loop-alloc.ensures h.2 in
    rw c.in_ok-push_entry.ensures (goes_on c.args.count c.args.bytes.now c.loop-alloc.entries c.loop-alloc.rest.now c.in_ok-entry.entry
    c.in_ok-entry.after.now c.loop-alloc.invariant h.0 h.1 room)

pub returns : goal.returns
returns c =
    is_done c.args.count c.args.bytes.now c.loop-alloc.entries c.loop-alloc.rest.now c.loop-alloc.invariant c.ranges.count.fits
    (subst (λ (n : ℕ). c.args.count ≤ n) c.len.ensures c.loop-alloc-test.false)
