-- What is read of the bytes after a tag, and why they are not read, is answered of the entry.
use Rattle.std.proofs.Common.{arith}
use Rattle.std.proofs.lemmas.Result.{err_from_is_err_and}
use Rattle.const_pool.proofs.EntriesMakePool.{entry_read, entry_fails}
use Rattle.const_pool.proofs.entries.entry_of.Goals as goal

pub returns : goal.returns
returns c =
    let front = c.in_ok-tag in
    let x = c.in_ok-body_of.field-0 in
    entry_read c.args.index c.args.count c.args.bytes.now front.tag front.rest.now (x.0, x.1.now) (λ i. omega (arith, c.type_inv.bytes i)) c.requires
    front.ensures c.in_ok-body_of.ensures.gives

pub returns-in_err-body_of : goal.returns-in_err-body_of
returns-in_err-body_of c =
    let front = c.in_ok-tag in
    let p = err_from_is_err_and c.from_residual-in_err-body_of.result c.from_residual-in_err-body_of.ensures.1 in
    rw (p.1, p.2) (entry_fails c.args.index c.args.count c.args.bytes.now front.tag front.rest.now c.in_err-body_of.field-0.0
    (λ i. omega (arith, c.type_inv.bytes i)) c.requires front.ensures c.in_err-body_of.ensures.gives)
