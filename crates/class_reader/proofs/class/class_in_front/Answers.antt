-- What the steps answer is answered of the class file in front.
use Rattle.std.proofs.Common.{refl, arith}
use Rattle.std.proofs.lemmas.Result.{err_from_is_err_and}
use Rattle.class_reader.specs.Reading.{Sections}
use Rattle.class_reader.proofs.FirstFaultFound.{pool_refused, answered_cut, answered_found}
use Rattle.class_reader.proofs.class.class_in_front.Goals as goal

pub returns-in_err-pool : goal.returns-in_err-pool
returns-in_err-pool c =
    let v = c.in_ok-minor in
    let p = err_from_is_err_and c.from_residual-in_err-pool.result c.from_residual-in_err-pool.ensures.1 in
    rw (p.1, p.2) (pool_refused c.args.bytes.now v.major v.minor c.in_err-pool.field-0.0 v.ensures c.in_err-pool.ensures)

pub returns-in-Err-EndsEarly : goal.returns-in-Err-EndsEarly
returns-in-Err-EndsEarly c =
    let bytes = c.args.bytes.now in
    let v = c.in_ok-minor in
    let fails = rw c.in-Err-EndsEarly.field-0-is at c.in-Err-EndsEarly.ensures in
    let none = rw c.split_at.ensures.back at fails in
    let cut = answered_cut bytes v.major v.minor c.in_ok-pool.pool (λ i. omega (arith, c.type_inv.bytes i)) (v.ensures, c.in_ok-pool.ensures) none in
    rw c.truncated.ensures (cut, refl)

pub returns : goal.returns
returns c =
    let v = c.in_ok-minor in
    let x = c.in-Ok.read in
    let s : Sections = (x.0.0, (x.0.1.interfaces, (x.0.1.fields, (x.0.1.methods, x.0.1.attributes)))) in
    answered_found c.args.bytes.now v.major v.minor c.in_ok-pool.pool s x.1.now (λ i. omega (arith, c.type_inv.bytes i))
    (v.ensures, c.in_ok-pool.ensures) (rw c.split_at.ensures.back at c.in-Ok.ensures)
