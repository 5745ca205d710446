-- A step goes on with the code, or there is none.
use Rattle.std.proofs.Common.{◌-◌, length, arith}
use Rattle.jk_model.proofs.EmptyByLength.{not_nil_from_test}
use Rattle.byte_fields.specs.Layouts.{IsBytes}
use Rattle.jk_opcodes.proofs.OneReading.{after_instr, shorter, at_stop}
use Rattle.jk_opcodes.proofs.code.read.Goals as goal

pub loop-rest-smaller : goal.loop-rest-smaller
loop-rest-smaller c =
    let fits : IsBytes c.args.code.now = λ i. omega (arith, c.type_inv.code i) in
    shorter c.args.code.now c.loop-rest.rest.now c.in-Ok.after.now c.loop-rest.instrs (length c.args.code.now - length c.loop-rest.rest.now) c.in-Ok.instr
    fits c.loop-rest.invariant c.in-Ok.ensures.gives

pub loop-rest-preserved : goal.loop-rest-preserved
loop-rest-preserved c =
    let fits : IsBytes c.args.code.now = λ i. omega (arith, c.type_inv.code i) in
    rw c.in_ok-push-in-Ok.ensures.ok (after_instr c.args.code.now c.loop-rest.rest.now c.in-Ok.after.now c.loop-rest.instrs c.in-Ok.instr fits
    c.loop-rest.invariant c.in-Ok.ensures.gives)

pub returns-in-Err : goal.returns-in-Err
returns-in-Err c =
    let fits : IsBytes c.args.code.now = λ i. omega (arith, c.type_inv.code i) in
    rw c.at.ensures (at_stop c.args.code.now c.loop-rest.rest.now c.loop-rest.instrs c.in-Err.e fits c.loop-rest.invariant
    (not_nil_from_test c.loop-rest.rest.now c.is_empty.result c.is_empty.ensures c.loop-rest-test.true) c.in-Err.ensures.gives)
