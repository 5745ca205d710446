-- Bytes that end within the length, or within what stands after it, go on as a block.
use Rattle.std.proofs.Common.{◌^◌, arith}
use Rattle.std.specs.Int.{w16}
use Rattle.byte_fields.specs.OneNumber.{wide16}
use Rattle.byte_fields.proofs.GivenIsLaidOut.{length_is_cut, block_is_cut}
use Rattle.byte_fields.proofs.numbers.short_block_of.Goals as goal

pub returns-in_err-len-clause-early : goal.returns-in_err-len-clause-early
returns-in_err-len-clause-early c =
    let cut = length_is_cut w16 (2 ^ 16) wide16 (omega arith) c.args.bytes.now (λ i. omega (arith, c.type_inv.bytes i)) c.in_err-len.ensures.gives in
    (λ _. cut, λ _. c.from_residual.ensures.0)

pub returns-clause-early : goal.returns-clause-early
returns-clause-early c =
    let length = c.in_ok-len in
    block_is_cut (λ x. (x.0.now, x.1.now)) w16 (2 ^ 16) wide16 (omega arith) c.args.bytes.now length.rest.now length.len c.bytes_of.result
    (λ i. omega (arith, c.type_inv.bytes i)) length.ensures.gives c.bytes_of.ensures.gives
