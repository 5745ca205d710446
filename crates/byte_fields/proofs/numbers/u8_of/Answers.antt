-- The eight bytes that a number was made of are its spelling.
use Rattle.std.proofs.Common.{◌^◌, arith}
use Rattle.std.specs.Int.{w64}
use Rattle.byte_fields.specs.OneNumber.{wide64}
use Rattle.byte_fields.proofs.GivenIsLaidOut.{number_layout}
use Rattle.byte_fields.proofs.numbers.u8_of.Goals as goal

pub returns-clause-layout : goal.returns-clause-layout
returns-clause-layout c =
    let read = c.in_ok-front in
    number_layout w64 (2 ^ 64) wide64 c.args.bytes.now read.front.now read.rest.now c.read_u64.result (λ i. omega (arith, c.type_inv.bytes i))
    read.ensures.layout read.ensures.long (omega (arith, c.read_u64.ensures))
