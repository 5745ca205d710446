-- Two bytes are an index, and no others are.
use Rattle.std.proofs.Common.{arith, refl}
use Rattle.byte_fields.specs.Layouts.{IsBytes}
use Rattle.byte_fields.specs.OneReading.{u2_reader}
use Rattle.class_rules.proofs.ConstantsByFacts.{index_read, more_than_index, less_than_index}
use Rattle.class_rules.proofs.attributes.index_of.Goals as goal

pub returns-in_default : goal.returns-in_default
returns-in_default c = less_than_index c.args.body.now (c.in_default.ensures.early.0 refl)

pub returns-then-is_empty : goal.returns-then-is_empty
returns-then-is_empty c =
    let fits : IsBytes c.args.body.now = λ i. omega (arith, c.type_inv.body i) in
    let read = u2_reader.takes c.args.body.now (c.in-Ok.i, c.in-Ok.rest.now) fits c.in-Ok.ensures.gives in
    (read.1, index_read c.args.body.now c.in-Ok.rest.now c.in-Ok.i c.is_empty.result c.in-Ok.ensures.layout c.is_empty.ensures c.if-is_empty.true)

pub returns-else-is_empty : goal.returns-else-is_empty
returns-else-is_empty c =
    more_than_index c.args.body.now c.in-Ok.rest.now c.in-Ok.i c.is_empty.result c.in-Ok.ensures.layout c.is_empty.ensures c.if-is_empty.false
