-- What the steps answer is answered of the body in front.
use Rattle.std.proofs.Common.{inl, inr, arith}
use Rattle.class_reader.specs.SectionLaws.{Front, Tables}
use Rattle.class_reader.proofs.OneCodeBody.{front_ends, bad_length, tables_end, tables_found}
use Rattle.class_reader.proofs.code.code_in_front.Goals as goal

pub returns-in_default : goal.returns-in_default
returns-in_default c = front_ends c.args.body.now (λ i. omega (arith, c.type_inv.body i)) c.in_default.ensures

pub returns-then-not-len : goal.returns-then-not-len
returns-then-not-len c =
    let front : Front = ((c.in-Ok.max_stack, c.in-Ok.max_locals), c.in-Ok.len) in
    bad_length c.args.body.now front c.in-Ok.rest.now (λ i. omega (arith, c.type_inv.body i)) c.in-Ok.ensures
    (elim c.if-not-len.either [ inl many ↦ inr many.1 | inr none ↦ inl (omega arith) ])

pub returns-in-Err-EndsEarly : goal.returns-in-Err-EndsEarly
returns-in-Err-EndsEarly c =
    let front : Front = ((c.in-Ok.max_stack, c.in-Ok.max_locals), c.in-Ok.len) in
    let none = rw c.in-Err-EndsEarly.field-0-is at c.in-Err-EndsEarly.ensures in
    tables_end c.args.body.now front c.in-Ok.rest.now (λ i. omega (arith, c.type_inv.body i)) c.in-Ok.ensures c.if-not-len.false.0 c.if-not-len.false.1 none

pub returns : goal.returns
returns c =
    let x = c.in-Ok-tables_of.read in
    let front : Front = ((c.in-Ok.max_stack, c.in-Ok.max_locals), c.in-Ok.len) in
    let tables : Tables = (x.0.code, (x.0.handlers, x.0.attributes)) in
    let length = c.if-not-len.false in
    tables_found c.args.body.now front c.in-Ok.rest.now tables x.1.now (λ i. omega (arith, c.type_inv.body i)) c.in-Ok.ensures length.0 length.1
    c.in-Ok-tables_of.ensures
