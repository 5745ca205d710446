-- Bytes that end within the count go on as a count and so many values.
use Rattle.std.proofs.Common.{arith}
use Rattle.byte_fields.specs.CutIsBeginning.{counted_cut}
use Rattle.byte_fields.proofs.GivenIsLaidOut.{no_count}
use Rattle.byte_fields.proofs.lists.counted_of.Goals as goal

pub returns-in_err-count-clause-early : goal.returns-in_err-count-clause-early
returns-in_err-count-clause-early g c = λ same.
    let f = g.met.F.Field in
    let r = g.F.Field.read_at in
    let bytes = c.args.bytes.now in
    let none = no_count r bytes c.in_err-count.ensures.gives in
    (counted_cut r g.F.Field.value_bytes g.F.Field.is_value f.reads f.fails_within).cut bytes (λ i. omega (arith, c.type_inv.bytes i)) none
