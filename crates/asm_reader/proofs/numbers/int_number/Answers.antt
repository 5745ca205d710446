-- The number fits four bytes or not.
use Rattle.std.proofs.Common.{w64}
use Rattle.std.proofs.lemmas.Int.{to_z-of_z}
use Rattle.asm_reader.proofs.NumbersAreWrittenOneWay.{fits_long, int_or_not}
use Rattle.asm_reader.proofs.numbers.int_number.Goals as goal

pub returns : goal.returns
returns c =
    let read = c.in_ok-number.ensures in
    let same = to_z-of_z w64 c.in_ok-number.number (fits_long c.in_ok-number.number read.0) in
    int_or_not c.args.word.now c.in_ok-number.number c.try_from.result c.ok.result (rw same at c.try_from.ensures) c.ok.ensures.value read.0 read.1
