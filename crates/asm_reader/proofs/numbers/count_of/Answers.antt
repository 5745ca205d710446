-- The number fits two bytes without a sign or not.
use Rattle.std.proofs.Common.{w64, pos}
use Rattle.std.proofs.lemmas.Int.{to_z-of_z}
use Rattle.asm_reader.proofs.NumbersAreWrittenOneWay.{fits_long, count_is_long, count_or_not}
use Rattle.asm_reader.proofs.numbers.count_of.Goals as goal

pub returns : goal.returns
returns c =
    let read = c.in_ok-number.ensures in
    let same = to_z-of_z w64 c.in_ok-number.number (fits_long c.in_ok-number.number read.0) in
    count_or_not c.args.word.now c.in_ok-number.number c.try_from.result c.ok.result (rw same at c.try_from.ensures) c.ok.ensures.value read.0 read.1

pub returns-in_err-number : goal.returns-in_err-number
returns-in_err-number c = rw c.from_residual.ensures (λ n small. c.in_err-number.ensures (pos n) (count_is_long n small))
