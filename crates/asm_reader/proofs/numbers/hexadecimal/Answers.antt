-- Each digit comes after those that were read.
use Rattle.std.proofs.Common.{get_or, arith}
use Rattle.asm_reader.proofs.HexDigitsMakeOneNumber.{room, digit_small}
use Rattle.asm_reader.proofs.numbers.hexadecimal.Goals as goal

pub overflow_mul-value : goal.overflow_mul-value
overflow_mul-value c =
    let below = room c.args.word.now c.loop-byte.byte-index c.loop-byte.value c.loop-byte.invariant c.loop-byte-test.true c.if-word-gt4.false in
    omega arith

pub overflow_add-value : goal.overflow_add-value
overflow_add-value c =
    let below = room c.args.word.now c.loop-byte.byte-index c.loop-byte.value c.loop-byte.invariant c.loop-byte-test.true c.if-word-gt4.false in
    let digit = c.in_ok-value.ensures in
    omega (arith, digit_small (get_or c.args.word.now c.loop-byte.byte-index 0) digit.0, digit.1)
