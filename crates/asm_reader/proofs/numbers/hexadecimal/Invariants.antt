-- The value is that of the digits before the index.
use Rattle.asm_reader.proofs.HexDigitsMakeOneNumber.{ReadsHex}
use Rattle.asm_reader.proofs.numbers.hexadecimal.Given as goal

abbrev pub invariant-loop-byte : goal.invariant-loop-byte
invariant-loop-byte l = ReadsHex l.word l.byte-index l.value
