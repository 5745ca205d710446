-- These words were read, and the rest of the line gets shorter.
use Rattle.std.proofs.Common.{length}
use Rattle.asm_reader.proofs.OneSplitIntoWords.{Passes}
use Rattle.asm_reader.proofs.words.read_words.Given as goal

abbrev pub invariant-loop-words : goal.invariant-loop-words
invariant-loop-words l = Passes l.line l.words l.rest

abbrev pub decreases-loop-words : goal.decreases-loop-words
decreases-loop-words l = length l.rest
