-- So many words are counted.
use Rattle.std.proofs.Common.{◌≡◌, ◌+◌, length, take}
use Rattle.std.specs.Prelude.{sum_by}
use Rattle.kernel_openings.proofs.WordsSoFar.{text_cost}
use Rattle.kernel_openings.proofs.start_words.words_cost.Given as goal

abbrev pub invariant-loop-word : goal.invariant-loop-word
invariant-loop-word l = l.cost ≡ 4 + length l.words + sum_by text_cost (take l.word-index l.words)
