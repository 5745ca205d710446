-- So many levels are counted.
use Rattle.heap_loops.proofs.WordsOfCounts.{WordsSoFar}
use Rattle.heap_loops.proofs.array_trees.arrays_words.Given as goal

abbrev pub invariant-loop-count : goal.invariant-loop-count
invariant-loop-count l = WordsSoFar l.t l.kind l.counts l.count-index l.arrays l.words
