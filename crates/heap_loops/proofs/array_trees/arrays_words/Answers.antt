-- One level more is counted.
use Rattle.heap_loops.proofs.WordsOfCounts.{level_counted}
use Rattle.heap_loops.proofs.array_trees.arrays_words.Goals as goal

pub loop-count-preserved : goal.loop-count-preserved
loop-count-preserved c =
    level_counted c.args.t.now c.loop-count.kind c.element_of-kind.result c.args.counts.now c.loop-count.count-index c.loop-count.arrays
    c.loop-count.words c.from-arrays.result c.array_words.result c.loop-count-test.true c.element_of-kind.ensures c.from-arrays.ensures
    c.array_words.ensures.cost c.array_words.ensures.least c.if-words-gt-MOST_WORDS.false c.loop-count.invariant
