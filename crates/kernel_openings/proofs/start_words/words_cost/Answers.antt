-- So few short words fit any heap.
use Rattle.std.proofs.Common.{ap, length, arith}
use Rattle.std.proofs.lemmas.List.Sums.{sum_by_more_le}
use Rattle.kernel_openings.proofs.WordsSoFar.{small_sum, text_cost}
use Rattle.kernel_openings.proofs.start_words.words_cost.Goals as goal

pub overflow_add-cost-in-loop-word-2 : goal.overflow_add-cost-in-loop-word-2
overflow_add-cost-in-loop-word-2 c =
    let words = c.args.words.now in
    let few = c.requires.few in
    let small = small_sum words c.requires.short in
    let more = sum_by_more_le text_cost words c.loop-word.word-index c.word-item.result c.loop-word-test.true in
    let cost = c.loop-word.invariant in
    let len = c.len.ensures in
    let same = ap length c.word-item.is in
    omega (arith, few, small, more, cost, len, same)
