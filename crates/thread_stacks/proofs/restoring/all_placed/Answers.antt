-- The segments of one more thread are placed.
use Rattle.std.proofs.Common.{◌∙◌, ◌++◌, List, add-one, ap, map}
use Rattle.list_lemmas.proofs.ItemsByPlace.{item_read}
use Rattle.thread_stacks.specs.declared.parts.SegmentPart.{SegmentPart}
use Rattle.thread_stacks.specs.LiveStacks.{placed_at}
use Rattle.thread_stacks.proofs.RestoredThreads.{placed_more}
use Rattle.thread_stacks.proofs.restoring.all_placed.Goals as goal

pub loop-part-preserved : goal.loop-part-preserved
loop-part-preserved c =
    let k = c.loop-part.part-index in
    let p = c.part-item.result in
    let at = item_read c.args.parts.now k p c.loop-part-test.true c.part-item.is in
    rw (add-one k)
    (placed_more c.args.parts.now k p at c.loop-part.placed.items c.place_all.new.placed.items c.loop-part.invariant
    (c.in_ok-place_all.ensures ∙ ap (λ (ss : List SegmentPart). c.loop-part.placed.items ++ map (placed_at p.number.0) ss) c.as_slice.ensures))
