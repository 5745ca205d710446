-- Each entry says whether the next index is unusable.
use Rattle.std.proofs.Common.{sym, ◌∙◌}
use Rattle.class_writer.proofs.SlotsInTurn.{alike, goes_on}
use Rattle.class_writer.proofs.slots.are_slots.Goals as goal

pub loop-entry-preserved : goal.loop-entry-preserved
loop-entry-preserved c =
    let is = sym c.is_unusable.ensures ∙ alike c.is_unusable.result c.loop-entry.due c.if-is_unusable-due.false in
    rw c.is_wide-due.ensures (goes_on c.args.pool.now c.loop-entry.entry-index c.loop-entry.due c.entry-item.result
    (record { within = c.loop-entry-test.true; is = c.entry-item.is }) c.loop-entry.invariant is)
