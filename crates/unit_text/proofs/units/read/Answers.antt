-- The next unit goes on with the text, or there is none.
use Rattle.unit_text.proofs.OneReading.{after_unit}
use Rattle.unit_text.proofs.units.read.Goals as goal

pub loop-rest-preserved : goal.loop-rest-preserved
loop-rest-preserved c =
    rw c.in_ok-push.ensures.ok (after_unit c.args.bytes.now c.loop-rest.rest.now c.in-Some.after.now
    c.loop-rest.units c.in-Some.unit c.loop-rest.invariant c.in-Some.ensures)
