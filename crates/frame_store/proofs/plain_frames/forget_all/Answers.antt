-- One more is forgotten.
use Rattle.frame_store.proofs.SlotsAreForgotten.{one_forgotten}
use Rattle.frame_store.proofs.plain_frames.forget_all.Goals as goal

pub loop-t-preserved : goal.loop-t-preserved
loop-t-preserved c =
    one_forgotten c.args.places.now c.loop-t.places c.forget.new.places c.args.slots.now c.args.domain c.loop-t.t c.number_at.result c.loop-t.invariant
    c.loop-t-test.true c.number_at.ensures c.forget.ensures
