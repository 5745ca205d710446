-- The first live slots are forgotten.
use Rattle.frame_store.specs.StoreContents.{AreForgotten}
use Rattle.frame_store.proofs.plain_frames.forget_all.Given as goal

abbrev pub invariant-loop-t : goal.invariant-loop-t
invariant-loop-t l = AreForgotten l.initial.places l.places l.slots l.domain l.t
