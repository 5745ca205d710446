-- The capabilities so far are made.
use Rattle.std.proofs.Common.{◌≡◌, map, take}
use Rattle.jk_model_sharing.specs.SharedStates.{SharedState, caps_of}
use Rattle.thread_segments.specs.RestoredParts.{AreCapsOf, with_made}
use Rattle.thread_segments.proofs.restoring.make_all.Given as goal

abbrev pub invariant-loop-part : goal.invariant-loop-part
invariant-loop-part l = (s : SharedState) → AreCapsOf l.fn.caps l.parts s → l.caps ≡ map (with_made (take l.part-index l.parts)) (caps_of s)
