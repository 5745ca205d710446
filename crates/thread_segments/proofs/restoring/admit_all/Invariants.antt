-- The domains so far have their ranges.
use Rattle.std.proofs.Common.{◌≡◌, [], map, take}
use Rattle.jk_model_sharing.specs.SharedStates.{SharedState, caps_of}
use Rattle.thread_segments.specs.RestoredParts.{AreDomainsOf, with_made}
use Rattle.thread_segments.proofs.restoring.admit_all.Given as goal

abbrev pub invariant-loop-place : goal.invariant-loop-place
invariant-loop-place l = (s : SharedState) → AreDomainsOf l.domains s → l.caps ≡ map (with_made []) (take l.place (caps_of s))
