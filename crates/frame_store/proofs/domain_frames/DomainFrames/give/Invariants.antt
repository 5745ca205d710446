-- The first arguments are in the locals.
use Rattle.frame_store.specs.DomainMoves.{MayGive}
use Rattle.frame_store.proofs.FramesCalled.{HasGivenSome}
use Rattle.frame_store.proofs.domain_frames.DomainFrames.give.Given as goal

abbrev pub invariant-loop-k : goal.invariant-loop-k
invariant-loop-k l =
    (may : MayGive l.initial.self l.caller l.frame l.count) → HasGivenSome l.initial.self l.caller l.frame l.count may l.self l.k l.at
