-- Changes that keep what domains share sound, whoever makes them.
use Rattle.jk_model.specs.declared.identifiers.DomainId.{DomainId}
use Rattle.jk_model.specs.declared.identifiers.ThreadNo.{ThreadNo}
use Rattle.jk_model_sharing.specs.SharedStates.{Drops, SharedState, pushed}
use Rattle.thread_segments.specs.Asked.{HasRoomForSegment, IsLiveDomain, IsLiveThread, MayDrawSegment}
use Rattle.thread_segments.specs.SoundStates.{AreSound}

-- A segment is put on top of a thread.
abbrev pub PushesKeepSound : Type 0
PushesKeepSound =
    (s : SharedState) (t : ThreadNo) (d : DomainId) → IsLiveDomain s d → IsLiveThread s t → HasRoomForSegment s d → MayDrawSegment s → AreSound s
    → AreSound (pushed t d s)

-- A domain ends.
abbrev pub EndsKeepSound : Type 0
EndsKeepSound = (s new : SharedState) (d : DomainId) → Drops s d new → AreSound s → AreSound new
