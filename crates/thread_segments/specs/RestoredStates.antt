-- States that are made anew of their parts.
use Rattle.std.specs.Prelude.{◌≡◌, ◌≤◌, ◌^◌, List, length, Contains}
use Rattle.jk_model_classes.specs.declared.sharing.Stub.{Stub}
use Rattle.jk_model_sharing.specs.Segments.{SharedThread}
use Rattle.jk_model_sharing.specs.SharedStates.{SharedDomain, SharedState}
use Rattle.thread_segments.specs.declared.parts.SharedParts.{SharedParts}
use Rattle.thread_segments.specs.SoundStates.{AreSound}
use Rattle.thread_segments.specs.StateParts.{ArePartsOf}
use Rattle.thread_stacks.specs.LiveStacks.{segment_key}
use Rattle.thread_stacks.specs.Places.{AreRisingBy}

-- A state that can be made anew of its parts: it is sound; no domain has a number of more than 32 bits, or quotas of more threads or names
-- than a script can say; and the segments of each thread rise by number, since what comes on top draws the next one.
pub record IsRestorable (s : SharedState) : Type 0 where
  pub sound : AreSound s
  pub few : length s.domains ≤ 2 ^ 32
  pub threads : (e : SharedDomain) → Contains s.domains e → e.quotas.threads ≤ 4096
  pub names : (e : SharedDomain) → Contains s.domains e → e.quotas.names ≤ 4096
  pub rise : (t : SharedThread) → Contains s.threads t → AreRisingBy segment_key t.segments

-- A state that can be made anew has these parts.
pub record IsToldBy (s : SharedState) (parts : SharedParts) : Type 0 where
  pub restorable : IsRestorable s
  pub lists : ArePartsOf s parts

-- A state of these parts, with these stubs. There is one at most.
pub record IsStateOf (s : SharedState) (parts : SharedParts) (stubs : List Stub) : Type 0 where
  pub told : IsToldBy s parts
  pub same : s.stubs ≡ stubs
