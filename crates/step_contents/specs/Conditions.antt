-- When a step function may be called: all that it may rest on. Nothing is asked of other domains' heaps and of other segments.
use Rattle.std.specs.Prelude.{◌≡◌, ◌≢◌, ℕ, ◌^◌, ◌<◌, true, List, [], ◌∷◌, ◌++◌, Some, None}
use Rattle.jk_model.specs.declared.identifiers.CapId.{CapId}
use Rattle.jk_model.specs.declared.identifiers.ClassId.{ClassId}
use Rattle.jk_model.specs.declared.identifiers.DomainId.{DomainId}
use Rattle.jk_model_classes.specs.declared.records.ClassRecord.{ClassRecord}
use Rattle.jk_model_classes.specs.declared.sharing.Stub.{Stub}
use Rattle.jk_model_classes.specs.Classes.{record_of}
use Rattle.jk_model_classes.specs.Stubs.{ImplementsRemote}
use Rattle.jk_model_classes.specs.Worlds.{DomainRecord, domain_of}
use Rattle.jk_model_frames.specs.Frames.{FrameState}
use Rattle.jk_model_heaps.specs.Capabilities.{IsGivenOut}
use Rattle.jk_model_heaps.specs.Heaps.{heap_words}
use Rattle.jk_model_heaps.specs.Workings.{Run, Working}
use Rattle.jk_model_sealing.specs.FittingFrames.{FitsAsTop}
use Rattle.jk_model_sealing.specs.SealedInsides.{IsSealedInside, Surroundings}
use Rattle.jk_model_sealing.specs.SealedRuns.{IsSealedRun}
use Rattle.jk_model_sharing.specs.KnownStubs.{AreKnownStubs}
use Rattle.jk_model_sharing.specs.SharedStates.{SharedDomain, SharedState, caps_of, domain_numbered, stub_for, stub_of}
use Rattle.class_init.specs.KeptStates.{HasRooms}
use Rattle.heap_laws.specs.RaisableObjects.{KeepsStates, MayMeetRaise}
use Rattle.heap_laws.specs.SoundCodes.{AreSoundCodes}
use Rattle.heap_laws.specs.SoundTables.{IsSoundTable}
use Rattle.step_contents.specs.Contents.{Contents, Here, Holds, inside_in}
use Rattle.step_contents.specs.PlacesInCode.{IsPlaceIn, PlaceInCode}

-- ---- What domains share.

-- The domain is live; each stub is known; there is one for each class of a folder that implements jk/Remote, and for each
-- capability; and numbers of capabilities fit 24 bits.
pub record SharesWell (classes : List ClassRecord) (shared : SharedState) (d : DomainId) : Type 0 where
  pub domain : SharedDomain
  pub is_domain : domain_numbered shared d ≡ Some domain
  pub live : domain.live ≡ true
  pub stubs : AreKnownStubs classes shared.stubs
  pub remote : (c : ClassId) (r : ClassRecord) → record_of classes c ≡ Some r → r.home ≢ None → ImplementsRemote classes c
      → (s : Stub) × (stub_for shared c ≡ Some s)
  pub capabilities : (k : CapId) → IsGivenOut (caps_of shared) k → ((s : Stub) × (stub_of shared k ≡ Some s)) × (k.0 < 2 ^ 24)

-- ---- What is known of the domain, whatever runs in it.

pub record KnowsDomain (c : Contents) (here : Here) : Type 0 where
  pub names : DomainRecord
  pub is_domain : domain_of here.world here.domain ≡ Some names
  pub quota : ℕ
  pub has_quota : c.heaps.quota here.domain ≡ Some quota
  pub codes : AreSoundCodes here.world.classes
  pub table : IsSoundTable here.world.classes names.table
  pub shares : SharesWell here.world.classes here.shared here.domain
  -- each text of the domain's classes has room among the literals
  pub rooms : HasRooms here.world.classes names.table c.own
  -- the store counts what the objects cost
  pub used : c.heaps.used here.domain ≡ heap_words here.world.classes (c.heaps.heap here.domain)

-- what the domain is judged in
abbrev pub around : {c : Contents} {here : Here} → KnowsDomain c here → Surroundings
around {here = here} k = record { classes = here.world.classes; table = k.names.table; caps = caps_of here.shared }

-- What the domain has inside may change.
pub record MayChange (c : Contents) (here : Here) : Type 0 where
  pub domain : KnowsDomain c here
  pub sealed : IsSealedInside (around domain) domain.quota (inside_in c here)

-- ---- An instruction may be done: the segment's top frame, which has no need, stands at it.

pub record MayDo (c : Contents) (here : Here) (at : PlaceInCode) : Type 0 where
  pub domain : KnowsDomain c here
  pub run : Run
  pub holds : Holds c here run
  pub sealed : IsSealedRun (around domain) domain.quota (FitsAsTop here.world.classes run.inside.heap) run
  pub callers : List FrameState
  pub frame : FrameState
  pub are_frames : run.frames ≡ callers ++ frame ∷ []
  pub head : at.head ≡ frame.head
  pub no_need : at.head.need ≡ None
  pub place : IsPlaceIn here.world.classes at

-- what the instruction works on
abbrev pub working : {c : Contents} {here : Here} {at : PlaceInCode} → MayDo c here at → Working
working may = record { inside = may.run.inside; frame = may.frame }

-- ---- Something may be raised. The top frame runs, or has called a segment that was taken away; or no frame is left.

pub record MayRaise (c : Contents) (here : Here) : Type 0 where
  pub domain : KnowsDomain c here
  pub run : Run
  pub holds : Holds c here run
  pub sealed : IsSealedRun (around domain) domain.quota (MayMeetRaise here.world.classes run.inside.heap) run
  pub states : KeepsStates run.inside.own run.frames
