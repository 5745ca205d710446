-- What is known of capabilities, read from stubs.
use Rattle.std.specs.Prelude.{◌≡◌, ◌↔◌, List, Contains, Some, None}
use Rattle.jk_model.specs.declared.identifiers.CapId.{CapId}
use Rattle.jk_model.specs.declared.values.Value.{Value}
use Rattle.jk_model_classes.specs.declared.records.ClassRecord.{ClassRecord}
use Rattle.jk_model_classes.specs.declared.records.TypeRef.{TypeRef}
use Rattle.jk_model_classes.specs.declared.sharing.Stub.{Stub}
use Rattle.jk_model_classes.specs.Classes.{record_of}
use Rattle.jk_model_domains.specs.Objects.{NamedObject}
use Rattle.jk_model_heaps.specs.Capabilities.{IsGivenOut, KnownCapabilities}
use Rattle.jk_model_heaps.specs.Instances.{IsInstance}
use Rattle.jk_model_sharing.specs.KnownStubs.{AreKnownStubs}
use Rattle.jk_model_sharing.specs.SharedStates.{SharedState, caps_of, stub_of}

-- all capabilities, where the stubs stand in for classes that aren't there
abbrev pub known_capabilities : SharedState → KnownCapabilities
known_capabilities s = record { ranges = caps_of s; stand_ins = s.stubs }

-- The stubs are right of these classes, and each capability that was given out has one.
pub record KnowsStubs (s : SharedState) (classes : List ClassRecord) : Type 0 where
  pub stubs : AreKnownStubs classes s.stubs
  pub each : (k : CapId) → IsGivenOut (caps_of s) k → (stub : Stub) × (stub_of s k ≡ Some stub)

-- What knows the ranges of all domains, and as stand-ins the stubs of classes that aren't there, among others at most, has the instances
-- that the stubs tell.
abbrev pub HaveSameInstances : Type 0
HaveSameInstances =
    (classes : List ClassRecord) (s : SharedState) (caps : KnownCapabilities) → caps.ranges ≡ caps_of s
    → ((stub : Stub) → record_of classes stub.class ≡ None → Contains s.stubs stub ↔ Contains caps.stand_ins stub)
    → (heap : List NamedObject) (v : Value) (t : TypeRef) → IsInstance classes (known_capabilities s) heap v t ↔ IsInstance classes caps heap v t
