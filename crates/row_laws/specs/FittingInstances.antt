-- An instance of a type, by the real hierarchy, fits the type as typing reads it, where interfaces are java/lang/Object. This is what makes
-- casts, stores into arrays, catches and copies of arrays safe.
use Rattle.std.specs.Prelude.{List}
use Rattle.jk_model.specs.declared.identifiers.CapId.{CapId}
use Rattle.jk_model.specs.declared.identifiers.ClassId.{ClassId}
use Rattle.jk_model.specs.declared.values.Value.{Value}
use Rattle.jk_model_classes.specs.declared.records.ClassRecord.{ClassRecord}
use Rattle.jk_model_classes.specs.declared.records.TypeRef.{TypeRef}
use Rattle.jk_model_classes.specs.Classes.{HasClass, IsSubclass, OBJECT}
use Rattle.jk_model_typing.specs.FrameTypes.{RefFits, erased}
use Rattle.jk_model_domains.specs.Objects.{NamedObject, CAPABILITY, class_type}
use Rattle.jk_model_domains.specs.ValueTypes.{HoldsDeclared}
use Rattle.jk_model_heaps.specs.Capabilities.{CapabilityIsA}
use Rattle.jk_model_heaps.specs.Instances.{IsA, IsInstance}
use Rattle.jk_model_heaps.specs.Workings.{Setting}
use Rattle.jk_model_sealing.specs.SealedInsides.{Surroundings}
use Rattle.decided_lookups.specs.Decisions.{IsDecided}
use Rattle.heap_laws.specs.RunningFrames.{IsKnownSetting}
use Rattle.heap_laws.specs.SoundCodes.{AreSoundCodes}

-- ---- Types.

abbrev pub AllAreBelowObject : Type 0
AllAreBelowObject = (classes : List ClassRecord) (c : ClassId) → AreSoundCodes classes → HasClass classes c → IsSubclass classes c OBJECT

abbrev pub InstancesFit : Type 0
InstancesFit = (classes : List ClassRecord) (a b : TypeRef) → AreSoundCodes classes → IsA classes a b → RefFits classes a (erased classes b)

abbrev pub CapabilitiesFit : Type 0
CapabilitiesFit =
    (around : Surroundings) (x : Setting) (k : CapId) (t : TypeRef) → IsKnownSetting around x → CapabilityIsA x.classes x.caps k t
    → RefFits x.classes (class_type CAPABILITY) (erased x.classes t)

-- ---- Values.

abbrev pub InstancesAreHeld : Type 0
InstancesAreHeld =
    (around : Surroundings) (x : Setting) (heap : List NamedObject) (v : Value) (t : TypeRef) → IsKnownSetting around x
    → IsInstance x.classes x.caps heap v t → HoldsDeclared x.classes heap v t

-- a value is an instance of a type, or it isn't
abbrev pub InstancesAreDecided : Type 0
InstancesAreDecided =
    (around : Surroundings) (x : Setting) (heap : List NamedObject) (v : Value) (t : TypeRef) → IsKnownSetting around x
    → IsDecided (IsInstance x.classes x.caps heap v t)
