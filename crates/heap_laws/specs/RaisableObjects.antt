-- What may be raised in a domain, and where.
use Rattle.std.specs.Prelude.{◌≡◌, ◌⊎◌, ℕ, ◌<◌, ⊤, List, length, Contains, Some}
use Rattle.jk_model.specs.declared.identifiers.ClassId.{ClassId}
use Rattle.jk_model.specs.declared.steps.Raise.{Raise}
use Rattle.jk_model.specs.declared.steps.Raise.TheVariants as Raised
use Rattle.jk_model.specs.declared.values.Value.{Value}
use Rattle.jk_model.specs.SystemTable.{system_classes}
use Rattle.jk_model_classes.specs.declared.records.ClassRecord.{ClassRecord}
use Rattle.jk_model_classes.specs.Classes.{IsSubclass}
use Rattle.jk_model_typing.specs.FrameTypes.{THROWABLE}
use Rattle.jk_model_frames.specs.Frames.{FrameState}
use Rattle.jk_model_domains.specs.Objects.{NamedObject, Plain, object_named}
use Rattle.jk_model_domains.specs.OwnStates.{HasState, OwnState}
use Rattle.jk_model_sealing.specs.FittingFrames.{FitsAsTop, FitsAtCall}

-- the object of this name is a throwable of the heap
abbrev pub IsThrowable : List ClassRecord → List NamedObject → ℕ → Type 0
IsThrowable classes heap a =
    (c : ClassId) × (fields : List Value) × (object_named heap a ≡ Some (Plain c fields)) × IsSubclass classes c THROWABLE

-- a throwable of the heap, one that stands there from the opening on, or a new one of a system class
abbrev pub MayBeRaised : List ClassRecord → List NamedObject → Raise → Type 0
MayBeRaised classes heap (Raised.Object a) = IsThrowable classes heap a
MayBeRaised classes heap (Raised.Standing s) = ⊤
MayBeRaised classes heap (Raised.Fresh c) = (c.0 < length system_classes) × IsSubclass classes c THROWABLE

-- the domain keeps a state of each class that one of the frames initialises
abbrev pub KeepsStates : OwnState → List FrameState → Type 0
KeepsStates own frames = (f : FrameState) (c : ClassId) → Contains frames f → f.head.initialises ≡ Some c → HasState own c

-- the top frame of a segment in which something is raised runs, or has called a segment that was taken away
abbrev pub MayMeetRaise : List ClassRecord → List NamedObject → FrameState → Type 0
MayMeetRaise classes heap f = FitsAsTop classes heap f ⊎ FitsAtCall classes heap f
