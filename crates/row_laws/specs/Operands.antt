-- What an instruction finds in a frame that fits, and that what it leaves fits too, in a heap that may have grown.
use Rattle.std.specs.Prelude.{◌≡◌, ◌⊎◌, ℤ, ℕ, List, [], ◌∷◌, ⊤}
use Rattle.jk_model.specs.declared.identifiers.ClassId.{ClassId}
use Rattle.jk_model.specs.declared.instructions.Instr.{Instr}
use Rattle.jk_model.specs.declared.values.Value.{Value}
use Rattle.jk_model.specs.declared.values.Value.TheVariants as Held
use Rattle.jk_model_typing.specs.declared.frames.Demand.{Demand}
use Rattle.jk_model_typing.specs.declared.frames.FrameType.{FrameType}
use Rattle.jk_model_typing.specs.declared.frames.VType.{VType}
use Rattle.jk_model_typing.specs.Groups.{LoadsElement, Makes, Takes}
use Rattle.jk_model_typing.specs.Rows.{MakesAt, Meets}
use Rattle.jk_model_typing.specs.Scopes.{CodeScope}
use Rattle.jk_model_frames.specs.Frames.{FrameState}
use Rattle.jk_model_domains.specs.NumberRows.{IsOnTop, Replaces}
use Rattle.jk_model_domains.specs.Objects.{NamedObject}
use Rattle.jk_model_domains.specs.ValueTypes.{EachValueFits, FrameHolds, HoldsDeclared, ValueFits}
use Rattle.jk_model_heaps.specs.Heaps.{IsGrown}
use Rattle.jk_model_heaps.specs.References.{IsHeapArray}
use Rattle.jk_model_sealing.specs.SealedInsides.{IsOfClass}
use Rattle.erased_typings.specs.ErasedFrames.{IsErasedFrame}
use Rattle.number_laws.specs.FrameLaws.{IsTyped}
use Rattle.heap_laws.specs.SoundCodes.{AreSoundCodes}

-- ---- Demands.

-- the value fits a type that meets the demand
abbrev pub ValueMeets : CodeScope → List NamedObject → Demand → Value → Type 0
ValueMeets s heap d v = (t : VType) × Meets s d t × ValueFits s heap v t

-- as many, each of which meets the demand at its place
abbrev pub ValuesMeet : CodeScope → List NamedObject → List Demand → List Value → Type 0
ValuesMeet s heap [] [] = ⊤
ValuesMeet s heap (d ∷ demands) (v ∷ values) = ValueMeets s heap d v × ValuesMeet s heap demands values
ValuesMeet s heap demands values = ⊥

-- ---- Instructions that take entries and push others.

abbrev pub TakenMeet : Type 0
TakenMeet =
    (s : CodeScope) (heap : List NamedObject) (place : ℕ) (i : Instr) (f : FrameState) (before after : FrameType) (demands : List Demand)
    (gives : List VType) → (typed : IsTyped s heap place i f before after) → typed.row.shape ≡ Takes demands gives
    → (taken : List Value) × IsOnTop f taken × ValuesMeet s heap demands taken

-- whatever fits the types that the instruction gives may take their place
abbrev pub PushedFit : Type 0
PushedFit =
    (s : CodeScope) (heap new : List NamedObject) (place : ℕ) (i : Instr) (f g : FrameState) (before after : FrameType)
    (demands : List Demand) (gives : List VType) (taken pushed : List Value) → (typed : IsTyped s heap place i f before after)
    → typed.row.shape ≡ Takes demands gives → ValuesMeet s heap demands taken → Replaces f g taken pushed → IsGrown heap new
    → EachValueFits s new pushed gives → FrameHolds s new g after

-- ---- aaload.

-- an array, or null, and an index are on top; each item of the array may take their place, where typing has read interfaces as
-- java/lang/Object
abbrev pub ElementsAreFound : Type 0
ElementsAreFound =
    (s : CodeScope) (heap : List NamedObject) (place : ℕ) (i : Instr) (f : FrameState) (before after : FrameType)
    → AreSoundCodes s.classes → (typed : IsTyped s heap place i f before after) → typed.row.shape ≡ LoadsElement
    → (array : Value) × (index : ℤ) × IsOnTop f (array ∷ Held.Int index ∷ []) × ((array ≡ Held.Null) ⊎ IsHeapArray heap array)

abbrev pub ElementsFit : Type 0
ElementsFit =
    (s : CodeScope) (heap : List NamedObject) (place : ℕ) (i : Instr) (f g : FrameState) (before after : FrameType) (array item : Value)
    (index : ℤ) → AreSoundCodes s.classes → IsErasedFrame s.classes before → (typed : IsTyped s heap place i f before after)
    → typed.row.shape ≡ LoadsElement → (a : IsHeapArray heap array) → HoldsDeclared s.classes heap item a.element
    → Replaces f g (array ∷ Held.Int index ∷ []) (item ∷ []) → FrameHolds s heap g after

-- ---- new.

abbrev pub NewObjectsFit : Type 0
NewObjectsFit =
    (s : CodeScope) (heap new : List NamedObject) (place : ℕ) (i : Instr) (f g : FrameState) (before after : FrameType) (c : ClassId)
    (a : ℕ) → (typed : IsTyped s heap place i f before after) → typed.row.shape ≡ Makes → MakesAt s place c → IsGrown heap new
    → IsOfClass new a c → Replaces f g [] (Held.Obj a ∷ []) → FrameHolds s new g after
