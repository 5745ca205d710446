-- What fits in a heap, or is known there, fits in one that has grown, and is known there.
use Rattle.std.specs.Prelude.{List, ℕ}
use Rattle.jk_model.specs.declared.identifiers.ClassId.{ClassId}
use Rattle.jk_model.specs.declared.values.Value.{Value}
use Rattle.jk_model_classes.specs.declared.records.ClassRecord.{ClassRecord}
use Rattle.jk_model_classes.specs.declared.records.TypeRef.{TypeRef}
use Rattle.jk_model_typing.specs.declared.frames.FrameType.{FrameType}
use Rattle.jk_model_typing.specs.declared.frames.VType.{VType}
use Rattle.jk_model_typing.specs.Scopes.{CodeScope}
use Rattle.jk_model_frames.specs.Frames.{FrameState}
use Rattle.jk_model_domains.specs.Objects.{NamedObject, Object}
use Rattle.jk_model_domains.specs.ValueTypes.{EachValueFits, FrameHolds, HoldsDeclared, ValueFits}
use Rattle.jk_model_heaps.specs.Capabilities.{CapRange}
use Rattle.jk_model_heaps.specs.Heaps.{IsGrown}
use Rattle.jk_model_sealing.specs.FittingFrames.{FitsAsTop, FitsAtCall, FitsHere, FramesFit}
use Rattle.jk_model_sealing.specs.SealedInsides.{IsKnownValue, IsOfClass, IsSealedObject, Surroundings}
use Rattle.jk_model_sealing.specs.SealedRuns.{AreSealedFrames, NamesKnown}
use Rattle.heap_laws.specs.RaisableObjects.{IsThrowable}

-- what is said of a heap is so of each heap to which it grows
abbrev pub StaysIn : (List NamedObject → Type 0) → Type 0
StaysIn P = (old new : List NamedObject) → IsGrown old new → P old → P new

-- ---- Values.

abbrev pub ValuesFitStill : Type 0
ValuesFitStill = (s : CodeScope) (v : Value) (t : VType) → StaysIn (λ heap. ValueFits s heap v t)

abbrev pub ManyValuesFitStill : Type 0
ManyValuesFitStill = (s : CodeScope) (values : List Value) (types : List VType) → StaysIn (λ heap. EachValueFits s heap values types)

abbrev pub FramesHoldStill : Type 0
FramesHoldStill = (s : CodeScope) (f : FrameState) (t : FrameType) → StaysIn (λ heap. FrameHolds s heap f t)

abbrev pub DeclaredIsHeldStill : Type 0
DeclaredIsHeldStill = (classes : List ClassRecord) (v : Value) (t : TypeRef) → StaysIn (λ heap. HoldsDeclared classes heap v t)

abbrev pub ValuesAreKnownStill : Type 0
ValuesAreKnownStill = (caps : List CapRange) (v : Value) → StaysIn (λ heap. IsKnownValue caps heap v)

-- ---- Objects.

abbrev pub ObjectsAreSealedStill : Type 0
ObjectsAreSealedStill = (around : Surroundings) (object : Object) → StaysIn (λ heap. IsSealedObject around heap object)

abbrev pub ObjectsKeepTheirClass : Type 0
ObjectsKeepTheirClass = (a : ℕ) (c : ClassId) → StaysIn (λ heap. IsOfClass heap a c)

abbrev pub ThrowablesStay : Type 0
ThrowablesStay = (classes : List ClassRecord) (a : ℕ) → StaysIn (λ heap. IsThrowable classes heap a)

-- ---- Frames.

abbrev pub FramesFitHereStill : Type 0
FramesFitHereStill = (classes : List ClassRecord) (f : FrameState) → StaysIn (λ heap. FitsHere classes heap f)

abbrev pub TopFramesFitStill : Type 0
TopFramesFitStill = (classes : List ClassRecord) (f : FrameState) → StaysIn (λ heap. FitsAsTop classes heap f)

abbrev pub CallersFitStill : Type 0
CallersFitStill = (classes : List ClassRecord) (f : FrameState) → StaysIn (λ heap. FitsAtCall classes heap f)

abbrev pub FramesKnowStill : Type 0
FramesKnowStill = (caps : List CapRange) (f : FrameState) → StaysIn (λ heap. NamesKnown caps heap f)

-- All frames of a segment, whose top frame fits as this says. What runs, what has called, and what may be unwound stays so.
abbrev pub RowsOfFramesFitStill : (List ClassRecord → List NamedObject → FrameState → Type 0) → Type 0
RowsOfFramesFitStill Top =
    (classes : List ClassRecord) (frames : List FrameState) → StaysIn (λ heap. FramesFit (Top classes heap) classes heap frames)

abbrev pub SealedFramesStay : (List ClassRecord → List NamedObject → FrameState → Type 0) → Type 0
SealedFramesStay Top =
    (around : Surroundings) (frames : List FrameState) → StaysIn (λ heap. AreSealedFrames around (Top around.classes heap) heap frames)
