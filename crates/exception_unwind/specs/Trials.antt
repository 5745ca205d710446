-- Whether frames catch an object, by the places where they stand.
use Rattle.std.specs.Prelude.{◌≡◌, ℕ, ◌⊎◌, ◌&&◌, List, None, is_some, not, if◌then◌else◌}
use Rattle.jk_model.specs.declared.frames.FrameHead.{FrameHead}
use Rattle.jk_model_classes.specs.declared.records.Caught.{Caught}
use Rattle.jk_model_classes.specs.declared.records.ClassRecord.{ClassRecord}
use Rattle.jk_model_frames.specs.Frames.{FrameState}
use Rattle.jk_model_domains.specs.Objects.{NamedObject}
use Rattle.jk_model_heaps.specs.RunningCode.{RunsCode}
use Rattle.jk_model_heaps.specs.Workings.{Setting}
use Rattle.jk_model_unwinding.specs.Unwinding.{Catches, CatchesNot}
use Rattle.exception_unwind.specs.declared.catching.CodePlace.{CodePlace}

abbrev pub place_of : FrameHead → CodePlace
place_of head = record { method = head.method; at = head.at }

-- no frame that stands there catches the object
abbrev pub IsTried : List ClassRecord → List NamedObject → CodePlace → ℕ → Type 0
IsTried classes heap place a =
    (x : Setting) (f : FrameState) → x.classes ≡ classes → place_of f.head ≡ place → CatchesNot x heap f a

-- a frame with this head doesn't
abbrev pub CatchesNowhere : List ClassRecord → List NamedObject → FrameHead → ℕ → Type 0
CatchesNowhere classes heap head a = (x : Setting) (f : FrameState) → x.classes ≡ classes → f.head ≡ head → CatchesNot x heap f a

-- it has no method, or stands at an instruction of its code
abbrev pub HasPlace : List ClassRecord → FrameState → Type 0
HasPlace classes f = (f.head.method ≡ None) ⊎ RunsCode classes f

-- by a handler that begins at this place
abbrev pub CatchesAt : Setting → List NamedObject → FrameState → ℕ → ℕ → Type 0
CatchesAt x heap f a begins = (h : Caught) × Catches x heap f a h × (h.handler ≡ begins)

-- a frame without a need that stands there catches it
abbrev pub IsCaughtThere : List ClassRecord → List NamedObject → CodePlace → ℕ → ℕ → Type 0
IsCaughtThere classes heap place a begins =
    (x : Setting) (f : FrameState) → x.classes ≡ classes → place_of f.head ≡ place → f.head.need ≡ None → HasPlace x.classes f
    → CatchesAt x heap f a begins

-- a frame with this head does
abbrev pub IsCaughtBy : List ClassRecord → List NamedObject → FrameHead → ℕ → ℕ → Type 0
IsCaughtBy classes heap head a begins =
    (x : Setting) (f : FrameState) → x.classes ≡ classes → f.head ≡ head → HasPlace x.classes f
    → (f.head.need ≡ None) × CatchesAt x heap f a begins

-- where the object that goes on was tried, once a frame with this head didn't catch it: where the frame stands, or nowhere where the frame
-- has a need or initialises a class
abbrev pub place_afterwards : FrameHead → CodePlace
place_afterwards head = if not (is_some head.need) && not (is_some head.initialises) then place_of head else record { method = None; at = 0 }
