-- Where a frame with a head stands.
use Rattle.std.specs.Prelude.{◌≡◌, List, Option, Some, None}
use Rattle.jk_model.specs.declared.frames.FrameHead.{FrameHead}
use Rattle.jk_model_classes.specs.declared.records.ClassRecord.{ClassRecord}
use Rattle.type_rows.specs.CodeViews.{scope_of}
use Rattle.step_contents.specs.PlacesInCode.{IsPlaceIn, PlaceInCode}
use Rattle.step_contents.specs.declared.places.StandsAt.{StandsAt}

-- the place at which code with references stands
abbrev pub place_of : StandsAt → PlaceInCode
place_of at = record { head = at.head; scope = scope_of at.code; instr = at.instr.now }

-- A frame with this head stands there; it stands nowhere where it has no code.
abbrev pub IsPlaceOf : List ClassRecord → FrameHead → Option PlaceInCode → Type 0
IsPlaceOf classes head None = (at : PlaceInCode) → at.head ≡ head → IsPlaceIn classes at → ⊥
IsPlaceOf classes head (Some at) = (at.head ≡ head) × IsPlaceIn classes at
