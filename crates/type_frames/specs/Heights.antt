-- How often a type may still rise: a join that isn't its first part is less high, so that a frame rises only so often. Numbers
-- beyond those that a class or an array has count as the greatest.
use Rattle.std.specs.Prelude.{ℕ, ◌+◌, ◌*◌, Bool, List, length, min, sum_by, Option, Some, None, if◌then◌else◌}
use Rattle.jk_model_classes.specs.declared.records.BaseRef.{BaseRef}
use Rattle.jk_model_classes.specs.declared.records.BaseRef.TheVariants as Base
use Rattle.jk_model_classes.specs.declared.records.ClassRecord.{ClassRecord}
use Rattle.jk_model_classes.specs.declared.records.LinkedCode.{LinkedCode}
use Rattle.jk_model_classes.specs.Classes.{superclasses}
use Rattle.jk_model_typing.specs.declared.frames.VType.{VType}
use Rattle.jk_model_typing.specs.declared.frames.VType.TheVariants.{Unusable, Ref}
use Rattle.jk_model_typing.specs.declared.frames.FrameType.{FrameType}

abbrev pub base_height : List ClassRecord → BaseRef → ℕ
base_height classes (Base.Class c) = min (length (superclasses classes c)) (length classes + 1)
base_height classes _ = 1

-- no type is higher than this
abbrev pub most_height : List ClassRecord → ℕ
most_height classes = length classes + 260

-- nothing is above `Unusable`; above an array are those of as many dimensions and of classes above, and those of fewer
-- dimensions
abbrev pub height : List ClassRecord → VType → ℕ
height classes Unusable = 0
height classes (Ref t) = base_height classes t.base + min t.dims 256 + 1
height classes _ = most_height classes

abbrev pub heights : List ClassRecord → List VType → ℕ
heights classes vs = sum_by (height classes) vs

-- a flag rises once
abbrev pub flag_height : Bool → ℕ
flag_height fresh = if fresh then 0 else 1

abbrev pub frame_height : List ClassRecord → FrameType → ℕ
frame_height classes f = heights classes f.locals + heights classes f.stack + flag_height f.fresh

-- of a frame of this code, or of none yet, which is higher than each frame
abbrev pub place_height : List ClassRecord → LinkedCode → Option FrameType → ℕ
place_height classes code None = (code.max_locals + code.max_stack) * most_height classes + 2
place_height classes code (Some f) = frame_height classes f
