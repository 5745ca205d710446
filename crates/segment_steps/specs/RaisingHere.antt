-- Something is raised in a segment.
use Rattle.std.specs.Prelude.{◌≡◌}
use Rattle.jk_model.specs.declared.steps.Raise.{Raise}
use Rattle.jk_model_heaps.specs.declared.shapes.Unwound.{Unwound}
use Rattle.jk_model_heaps.specs.declared.shapes.Unwound.TheVariants.{Caught, Uncaught}
use Rattle.jk_model_heaps.specs.Workings.{Run, Setting}
use Rattle.jk_model_running.specs.Raising.{RaisesIn}
use Rattle.step_contents.specs.Conditions.{MayRaise}
use Rattle.step_contents.specs.Contents.{Becomes, Contents, Here}
use Rattle.step_contents.specs.Settings.{IsSetting}
use Rattle.segment_steps.specs.declared.went.Went.{Went}
use Rattle.segment_steps.specs.declared.went.Went.TheVariants as Goes

abbrev pub went_of : Unwound → Went
went_of Caught = Goes.GoesOn
went_of (Uncaught a) = Goes.Left a

-- It was raised, and caught by a frame, or left them all.
abbrev pub RaisedHere : Contents → Contents → Here → Raise → Went → Type 0
RaisedHere old new here raise went =
    (x : Setting) (may : MayRaise old here) → IsSetting old here x
    → (run : Run) × (unwound : Unwound) × RaisesIn x may.run raise run unwound × (went ≡ went_of unwound)
    × Becomes old new here may.run run
