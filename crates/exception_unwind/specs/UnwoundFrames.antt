-- What becomes of a segment in which an object is raised.
use Rattle.std.specs.Prelude.{ℕ}
use Rattle.jk_model_heaps.specs.declared.shapes.Unwound.{Unwound}
use Rattle.jk_model_heaps.specs.Workings.{Run, Setting}
use Rattle.jk_model_unwinding.specs.Unwinding.{Unwinds}
use Rattle.step_contents.specs.Conditions.{MayRaise}
use Rattle.step_contents.specs.Contents.{Becomes, Contents, Here}
use Rattle.step_contents.specs.Settings.{IsSetting}

-- The object was caught by a frame, which stands at its handler then, or left them all.
abbrev pub IsUnwound : Contents → Contents → Here → ℕ → Unwound → Type 0
IsUnwound old new here a unwound =
    (x : Setting) (may : MayRaise old here) → IsSetting old here x
    → (run : Run) × Unwinds x may.run a unwound run × Becomes old new here may.run run
