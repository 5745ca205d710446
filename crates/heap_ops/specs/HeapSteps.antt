-- What an instruction on objects, arrays, static fields and literals makes of the stores, and what the step function answers.
use Rattle.std.specs.Prelude.{◌+◌, Result, Ok, Err}
use Rattle.jk_model.specs.declared.steps.After.{After}
use Rattle.jk_model.specs.declared.steps.After.TheVariants as Next
use Rattle.jk_model.specs.declared.steps.Raise.{Raise}
use Rattle.jk_model_heaps.specs.Workings.{Outcome, Setting, Working}
use Rattle.jk_model_heap_rows.specs.HeapRows.{HeapRow}
use Rattle.step_contents.specs.AnsweredSteps.{IsAnswered}
use Rattle.step_contents.specs.Conditions.{MayDo, working}
use Rattle.step_contents.specs.Contents.{Becomes, Contents, Here, with_frame}
use Rattle.step_contents.specs.PlacesInCode.{PlaceInCode}
use Rattle.step_contents.specs.Settings.{IsSetting}

-- A row of the instruction leads from what the stores held to what they hold, and the answer is `Goto` of the next place, where the frame
-- still stands at its own, or `Raise`, where nothing changed.
abbrev pub HeapDone : Contents → Contents → Here → PlaceInCode → After → Type 0
HeapDone old new here at after =
    (x : Setting) (may : MayDo old here at) → IsSetting old here x
    → (w : Working) × (outcome : Outcome) × HeapRow x at.scope at.instr (working may) w outcome × IsAnswered after outcome
    × Becomes old new here may.run (with_frame may.callers w.frame w.inside)

-- what is done next after an access: the frame goes on behind it, or this is raised
abbrev pub after_access : PlaceInCode → Result (Unit {0}) Raise → After
after_access at (Ok done) = Next.Goto (at.head.at + 1)
after_access at (Err raise) = Next.Raise raise
