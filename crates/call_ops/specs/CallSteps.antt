-- What an instruction of call makes of the store of frames, and what the step function answers.
use Rattle.std.specs.Prelude.{◌≡◌, [], ◌∷◌, ◌++◌}
use Rattle.jk_model.specs.declared.identifiers.CapId.{CapId}
use Rattle.jk_model.specs.declared.identifiers.MemberId.{MemberId}
use Rattle.jk_model.specs.declared.steps.After.{After}
use Rattle.jk_model.specs.declared.steps.After.TheVariants as Next
use Rattle.jk_model.specs.declared.steps.Raise.{Raise}
use Rattle.jk_model_frames.specs.Frames.{FrameState}
use Rattle.jk_model_heaps.specs.Workings.{Setting, Working, Calls, Crosses, Raises}
use Rattle.jk_model_call_rows.specs.CallRows.{CallRow, CallsSystem}
use Rattle.step_contents.specs.Conditions.{MayDo, working}
use Rattle.step_contents.specs.Contents.{Becomes, Contents, Here, KeepsFrames}
use Rattle.step_contents.specs.PlacesInCode.{PlaceInCode}
use Rattle.step_contents.specs.Settings.{IsSetting}

-- What the call comes to, by the answer.
pub data CallFollows {old : Contents} {here : Here} {at : PlaceInCode} (x : Setting) (may : MayDo old here at) (new : Contents)
    : After → Type 0 where
  -- the receiver and the arguments are off the caller's stack, and the called frame is on top, at its first place
  calls : (w : Working) (called : FrameState) → CallRow x at.scope at.instr (working may) w (Calls called)
      → Becomes old new here may.run (record { inside = w.inside; frames = may.callers ++ w.frame ∷ called ∷ [] })
      → CallFollows x may new (Next.Goto 0)
  -- this method of the system is to be done; nothing changed yet
  calls_system : (m : MemberId) (call : CallsSystem x at.scope at.instr (working may)) → call.member ≡ m → KeepsFrames old new
      → CallFollows x may new (Next.Call m)
  -- this capability is to be called; nothing changed yet
  crosses : (k : CapId) (m : MemberId) → CallRow x at.scope at.instr (working may) (working may) (Crosses k m) → KeepsFrames old new
      → CallFollows x may new (Next.Crossing k m)
  raises : (r : Raise) → CallRow x at.scope at.instr (working may) (working may) (Raises r) → KeepsFrames old new
      → CallFollows x may new (Next.Raise r)

abbrev pub CallDone : Contents → Contents → Here → PlaceInCode → After → Type 0
CallDone old new here at after = (x : Setting) (may : MayDo old here at) → IsSetting old here x → CallFollows x may new after
