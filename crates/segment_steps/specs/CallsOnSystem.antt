-- Which method of the system a top frame calls.
use Rattle.std.specs.Prelude.{◌≡◌}
use Rattle.jk_model.specs.declared.identifiers.MemberId.{MemberId}
use Rattle.jk_model_call_rows.specs.CallRows.{CallsSystem}
use Rattle.jk_model_heaps.specs.Workings.{Setting}
use Rattle.step_contents.specs.Conditions.{MayDo, working}
use Rattle.step_contents.specs.Contents.{Contents, Here}
use Rattle.step_contents.specs.PlacesInCode.{PlaceInCode}
use Rattle.step_contents.specs.Settings.{IsSetting}

-- the instruction there calls this one
abbrev pub CallsMethod : Contents → Here → PlaceInCode → MemberId → Type 0
CallsMethod old here at m =
    (x : Setting) (may : MayDo old here at) → IsSetting old here x
    → (call : CallsSystem x at.scope at.instr (working may)) × (call.member ≡ m)
