-- What an instruction of call comes to in its segment, where a method of the system is left to be done.
use Rattle.std.specs.Prelude.{◌≡◌}
use Rattle.jk_model.specs.declared.identifiers.MemberId.{MemberId}
use Rattle.jk_model.specs.declared.identifiers.ThreadNo.{ThreadNo}
use Rattle.step_contents.specs.Contents.{Contents, Here, KeepsFrames}
use Rattle.step_contents.specs.PlacesInCode.{PlaceInCode}
use Rattle.segment_steps.specs.CallsOnSystem.{CallsMethod}
use Rattle.segment_steps.specs.StepsAlone.{Steps}
use Rattle.segment_steps.specs.declared.instructions.Called.{Called}
use Rattle.segment_steps.specs.declared.instructions.Called.TheVariants as Comes

-- The instruction calls this method of the system, and nothing changed yet.
pub record LeavesToSystem (old new : Contents) (here : Here) (at : PlaceInCode) (m : MemberId) : Type 0 where
  pub heaps : new.heaps ≡ old.heaps
  pub frames : KeepsFrames old new
  pub own : new.own ≡ old.own
  pub calls : CallsMethod old here at m

abbrev pub ComesTo : Contents → Contents → Here → PlaceInCode → ThreadNo → Called → Type 0
ComesTo old new here at t (Comes.Went went) = Steps old new here t went
ComesTo old new here at t (Comes.OfSystem m) = LeavesToSystem old new here at m
