-- A code whose leaders' frames are all settled.
use Rattle.std.specs.Prelude.{◌≡◌, []}
use Rattle.jk_model_typing.specs.declared.frames.FrameType.{FrameType}
use Rattle.jk_model_typing.specs.Scopes.{CodeScope}
use Rattle.jk_model_typing.specs.Typing.{FitsAt, IsStart}
use Rattle.type_verifier.specs.declared.verifying.SettledCode.{SettledCode}
use Rattle.type_verifier.specs.Progress.{AreFrames}
use Rattle.type_verifier.specs.Settling.{AreSettled}
use Rattle.type_verifier.specs.Tasks.{IsTask, scope_in}

-- it is the code of this scope, and what the verifier was after is done
pub record IsSettledIn (s : CodeScope) (c : SettledCode) : Type 0 where
  pub scope : scope_in c.task ≡ s
  pub task : IsTask c.task
  pub frames : AreFrames c.task c.frames.items
  pub settled : AreSettled (scope_in c.task) c.task.leads.items c.frames.items []
  pub start : (f : FrameType) × IsStart (scope_in c.task) f × FitsAt (scope_in c.task) c.frames.items 0 f
