-- What is known of a code before the verifier goes over it.
use Rattle.std.specs.Prelude.{◌^◌, ◌<◌, List, length, Option}
use Rattle.jk_model_typing.specs.declared.frames.FrameType.{FrameType}
use Rattle.jk_model_typing.specs.Scopes.{CodeScope}
use Rattle.touched_locals.specs.TypingsIn.{IsTypingIn}
use Rattle.type_rows.specs.CodeViews.{scope_of}
use Rattle.handler_cover.specs.Covering.{IsCoverTree}
use Rattle.type_verifier.specs.declared.tasks.Task.{Task}
use Rattle.type_verifier.specs.Leaders.{AreLeaders}

abbrev pub scope_in : Task → CodeScope
scope_in task = scope_of task.view

pub record IsTask (task : Task) : Type 0 where
  pub leaders : AreLeaders (scope_in task).code task.leads.items
  pub tree : IsCoverTree (length (scope_in task).code.instrs) (scope_in task).code.handlers task.tree
  pub short : length (scope_in task).code.instrs < 2 ^ 32

-- the frames are a typing of the task's code
abbrev pub TypesTask : Task → List (Option FrameType) → Type 0
TypesTask task frames = IsTypingIn (scope_in task) frames

abbrev pub HasNoTyping : Task → Type 0
HasNoTyping task = (frames : List (Option FrameType)) → TypesTask task frames → ⊥
