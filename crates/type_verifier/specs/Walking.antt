-- The walk from a leader over the instructions up to the next one.
use Rattle.std.specs.Prelude.{◌≡◌, ℕ, ◌+◌, ◌-◌, ◌<◌, ◌↔◌, ℤ, pos, List, length, Contains, Option}
use Rattle.jk_model.specs.declared.instructions.Instr.{Instr}
use Rattle.jk_model_classes.specs.declared.records.Caught.{Caught}
use Rattle.jk_model_classes.specs.Classes.{AreOrdered}
use Rattle.jk_model_typing.specs.declared.frames.FrameType.{FrameType}
use Rattle.jk_model_typing.specs.FrameTypes.{IsFrameOf}
use Rattle.jk_model_typing.specs.Scopes.{CodeScope}
use Rattle.jk_model_typing.specs.Typing.{FitsAt, Covers as CoversPlace}
use Rattle.type_frames.specs.FrameJoins.{FitOutside}
use Rattle.type_verifier.specs.declared.covers.Seen.{Seen}
use Rattle.type_verifier.specs.declared.tasks.Task.{Task}
use Rattle.type_verifier.specs.Covers.{AreHanded, LeafFits, NodeAt, Nodes}
use Rattle.type_verifier.specs.Leaders.{Leads}
use Rattle.type_verifier.specs.Progress.{AreFrames}
use Rattle.type_verifier.specs.Tasks.{IsTask, TypesTask, scope_in}

-- what holds at each moment of a walk
pub record IsReady (task : Task) (frames : List (Option FrameType)) : Type 0 where
  pub known : IsTask task
  pub ordered : AreOrdered (scope_in task).classes
  pub kept : AreFrames task frames

-- The frame at a place says no more than each typing does, and fits what the handlers of the entries that cover the leader
-- have already. The same entries cover the place.
pub record IsWalking (task : Task) (frames : List (Option FrameType)) (nodes : Nodes) (leader place : ℕ) (f : FrameType) : Type 0 where
  pub within : place < length (scope_in task).code.instrs
  pub sized : IsFrameOf (scope_in task).code f
  pub below : (typing : List (Option FrameType)) → TypesTask task typing → FitsAt (scope_in task) typing place f
  pub leaf : LeafFits (scope_in task) nodes leader f.locals f.fresh
  pub handed : AreHanded (scope_in task) frames leader f.locals f.fresh
  pub covered : (h : Caught) → Contains (scope_in task).code.handlers h → CoversPlace h leader ↔ CoversPlace h place

-- the frames have one at a target that this one fits
abbrev pub FitsTarget : CodeScope → List (Option FrameType) → ℤ → FrameType → Type 0
FitsTarget s frames target f = (n : ℕ) × (target ≡ pos n) × FitsAt s frames n f

-- a place to which an instruction leads: a leader, if it is a place at all, and each typing has a frame there that this one fits
pub record IsTarget (task : Task) (target : ℤ) (f : FrameType) : Type 0 where
  pub leader : (n : ℕ) → target ≡ pos n → n < length task.leads.items → Leads task.leads.items n
  pub below : (typing : List (Option FrameType)) → TypesTask task typing → FitsTarget (scope_in task) typing target f

-- the locals that a store may have changed are three at most, those round the instruction's local; the others fit what the
-- leader's node has seen
abbrev pub IsStored : CodeScope → Nodes → ℕ → Instr → FrameType → Type 0
IsStored s nodes leader i f =
    (n : ℕ) × (i.a ≡ pos n)
    × ((c : Seen) → NodeAt nodes 0 leader c → FitOutside s.classes (n - 1) (n + 2) f.locals c.locals)
