-- A frame at a place is settled where the instruction may begin with it, and what it leaves fits the frames that are kept, or
-- is settled at the next place, where that is no leader.
use Rattle.std.specs.Prelude.{◌≡◌, ℕ, suc, ◌⊎◌, Bool, ℤ, pos, IsTrue, List, Contains, Option, Some, slice_get}
use Rattle.jk_model.specs.declared.instructions.Instr.{Instr}
use Rattle.jk_model_classes.specs.declared.records.Caught.{Caught}
use Rattle.jk_model_classes.specs.MemberCode.{LeadsTo}
use Rattle.jk_model_typing.specs.declared.frames.FrameType.{FrameType}
use Rattle.jk_model_typing.specs.Rows.{Row}
use Rattle.jk_model_typing.specs.Scopes.{CodeScope}
use Rattle.jk_model_typing.specs.Typing.{FrameAt, FitsAt, Covers, handler_frame, is_store, leaves_line}
use Rattle.type_verifier.specs.Leaders.{Leads}

-- the instruction may begin with the frame and leaves another, which fits wherever a jump or a switch leads, and the handlers
-- have frames that fit
pub record StepsWell (s : CodeScope) (frames : List (Option FrameType)) (place : ℕ) (i : Instr) (f after : FrameType) : Type 0 where
  pub instr : slice_get s.code.instrs place ≡ Some i
  pub row : Row s place i f after
  pub jumps : (next : ℤ) → LeadsTo i next → (n : ℕ) × (next ≡ pos n) × FitsAt s frames n after
  pub caught : (h : Caught) → Contains s.code.handlers h → Covers h place → FitsAt s frames h.handler (handler_frame s h f.locals f.fresh)
  pub caught_after : (h : Caught) → Contains s.code.handlers h → Covers h place → IsTrue (is_store i.op)
      → FitsAt s frames h.handler (handler_frame s h after.locals f.fresh)

pub data Settles (s : CodeScope) (leads : List Bool) (frames : List (Option FrameType)) : ℕ → FrameType → Type 0 where
  -- control doesn't go on to the next place
  ends : (place : ℕ) (i : Instr) (f after : FrameType) → StepsWell s frames place i f after → IsTrue (leaves_line i.op)
      → Settles s leads frames place f
  -- it does, and that is a leader
  joins : (place : ℕ) (i : Instr) (f after : FrameType) → StepsWell s frames place i f after → FitsAt s frames (suc place) after
      → Settles s leads frames place f
  -- it does, and that is no leader
  goes_on : (place : ℕ) (i : Instr) (f after : FrameType) → StepsWell s frames place i f after → (Leads leads (suc place) → ⊥)
      → Settles s leads frames (suc place) after → Settles s leads frames place f

-- each frame is settled, or its place is still to be looked at
abbrev pub AreSettled : CodeScope → List Bool → List (Option FrameType) → List ℕ → Type 0
AreSettled s leads frames work =
    (place : ℕ) (f : FrameType) → FrameAt frames place f → Contains work place ⊎ Settles s leads frames place f

-- the same of all frames but that at one place
abbrev pub AreSettledBut : CodeScope → List Bool → List (Option FrameType) → List ℕ → ℕ → Type 0
AreSettledBut s leads frames work but =
    (place : ℕ) (f : FrameType) → FrameAt frames place f → (place ≡ but) ⊎ Contains work place ⊎ Settles s leads frames place f
