-- How a walk over a code begins: no place has a frame, and each typing begins with our start frame.
use Rattle.std.proofs.Common.{◌≡◌, ℕ, zero, suc, inl, inr, Bool, List, length, replicate, Option, None, sym, subst, ◌∙◌}
use Rattle.std.proofs.lemmas.List.{length-replicate}
use Rattle.jk_model_typing.specs.declared.frames.FrameType.{FrameType}
use Rattle.jk_model_typing.specs.Scopes.{CodeScope}
use Rattle.jk_model_typing.specs.Typing.{FitsAt, FrameAt, IsStart}
use Rattle.type_rows.proofs.RowsStart.{start-determined}
use Rattle.touched_locals.specs.TypingsIn.{IsTypingIn}
use Rattle.type_verifier.specs.declared.tasks.Task.{Task}
use Rattle.type_verifier.specs.Progress.{AreFrames, Moves, Notes}
use Rattle.type_verifier.specs.Settling.{AreSettled}
use Rattle.type_verifier.specs.Tasks.{scope_in}

-- ---- The start of a typing.

-- a typing begins with the start frame that the code has
pub start-below : (s : CodeScope) (typing : List (Option FrameType)) (start : FrameType) → IsTypingIn s typing → IsStart s start
    → FitsAt s typing 0 start
start-below s typing start types begins =
    subst (λ (f : FrameType). FitsAt s typing 0 f) (start-determined s types.start start types.start_is begins) types.first

-- ---- No frames.

pub no-frame : (n place : ℕ) (f : FrameType) → FrameAt (replicate n None) place f → ⊥
no-frame zero place f at = cc
no-frame (suc n) zero f at = cc
no-frame (suc n) (suc place) f at = no-frame n place f at

pub AreFrames-none : (task : Task) (n : ℕ) → n ≡ length (scope_in task).code.instrs → AreFrames task (replicate n None)
AreFrames-none task n many = record {
  as_many = length-replicate n None ∙ many;
  sized = λ place f at. absurd (no-frame n place f at);
  leaders = λ place f at. absurd (no-frame n place f at);
  below = λ typing types place f at. absurd (no-frame n place f at);
}

-- a frame that has come is still to be looked at
pub AreSettled-begun : (s : CodeScope) (leads : List Bool) (n : ℕ) (old_work : Notes) (new : List (Option FrameType)) (new_work : Notes)
    → Moves s (replicate n None) old_work new new_work → AreSettled s leads new new_work.work
AreSettled-begun s leads n old_work new new_work moves place f at = elim (moves.pending place) [
  | inl same ↦ absurd (no-frame n place f (sym same ∙ at))
  | inr waits ↦ inl waits
]
