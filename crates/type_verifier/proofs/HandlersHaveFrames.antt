-- What a handler's frame says of locals that are handed to it, and that a handler without room has none.
use Rattle.std.proofs.Common.{◌≡◌, ℕ, ◌≤◌, ◌⊎◌, Bool, List, [], ◌∷◌, length, Option, Some, subst, inl, inr, arith}
use Rattle.std.proofs.lemmas.Option.{slice_get_within}
use Rattle.jk_model_classes.specs.declared.records.Caught.{Caught}
use Rattle.jk_model_classes.specs.Classes.{AreOrdered}
use Rattle.jk_model_typing.specs.declared.frames.VType.{VType}
use Rattle.jk_model_typing.specs.declared.frames.FrameType.{FrameType}
use Rattle.jk_model_typing.specs.Scopes.{CodeScope}
use Rattle.jk_model_typing.specs.Typing.{FrameAt, FitsAt, handler_frame, caught_value}
use Rattle.type_frames.specs.FrameJoins.{FitOutside}
use Rattle.type_frames.proofs.HeightsAreBounded.{slots-most}
use Rattle.type_frames.proofs.OrderOfFrames.{EachFits-length}
use Rattle.type_verifier.specs.declared.tasks.Task.{Task}
use Rattle.type_verifier.specs.Climbs.{FitsBut}
use Rattle.type_verifier.specs.Progress.{Moves, Notes}
use Rattle.type_verifier.specs.Tasks.{IsTask, scope_in, TypesTask}
use Rattle.type_verifier.proofs.FramesInOrder.{FitOutside-above}
use Rattle.type_verifier.proofs.MovesCompose.{FrameAt-one, FitsAt-moves}

-- outside of a range that is all there is nothing
pub FitOutside-all : (s : CodeScope) (first end : ℕ) (xs ys : List VType) → first ≡ 0 → end ≡ length xs
    → FitOutside s.classes first end xs ys
FitOutside-all s first end xs ys begins ends k a b ea eb (inl before) = absurd (omega arith)
FitOutside-all s first end xs ys begins ends k a b ea eb (inr past) = let within = slice_get_within xs k a ea in absurd (omega arith)

module _ (s : CodeScope) (ordered : AreOrdered s.classes) where
  pub FitsBut-here : (frames : List (Option FrameType)) (place first end : ℕ) (locals : List VType) (f : FrameType)
      → FitsBut s frames place first end locals → FrameAt frames place f → FitOutside s.classes first end locals f.locals
  FitsBut-here frames place first end locals f (inl (begins, ends)) at = FitOutside-all s first end locals f.locals begins ends
  FitsBut-here frames place first end locals f (inr (b, (g, gt, fits), out)) at =
      subst (λ (y : FrameType). FitOutside s.classes first end locals y.locals) (FrameAt-one frames place g f gt at)
      (FitOutside-above s.classes ordered first end locals b.locals g.locals out fits.locals)

  pub FitsBut-moves : (old : List (Option FrameType)) (old_work : Notes) (new : List (Option FrameType)) (new_work : Notes)
      (place first end : ℕ) (locals : List VType) → Moves s old old_work new new_work → FitsBut s old place first end locals
      → FitsBut s new place first end locals
  FitsBut-moves old old_work new new_work place first end locals moves (inl all) = inl all
  FitsBut-moves old old_work new new_work place first end locals moves (inr (b, fits, out)) =
      inr (b, FitsAt-moves s ordered old old_work new new_work place b moves fits, out)

-- a handler has a place in the code, and room for what it has on the stack
pub no-room : (task : Task) → IsTask task → (typing : List (Option FrameType)) (h : Caught) (locals : List VType) (fresh : Bool)
    → TypesTask task typing → FitsAt (scope_in task) typing h.handler (handler_frame (scope_in task) h locals fresh)
    → ((scope_in task).code.max_stack ≡ 0) ⊎ (length (scope_in task).code.instrs ≤ h.handler) → ⊥
no-room task is typing h locals fresh types (g, at, fits) why =
    let s = scope_in task in
    let sized = types.sized h.handler g at in
    let many = types.as_many in
    let within = slice_get_within typing h.handler (Some g) at in
    let one = EachFits-length s.classes (caught_value s h ∷ []) g.stack fits.stack in
    let some = slots-most s.classes g.stack in
    let room = sized.stack in
    elim why [ inl none ↦ omega (arith, none) | inr past ↦ omega (arith, past) ]
