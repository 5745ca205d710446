-- The handlers of the entries so far have frames that the locals fit.
use Rattle.std.proofs.Common.{◌≡◌, ℕ, ◌<◌, get_or, Some, slice_get}
use Rattle.jk_model_classes.specs.declared.records.Caught.{Caught}
use Rattle.jk_model_typing.specs.Typing.{FitsAt, handler_frame}
use Rattle.type_verifier.specs.Progress.{AreFrames, Moves, notes_of}
use Rattle.type_verifier.specs.Tasks.{scope_in}
use Rattle.type_verifier.proofs.handing.hand_to_entries.Given as goal

abbrev pub invariant-loop-x : goal.invariant-loop-x
invariant-loop-x l = record {
  frames : AreFrames l.task l.progress.frames.items;
  moves : Moves (scope_in l.task) l.initial.progress.frames.items (notes_of l.initial.progress)
      l.progress.frames.items (notes_of l.progress);
  handed : (k : ℕ) (h : Caught) → k < l.x-index → slice_get (scope_in l.task).code.handlers (get_or l.x-items k 0) ≡ Some h
      → FitsAt (scope_in l.task) l.progress.frames.items h.handler (handler_frame (scope_in l.task) h l.at.locals.now l.at.fresh);
}
