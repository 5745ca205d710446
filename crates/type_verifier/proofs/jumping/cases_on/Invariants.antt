-- The frame fits the places of all cases so far.
use Rattle.std.proofs.Common.{◌≡◌, ℕ, ◌<◌, Some, slice_get}
use Rattle.jk_model.specs.declared.instructions.SwitchCase.{SwitchCase}
use Rattle.type_verifier.specs.Progress.{Moves, notes_of}
use Rattle.type_verifier.specs.Tasks.{scope_in}
use Rattle.type_verifier.specs.Walking.{FitsTarget, IsReady}
use Rattle.type_verifier.proofs.jumping.cases_on.Given as goal

abbrev pub invariant-loop-case : goal.invariant-loop-case
invariant-loop-case l = record {
  ready : IsReady l.task l.progress.frames.items;
  moves : Moves (scope_in l.task) l.fn.progress.frames.items (notes_of l.fn.progress) l.progress.frames.items (notes_of l.progress);
  fit : (k : ℕ) → k < l.case-index → (case : SwitchCase) → slice_get l.cases k ≡ Some case
      → FitsTarget (scope_in l.task) l.progress.frames.items case.target l.frame;
}
