-- No handler so far suits.
use Rattle.std.proofs.Common.{◌≡◌, ◌<◌, ℕ, Some, slice_get}
use Rattle.jk_model_classes.specs.declared.records.Caught.{Caught}
use Rattle.jk_model_domains.specs.Objects.{Object}
use Rattle.jk_model_heaps.specs.Heaps.{shape_of}
use Rattle.exception_unwind.specs.Handlers.{Suits}
use Rattle.exception_unwind.proofs.handlers.first_handler.Given as goal

abbrev pub invariant-loop-handler : goal.invariant-loop-handler
invariant-loop-handler l =
    (object : Object) → shape_of object ≡ l.shape → (k : ℕ) (h : Caught) → k < l.handler-index → slice_get l.handlers k ≡ Some h
    → Suits l.t l.at object h → ⊥
