-- The classes of the texts so far are added.
use Rattle.std.proofs.Common.{◌<◌, ℕ, []}
use Rattle.jk_model_classes.specs.Worlds.{class_named}
use Rattle.class_linker.specs.KnownReferences.{Adds, RefersBy}
use Rattle.class_linker.proofs.references.numbers.Given as goal

abbrev pub invariant-loop-i : goal.invariant-loop-i
invariant-loop-i l = Adds (class_named l.scope.names.now) (λ name. (j : ℕ) × (j < l.i) × RefersBy l.scope.file.now j name) [] l.numbers.items
