-- The classes of the types so far are added.
use Rattle.jk_model_classes.specs.Items.{HasItemBefore}
use Rattle.jk_model_classes.specs.References.{IsOfClass}
use Rattle.jk_model_classes.specs.Worlds.{class_named}
use Rattle.class_linker.specs.KnownReferences.{Adds}
use Rattle.class_linker.proofs.references.add_types.Given as goal

abbrev pub invariant-loop-t : goal.invariant-loop-t
invariant-loop-t l = Adds (class_named l.names) (λ name. HasItemBefore l.t-index (IsOfClass name) l.types) l.initial.numbers.items l.numbers.items
