-- The objects that stand in a heap from the opening on: a PrintStream and eight throwables.
use Rattle.std.specs.Prelude.{◌≡◌, ℕ, List, [], ◌∷◌}
use Rattle.jk_model.specs.declared.identifiers.ClassId.{ClassId}
use Rattle.jk_model.specs.declared.identifiers.DomainId.{DomainId}
use Rattle.jk_model_classes.specs.declared.records.ClassRecord.{ClassRecord}
use Rattle.jk_model_domains.specs.Objects.{NamedObject, PRINT_STREAM}
use Rattle.jk_model_heaps.specs.Heaps.{named}
use Rattle.jk_model_heaps.specs.SystemClasses.{NOT_COPIABLE_EXCEPTION, OUT_OF_MEMORY_ERROR, QUOTA_EXCEPTION, REMOTE_EXCEPTION, REVOKED_EXCEPTION, SECURITY_EXCEPTION, STACK_OVERFLOW_ERROR, THREAD_DEATH}
use Rattle.jk_model_heaps.specs.Throwables.{fresh_throwable}
use Rattle.class_init.specs.KeptStates.{KeptState}
use Rattle.object_store.specs.HeapContents.{HeapContent}
use Rattle.heap_loops.specs.ObjectsMade.{MakesObjects}

-- their classes, those of the throwables in the order of their places
abbrev pub opening_classes : List ClassId
opening_classes =
    PRINT_STREAM ∷ OUT_OF_MEMORY_ERROR ∷ STACK_OVERFLOW_ERROR ∷ REVOKED_EXCEPTION ∷ QUOTA_EXCEPTION ∷ NOT_COPIABLE_EXCEPTION ∷ REMOTE_EXCEPTION
    ∷ THREAD_DEATH ∷ SECURITY_EXCEPTION ∷ []

-- new objects of these classes under these names
abbrev pub objects_named : List ClassRecord → List ℕ → List ClassId → List NamedObject
objects_named classes (a ∷ names) (c ∷ cs) = named a (fresh_throwable classes c) ∷ objects_named classes names cs
objects_named classes _ _ = []

-- They are made, and the domain knows their names.
pub record MakesStanding (old new : HeapContent) (classes : List ClassRecord) (d : DomainId) (before after : KeptState) : Type 0 where
  pub out : ℕ
  pub standing : List ℕ
  pub makes : MakesObjects old new classes d (objects_named classes (out ∷ standing) opening_classes)
  pub known : after ≡ record before { state = record before.state { out = out; standing = standing } }
