-- Which objects may be copied from one domain to another, by what names mean in the two. Capabilities are no objects of a heap, and pass
-- as themselves.
use Rattle.std.specs.Prelude.{◌≡◌, ℕ, ◌⊎◌, ⊤, Bool, false, IsTrue, List, Some, slice_get}
use Rattle.std.specs.Option.{option_map_or}
use Rattle.jk_model.specs.SystemTable.{SystemClass, system_classes}
use Rattle.jk_model.specs.declared.identifiers.ClassId.{ClassId}
use Rattle.jk_model_classes.specs.declared.records.BaseRef.{BaseRef}
use Rattle.jk_model_classes.specs.declared.records.BaseRef.TheVariants as Base
use Rattle.jk_model_classes.specs.declared.records.ClassRecord.{ClassRecord}
use Rattle.jk_model_classes.specs.Classes.{Implements}
use Rattle.jk_model_classes.specs.Worlds.{NamedClass, class_named}
use Rattle.jk_model_domains.specs.Objects.{Object, Array, Plain, Task, Text, object_named}
use Rattle.jk_model_graphs.specs.Reach.{Graph, Reach}
use Rattle.jk_model_heaps.specs.SystemClasses.{SERIALIZABLE}

-- the class is one of the system that its table marks so; a folder's class stands behind all of these
abbrev pub is_marked_copiable : ClassId → Bool
is_marked_copiable c = option_map_or (λ (e : SystemClass). e.copiable) (slice_get system_classes c.0) false

-- one name means the class in both
abbrev pub AreSharing : List NamedClass → List NamedClass → ClassId → Type 0
AreSharing from to c = (name : List ℕ) × (class_named from name ≡ Some c) × (class_named to name ≡ Some c)

-- of arrays: whole numbers always, and a class, serializable or not, that both know
abbrev pub AreSharingBase : List NamedClass → List NamedClass → BaseRef → Type 0
AreSharingBase from to (Base.Class c) = AreSharing from to c
AreSharingBase from to _ = ⊤

-- An array is judged by what it is of in the end, whatever it holds. That a PrintStream isn't copiable follows: it isn't marked, and
-- implements nothing.
abbrev pub IsCopiable : List ClassRecord → List NamedClass → List NamedClass → Object → Type 0
IsCopiable classes from to (Plain class values) = IsTrue (is_marked_copiable class) ⊎ (AreSharing from to class × Implements classes class SERIALIZABLE)
IsCopiable classes from to (Array element items) = AreSharingBase from to element.base
IsCopiable classes from to (Text units) = ⊤
IsCopiable classes from to (Task segment) = ⊥

-- ---- Of all that is reached.

abbrev pub AllCopiable : List ClassRecord → List NamedClass → List NamedClass → Graph → Type 0
AllCopiable classes from to g =
    (a : ℕ) (object : Object) → Reach classes g a → object_named g.heap a ≡ Some object → IsCopiable classes from to object

-- the object of this name is reached, and isn't copiable
abbrev pub MeetsUncopiable : List ClassRecord → List NamedClass → List NamedClass → Graph → ℕ → Type 0
MeetsUncopiable classes from to g a =
    Reach classes g a × ((object : Object) × (object_named g.heap a ≡ Some object) × (IsCopiable classes from to object → ⊥))
