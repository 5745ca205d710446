-- Nothing stands below a closed system class: java/lang/String, its buffers, java/io/PrintStream and others.
use Rattle.std.specs.Prelude.{◌≡◌, ℕ, ◌≤◌, true, List, length, Some, slice_get}
use Rattle.jk_model.specs.declared.identifiers.ClassId.{ClassId}
use Rattle.jk_model.specs.SystemTable.{SystemClass, system_classes}
use Rattle.jk_model_classes.specs.declared.records.ClassRecord.{ClassRecord}
use Rattle.jk_model_classes.specs.Classes.{AreOrdered, IsSubclass, record_of}
use Rattle.jk_model_classes.specs.Stubs.{IsSystemNamed}
use Rattle.system_facts.specs.SystemTypes.{HaveSystemClasses}

abbrev pub IsClosedClass : ClassId → Type 0
IsClosedClass c = (class : SystemClass) × (slice_get system_classes c.0 ≡ Some class) × (class.closed ≡ true)

-- the system class of this name is closed
abbrev pub IsClosedByName : List ℕ → Type 0
IsClosedByName name = (c : ClassId) → IsSystemNamed name c → IsClosedClass c

-- no class behind the system classes has a closed one for its parent
abbrev pub HaveOpenParents : List ClassRecord → Type 0
HaveOpenParents classes =
    (c p : ClassId) (r : ClassRecord) → length system_classes ≤ c.0 → record_of classes c ≡ Some r → r.parent ≡ Some p → IsClosedClass p → ⊥

abbrev pub NothingIsBelowClosed : Type 0
NothingIsBelowClosed =
    (classes : List ClassRecord) (c closed : ClassId) → AreOrdered classes → HaveSystemClasses classes → HaveOpenParents classes
    → IsClosedClass closed → IsSubclass classes c closed → c ≡ closed
