-- What is asked of classes and of members by their records, whatever the records are: it holds, or it doesn't.
use Rattle.std.specs.Prelude.{ℕ, ◌⊎◌, List}
use Rattle.jk_model.specs.declared.descriptors.MethodType.{MethodType}
use Rattle.jk_model.specs.declared.identifiers.ClassId.{ClassId}
use Rattle.jk_model.specs.declared.identifiers.MemberId.{MemberId}
use Rattle.jk_model_classes.specs.declared.records.ClassRecord.{ClassRecord}
use Rattle.jk_model_classes.specs.declared.records.Member.{Member}
use Rattle.jk_model_classes.specs.declared.records.TypeRef.{TypeRef}
use Rattle.jk_model_classes.specs.Classes.{Implements, IsInterface, IsSubclass}
use Rattle.jk_model_classes.specs.Lookups.{AreInOnePackage, IsFieldOf, IsMethodOf, IsOverriddenIn, MayAccess, MayAccessClass, RunsFor}

abbrev pub IsDecided : Type 0 → Type 0
IsDecided A = A ⊎ (A → ⊥)

-- ---- Classes.

abbrev pub InterfacesAreDecided : Type 0
InterfacesAreDecided = (classes : List ClassRecord) (c : ClassId) → IsDecided (IsInterface classes c)

abbrev pub SubclassesAreDecided : Type 0
SubclassesAreDecided = (classes : List ClassRecord) (a b : ClassId) → IsDecided (IsSubclass classes a b)

abbrev pub ImplementingIsDecided : Type 0
ImplementingIsDecided = (classes : List ClassRecord) (a i : ClassId) → IsDecided (Implements classes a i)

abbrev pub PackagesAreDecided : Type 0
PackagesAreDecided = (classes : List ClassRecord) (a b : ClassId) → IsDecided (AreInOnePackage classes a b)

-- ---- Members.

abbrev pub FieldsAreDecided : Type 0
FieldsAreDecided = (classes : List ClassRecord) (name : List ℕ) (kind : TypeRef) (m : MemberId) → IsDecided (IsFieldOf classes name kind m)

abbrev pub MethodsAreDecided : Type 0
MethodsAreDecided = (classes : List ClassRecord) (name : List ℕ) (kind : MethodType) (m : MemberId) → IsDecided (IsMethodOf classes name kind m)

abbrev pub AccessIsDecided : Type 0
AccessIsDecided = (classes : List ClassRecord) (from : ClassId) (member : Member) → IsDecided (MayAccess classes from member)

abbrev pub ClassAccessIsDecided : Type 0
ClassAccessIsDecided = (classes : List ClassRecord) (from c : ClassId) → IsDecided (MayAccessClass classes from c)

abbrev pub OverridingIsDecided : Type 0
OverridingIsDecided = (classes : List ClassRecord) (m : MemberId) (flags : ℕ) (d : ClassId) → IsDecided (IsOverriddenIn classes m flags d)

abbrev pub RunningIsDecided : Type 0
RunningIsDecided = (classes : List ClassRecord) (m other : MemberId) → IsDecided (RunsFor classes m other)
