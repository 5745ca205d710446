-- What is said of classes, of their members and of what stands above them, where more classes are put behind them. A class that
-- was there is one of those that stand in front.
use Rattle.std.specs.Prelude.{◌≡◌, ◌↔◌, ⊤, ℕ, List, ◌++◌, Option}
use Rattle.jk_model.specs.declared.descriptors.MethodType.{MethodType}
use Rattle.jk_model.specs.declared.identifiers.ClassId.{ClassId}
use Rattle.jk_model.specs.declared.identifiers.MemberId.{MemberId}
use Rattle.jk_model_classes.specs.declared.records.ClassRecord.{ClassRecord}
use Rattle.jk_model_classes.specs.declared.records.FieldRecord.{FieldRecord}
use Rattle.jk_model_classes.specs.declared.records.Member.{Member}
use Rattle.jk_model_classes.specs.declared.records.MethodRecord.{MethodRecord}
use Rattle.jk_model_classes.specs.declared.records.TypeRef.{TypeRef}
use Rattle.jk_model_classes.specs.Classes.{record_of, HasClass, AreOrdered, IsInterface, IsSubclass}
use Rattle.jk_model_classes.specs.Lookups.{FieldIs, MethodIs, FlagsAre, AreInOnePackage, FindsField, FindsMethod, Selects, class_of}
use Rattle.jk_model_classes.specs.Layouts.{layout_of}
use Rattle.jk_model_domains.specs.Objects.{Object, Plain, object_words}

-- It is said of the classes exactly where it is said of them with more behind.
abbrev pub IsKept : (List ClassRecord → Type 0) → List ClassRecord → List ClassRecord → Type 0
IsKept Says classes more = Says classes ↔ Says (classes ++ more)

-- ---- One class, and its members.

abbrev pub ClassesStay : Type 0
ClassesStay = (classes more : List ClassRecord) (c : ClassId) → HasClass classes c → HasClass (classes ++ more) c

abbrev pub RecordsStay : Type 0
RecordsStay = (classes more : List ClassRecord) (c : ClassId) → HasClass classes c → record_of (classes ++ more) c ≡ record_of classes c

abbrev pub InterfacesStay : Type 0
InterfacesStay =
    (classes more : List ClassRecord) (c : ClassId) → HasClass classes c → IsKept (λ all. IsInterface all c) classes more

abbrev pub FieldsStay : Type 0
FieldsStay =
    (classes more : List ClassRecord) (m : MemberId) (field : FieldRecord) → HasClass classes m.class
    → IsKept (λ all. FieldIs all m field) classes more

abbrev pub MethodsStay : Type 0
MethodsStay =
    (classes more : List ClassRecord) (m : MemberId) (method : MethodRecord) → HasClass classes m.class
    → IsKept (λ all. MethodIs all m method) classes more

abbrev pub FlagsStay : Type 0
FlagsStay =
    (classes more : List ClassRecord) (member : Member) (flags : ℕ) → HasClass classes (class_of member)
    → IsKept (λ all. FlagsAre all member flags) classes more

abbrev pub PackagesStay : Type 0
PackagesStay =
    (classes more : List ClassRecord) (c d : ClassId) → HasClass classes c → HasClass classes d
    → IsKept (λ all. AreInOnePackage all c d) classes more

-- ---- What stands above a class.

-- of any number, and whether or not the classes are in order
abbrev pub SubclassesStay : Type 0
SubclassesStay = (classes more : List ClassRecord) (c d : ClassId) → IsSubclass classes c d → IsSubclass (classes ++ more) c d

-- A list that is made for a class is the same with more classes behind, where those in front are in order.
abbrev pub IsSameFor : (List ClassRecord → ClassId → List ClassId) → Type 0
IsSameFor walk =
    (classes more : List ClassRecord) (c : ClassId) → AreOrdered classes → HasClass classes c → walk (classes ++ more) c ≡ walk classes c

-- What is said of a class that was there is kept, where those in front are in order.
abbrev pub IsKeptFor : (List ClassRecord → ClassId → Type 0) → Type 0
IsKeptFor Says =
    (classes more : List ClassRecord) (c : ClassId) → AreOrdered classes → HasClass classes c → IsKept (λ all. Says all c) classes more

-- what a name and a type find, which may be nothing
abbrev pub FoundFieldsStay : Type 0
FoundFieldsStay = (name : List ℕ) (kind : TypeRef) (found : Option MemberId) → IsKeptFor (λ all c. FindsField all c name kind found)

abbrev pub FoundMethodsStay : Type 0
FoundMethodsStay = (name : List ℕ) (kind : MethodType) (found : Option MemberId) → IsKeptFor (λ all c. FindsMethod all c name kind found)

-- the method that a call of m on an object of a class runs
abbrev pub SelectedMethodsStay : Type 0
SelectedMethodsStay =
    (classes more : List ClassRecord) (c : ClassId) (m : MemberId) (selected : Option MemberId) → AreOrdered classes → HasClass classes c
    → HasClass classes m.class → IsKept (λ all. Selects all c m selected) classes more

-- ---- What objects are made of.

-- the class of a plain object is there
abbrev pub HasObject : List ClassRecord → Object → Type 0
HasObject classes (Plain class fields) = HasClass classes class
HasObject classes _ = ⊤

abbrev pub LayoutsStay : Type 0
LayoutsStay =
    (classes more : List ClassRecord) (c : ClassId) → AreOrdered classes → HasClass classes c → layout_of (classes ++ more) c ≡ layout_of classes c

abbrev pub CostsStay : Type 0
CostsStay =
    (classes more : List ClassRecord) (object : Object) → AreOrdered classes → HasObject classes object
    → object_words (classes ++ more) object ≡ object_words classes object
