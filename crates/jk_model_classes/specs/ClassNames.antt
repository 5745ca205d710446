-- The rules on names: C7, which names have not the form that they need; C16, which members are there twice; C17,
-- whether a class stands under its own path.
use Rattle.std.specs.Prelude.{◌≡◌, ℕ, ◌+◌, ◌≤◌, ◌≢◌, ◌⊎◌, List, ◌∷◌, ◌++◌, length, Some, slice_get, codes}
use Rattle.std.specs.List.{AllByRecursion}
use Rattle.jk_model.specs.declared.class_file.ClassFile.{ClassFile}
use Rattle.jk_model.specs.declared.class_file.PoolEntry.{PoolEntry}
use Rattle.jk_model.specs.declared.class_file.MemberInfo.{MemberInfo}
use Rattle.jk_model.specs.declared.descriptors.FieldType.{FieldType}
use Rattle.jk_model.specs.Descriptors.{IsName, IsClassName, IsFieldText}
use Rattle.jk_model.specs.Outside.{IsPrefix}
use Rattle.jk_model.specs.Text.{utf16_of}
use Rattle.jk_model_classes.specs.Items.{HasItem, HasItemBefore, FieldAt, MethodAt, Spot, Member, Entry}
use Rattle.jk_model_classes.specs.Members.{TextAt, ClassAt, MemberKind, Field, Method, InterfaceMethod, ReferenceAt, INIT, CLINIT}

-- ---- Forms of names. Characters stand as their numbers: 60 and 62 are `<` and `>`, 91 is `[`.

-- the name of a method other than `<init>` and `<clinit>`
abbrev pub IsPlainMethodName : List ℕ → Type 0
IsPlainMethodName units = IsName units × AllByRecursion (λ u. (u ≢ 60) × (u ≢ 62)) units

abbrev pub IsMethodName : List ℕ → Type 0
IsMethodName units = IsPlainMethodName units ⊎ (units ≡ INIT) ⊎ (units ≡ CLINIT)

-- The name in a reference. None is `<clinit>`, and only a MethodRef may name the method `<init>`.
abbrev pub IsReferenceName : MemberKind → List ℕ → Type 0
IsReferenceName Field units = IsName units × (units ≢ CLINIT)
IsReferenceName Method units = IsPlainMethodName units ⊎ (units ≡ INIT)
IsReferenceName InterfaceMethod units = IsPlainMethodName units

-- the descriptor of an array type
abbrev pub IsArrayDescriptor : List ℕ → Type 0
IsArrayDescriptor units = (t : FieldType) × (1 ≤ t.dims) × IsFieldText units t

-- the name of a Class entry
abbrev pub IsClassEntryName : List ℕ → Type 0
IsClassEntryName units = IsClassName units ⊎ IsArrayDescriptor units

-- ---- C7.

-- the name of an array begins with `[`
abbrev pub BeginsArray : List ℕ → Type 0
BeginsArray units = (rest : List ℕ) × (units ≡ 91 ∷ rest)

-- a Class entry stands at this index, and it is none of an array
abbrev pub NamesClass : List PoolEntry → ℕ → Type 0
NamesClass pool i = (units : List ℕ) × ClassAt pool i units × (BeginsArray units → ⊥)

-- the class, its parent or one of its interfaces is no Class entry, or is one of an array
abbrev pub HasBadHeader : ClassFile → Type 0
HasBadHeader c =
    (NamesClass c.pool c.this_class → ⊥) ⊎ (NamesClass c.pool c.super_class → ⊥)
    ⊎ HasItem (λ i. NamesClass c.pool i → ⊥) c.interfaces

-- a Utf8 entry stands at this index, and what it spells is so
abbrev pub HasText : (List ℕ → Type 0) → List PoolEntry → ℕ → Type 0
HasText P pool i = (units : List ℕ) × TextAt pool i units × P units

abbrev pub HasBadName : ClassFile → Spot → Type 0
HasBadName c (Member n) =
    ((n ≡ 0) × HasBadHeader c)
    ⊎ ((field : MemberInfo) × FieldAt c n field × (HasText IsName c.pool field.name → ⊥))
    ⊎ ((method : MemberInfo) × MethodAt c n method × (HasText IsMethodName c.pool method.name → ⊥))
HasBadName c (Entry i) =
    ((units : List ℕ) × ClassAt c.pool i units × (IsClassEntryName units → ⊥))
    ⊎ ((kind : MemberKind) × (name : List ℕ) × (descriptor : List ℕ) × ReferenceAt c.pool i kind name descriptor
    × (IsReferenceName kind name → ⊥))

-- ---- C16: two fields, or two methods, with equal name and descriptor. The second counts.

abbrev pub AreNamesakes : List PoolEntry → MemberInfo → MemberInfo → Type 0
AreNamesakes pool a b =
    (name : List ℕ) × (descriptor : List ℕ) × TextAt pool a.name name × TextAt pool b.name name
    × TextAt pool a.descriptor descriptor × TextAt pool b.descriptor descriptor

-- the member at this place has a namesake before it
abbrev pub IsSecondAt : List PoolEntry → List MemberInfo → ℕ → Type 0
IsSecondAt pool members i =
    (m : MemberInfo) × (slice_get members i ≡ Some m) × HasItemBefore i (λ other. AreNamesakes pool other m) members

abbrev pub IsDuplicate : ClassFile → Spot → Type 0
IsDuplicate c (Member n) =
    ((i : ℕ) × (n ≡ i + 1) × IsSecondAt c.pool c.fields i)
    ⊎ ((i : ℕ) × (n ≡ length c.fields + i + 1) × IsSecondAt c.pool c.methods i)
IsDuplicate c (Entry i) = ⊥

-- ---- C17: a path below the folder, in UTF-8.

-- the path is the name of the class with `.class`
abbrev pub StandsUnder : ClassFile → List ℕ → Type 0
StandsUnder c path = (name : List ℕ) × ClassAt c.pool c.this_class name × (utf16_of path ≡ name ++ codes ".class")

-- the name is one that is kept for system classes
abbrev pub IsReserved : ClassFile → Type 0
IsReserved c =
    (name : List ℕ) × ClassAt c.pool c.this_class name × (IsPrefix (codes "java/") name ⊎ IsPrefix (codes "jk/") name)

abbrev pub HasWrongPath : ClassFile → List ℕ → Spot → Type 0
HasWrongPath c path (Member n) = (n ≡ 0) × ((StandsUnder c path → ⊥) ⊎ IsReserved c)
HasWrongPath c path (Entry i) = ⊥
