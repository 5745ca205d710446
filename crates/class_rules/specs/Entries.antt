-- What an entry of a pool says by itself: the name of a class, or a reference to a member.
use Rattle.std.specs.Prelude.{◌≡◌, ℕ, ◌⊎◌, List, Option, Some, None, MatchOption}
use Rattle.jk_model.specs.declared.class_file.PoolEntry.{PoolEntry}
use Rattle.jk_model.specs.declared.class_file.PoolEntry.TheVariants.{Class, FieldRef, MethodRef, InterfaceMethodRef}
use Rattle.jk_model_classes.specs.ClassNames.{IsClassEntryName, IsReferenceName}
use Rattle.jk_model_classes.specs.Members.{TextAt, NameAndTypeAt, MemberKind, Field as FieldKind, Method as MethodKind, InterfaceMethod as InterfaceMethodKind}
use Rattle.jk_model_classes.specs.MemberDescriptors.{IsReferenceDescriptor, IsFloatArray, IsFloatReference}
use Rattle.class_rules.specs.declared.known_pool.ReferenceKind.{ReferenceKind}
use Rattle.class_rules.specs.declared.known_pool.ReferenceKind.TheVariants.{Field, Method, InterfaceMethod}

abbrev pub kind_of : ReferenceKind → MemberKind
kind_of Field = FieldKind
kind_of Method = MethodKind
kind_of InterfaceMethod = InterfaceMethodKind

-- the index of a class's name
abbrev pub class_of : PoolEntry → Option ℕ
class_of (Class name) = Some name
class_of _ = None

-- the kind of a reference, and the index of its name and descriptor
abbrev pub reference_of : PoolEntry → Option (ReferenceKind × ℕ)
reference_of (FieldRef class pair) = Some (Field, pair)
reference_of (MethodRef class pair) = Some (Method, pair)
reference_of (InterfaceMethodRef class pair) = Some (InterfaceMethod, pair)
reference_of _ = None

-- the entry is a class of this name
abbrev pub HasClassName : List PoolEntry → PoolEntry → List ℕ → Type 0
HasClassName pool entry units = MatchOption (class_of entry) ⊥ (λ name. TextAt pool name units)

-- the entry is a reference of this kind, to a member with this name and descriptor
abbrev pub HasReference : List PoolEntry → PoolEntry → MemberKind → List ℕ → List ℕ → Type 0
HasReference pool entry kind name descriptor =
    MatchOption (reference_of entry) ⊥ (λ r. (kind ≡ kind_of r.0) × NameAndTypeAt pool r.1 name descriptor)

-- the entry is a class whose name is so
abbrev pub IsClassSo : (List ℕ → Type 0) → List PoolEntry → PoolEntry → Type 0
IsClassSo P pool entry = (units : List ℕ) × HasClassName pool entry units × P units

-- the entry is a reference whose kind, name and descriptor are so
abbrev pub IsReferenceSo : (MemberKind → List ℕ → List ℕ → Type 0) → List PoolEntry → PoolEntry → Type 0
IsReferenceSo P pool entry =
    (kind : MemberKind) × (name : List ℕ) × (descriptor : List ℕ) × HasReference pool entry kind name descriptor × P kind name descriptor

-- ---- What the rules refuse of an entry.

-- C7
abbrev pub IsBadlyNamed : List PoolEntry → PoolEntry → Type 0
IsBadlyNamed pool entry =
    IsClassSo (λ units. IsClassEntryName units → ⊥) pool entry
    ⊎ IsReferenceSo (λ kind name descriptor. IsReferenceName kind name → ⊥) pool entry

-- C8
abbrev pub IsBadReference : List PoolEntry → PoolEntry → Type 0
IsBadReference pool entry = IsReferenceSo (λ kind name descriptor. IsReferenceDescriptor kind name descriptor → ⊥) pool entry

-- C10, as far as descriptors go
abbrev pub IsFloatEntry : List PoolEntry → PoolEntry → Type 0
IsFloatEntry pool entry =
    IsClassSo IsFloatArray pool entry ⊎ IsReferenceSo (λ kind name descriptor. IsFloatReference kind descriptor) pool entry
