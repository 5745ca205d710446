-- What the entries of a pool say, as units, and what a member is called. Names are compared by units: two
-- entries may spell one name.
use Rattle.std.specs.Prelude.{◌≡◌, ℕ, List, Some, slice_get, codes}
use Rattle.jk_model.specs.declared.class_file.ClassFile.{ClassFile}
use Rattle.jk_model.specs.declared.class_file.PoolEntry.{PoolEntry}
use Rattle.jk_model.specs.declared.class_file.PoolEntry.TheVariants.{Utf8, Class, FieldRef, MethodRef, InterfaceMethodRef, NameAndType}
use Rattle.jk_model.specs.declared.class_file.MemberInfo.{MemberInfo}
use Rattle.jk_model.specs.declared.class_file.Attribute.{Attribute}
use Rattle.jk_model.specs.Text.{Spells}

-- ---- Entries.

-- a Utf8 entry stands at this index, and spells these units
abbrev pub TextAt : List PoolEntry → ℕ → List ℕ → Type 0
TextAt pool i units = (bytes : List ℕ) × (slice_get pool i ≡ Some (Utf8 bytes)) × Spells bytes units

-- a Class entry stands at this index, and its name is these units
abbrev pub ClassAt : List PoolEntry → ℕ → List ℕ → Type 0
ClassAt pool i units = (name : ℕ) × (slice_get pool i ≡ Some (Class name)) × TextAt pool name units

-- a NameAndType entry stands at this index, with this name and descriptor
abbrev pub NameAndTypeAt : List PoolEntry → ℕ → List ℕ → List ℕ → Type 0
NameAndTypeAt pool i name descriptor =
    (n : ℕ) × (d : ℕ) × (slice_get pool i ≡ Some (NameAndType n d)) × TextAt pool n name × TextAt pool d descriptor

-- what a reference to a member refers to
pub data MemberKind : Type 0 where
  Field : MemberKind
  Method : MemberKind
  InterfaceMethod : MemberKind

abbrev pub reference : MemberKind → ℕ → ℕ → PoolEntry
reference Field class pair = FieldRef class pair
reference Method class pair = MethodRef class pair
reference InterfaceMethod class pair = InterfaceMethodRef class pair

-- a reference of this kind stands at this index, to a member with this name and descriptor
abbrev pub ReferenceAt : List PoolEntry → ℕ → MemberKind → List ℕ → List ℕ → Type 0
ReferenceAt pool i kind name descriptor =
    (class : ℕ) × (pair : ℕ) × (slice_get pool i ≡ Some (reference kind class pair)) × NameAndTypeAt pool pair name descriptor

-- ---- Names of members and attributes.

abbrev pub INIT : List ℕ
INIT = codes "<init>"

abbrev pub CLINIT : List ℕ
CLINIT = codes "<clinit>"

abbrev pub IsInit : ClassFile → MemberInfo → Type 0
IsInit c method = TextAt c.pool method.name INIT

abbrev pub IsClinit : ClassFile → MemberInfo → Type 0
IsClinit c method = TextAt c.pool method.name CLINIT

abbrev pub IsCalled : List PoolEntry → List ℕ → Attribute → Type 0
IsCalled pool name attribute = TextAt pool attribute.name name
