-- Which bytes are a class file, and which record they stand for: the Java Virtual Machine
-- Specification, second edition, chapter 4 (4.1 the ClassFile structure, 4.4 the constant pool,
-- 4.5 fields, 4.6 methods, 4.7 attributes, 4.7.3 the Code attribute). The bytes of a record are
-- those of its sections, one after the other.
use Rattle.std.specs.Prelude.{◌≡◌, ℕ, ◌<◌, ◌≤◌, ◌^◌, ◌⊎◌, ◌≢◌, ⊤, List, [], ◌∷◌, ◌++◌, length, Some, slice_get, flat_map, take}
use Rattle.std.specs.List.{AllByRecursion}
use Rattle.std.specs.Int.{w16, w32, w64, to_be_bytes}
use Rattle.jk_model.specs.declared.class_file.ClassFile.{ClassFile}
use Rattle.jk_model.specs.declared.class_file.PoolEntry.{PoolEntry}
use Rattle.jk_model.specs.declared.class_file.PoolEntry.TheVariants.{Unusable, Utf8, Integer, Float, Long, Double, Class, Str, FieldRef, MethodRef, InterfaceMethodRef, NameAndType}
use Rattle.jk_model.specs.declared.class_file.MemberInfo.{MemberInfo}
use Rattle.jk_model.specs.declared.class_file.Attribute.{Attribute}
use Rattle.jk_model.specs.declared.class_file.Code.{Code}
use Rattle.jk_model.specs.declared.class_file.Handler.{Handler}
use Rattle.jk_model.specs.Text.{IsModifiedUtf8}

-- ---- Numbers: the highest byte stands first.

abbrev pub u2 : ℕ → List ℕ
u2 n = to_be_bytes w16 n

abbrev pub u4 : ℕ → List ℕ
u4 n = to_be_bytes w32 n

abbrev pub u8 : ℕ → List ℕ
u8 n = to_be_bytes w64 n

abbrev pub IsU2 : ℕ → Type 0
IsU2 n = n < 2 ^ 16

abbrev pub IsU4 : ℕ → Type 0
IsU4 n = n < 2 ^ 32

abbrev pub IsU8 : ℕ → Type 0
IsU8 n = n < 2 ^ 64

-- each of these bytes is one
abbrev pub AreBytes : List ℕ → Type 0
AreBytes bytes = AllByRecursion (λ b. b < 256) bytes

-- ---- Attributes (4.7): the name's index, the body's length in four bytes, and the body.

abbrev pub attribute_bytes : Attribute → List ℕ
attribute_bytes a = u2 a.name ++ u4 (length a.body) ++ a.body

abbrev pub IsAttribute : Attribute → Type 0
IsAttribute a = IsU2 a.name × IsU4 (length a.body) × AreBytes a.body

-- a count, and so many attributes
abbrev pub attributes_bytes : List Attribute → List ℕ
attributes_bytes attributes = u2 (length attributes) ++ flat_map attribute_bytes attributes

abbrev pub AreAttributes : List Attribute → Type 0
AreAttributes attributes = IsU2 (length attributes) × AllByRecursion IsAttribute attributes

-- ---- Fields and methods (4.5, 4.6): flags, name, descriptor, attributes.

abbrev pub member_bytes : MemberInfo → List ℕ
member_bytes m = u2 m.flags ++ u2 m.name ++ u2 m.descriptor ++ attributes_bytes m.attributes

abbrev pub IsMember : MemberInfo → Type 0
IsMember m = IsU2 m.flags × IsU2 m.name × IsU2 m.descriptor × AreAttributes m.attributes

abbrev pub members_bytes : List MemberInfo → List ℕ
members_bytes members = u2 (length members) ++ flat_map member_bytes members

abbrev pub AreMembers : List MemberInfo → Type 0
AreMembers members = IsU2 (length members) × AllByRecursion IsMember members

-- ---- Interfaces: a count, and so many pool indices.

abbrev pub interfaces_bytes : List ℕ → List ℕ
interfaces_bytes indices = u2 (length indices) ++ flat_map u2 indices

abbrev pub AreInterfaces : List ℕ → Type 0
AreInterfaces indices = IsU2 (length indices) × AllByRecursion IsU2 indices

-- ---- The constant pool (4.4): a tag, and what belongs to it. Index 0, and the index after a Long
-- or Double, have no bytes.

abbrev pub entry_bytes : PoolEntry → List ℕ
entry_bytes Unusable = []
entry_bytes (Utf8 text) = 1 ∷ u2 (length text) ++ text
entry_bytes (Integer n) = 3 ∷ u4 n
entry_bytes (Float n) = 4 ∷ u4 n
entry_bytes (Long n) = 5 ∷ u8 n
entry_bytes (Double n) = 6 ∷ u8 n
entry_bytes (Class name) = 7 ∷ u2 name
entry_bytes (Str text) = 8 ∷ u2 text
entry_bytes (FieldRef class pair) = 9 ∷ u2 class ++ u2 pair
entry_bytes (MethodRef class pair) = 10 ∷ u2 class ++ u2 pair
entry_bytes (InterfaceMethodRef class pair) = 11 ∷ u2 class ++ u2 pair
entry_bytes (NameAndType name descriptor) = 12 ∷ u2 name ++ u2 descriptor

abbrev pub IsEntry : PoolEntry → Type 0
IsEntry Unusable = ⊤
IsEntry (Utf8 text) = IsU2 (length text) × AreBytes text
IsEntry (Integer n) = IsU4 n
IsEntry (Float n) = IsU4 n
IsEntry (Long n) = IsU8 n
IsEntry (Double n) = IsU8 n
IsEntry (Class name) = IsU2 name
IsEntry (Str text) = IsU2 text
IsEntry (FieldRef class pair) = IsU2 class × IsU2 pair
IsEntry (MethodRef class pair) = IsU2 class × IsU2 pair
IsEntry (InterfaceMethodRef class pair) = IsU2 class × IsU2 pair
IsEntry (NameAndType name descriptor) = IsU2 name × IsU2 descriptor

-- an unusable index stands first here, and then entries as they may follow one another
abbrev pub BeginsUnusable : (List PoolEntry → Type 0) → List PoolEntry → Type 0
BeginsUnusable P [] = ⊥
BeginsUnusable P (Unusable ∷ rest) = P rest
BeginsUnusable P (_ ∷ rest) = ⊥

-- The index after a Long or Double is Unusable, and no other of these is.
abbrev pub AreSlots : List PoolEntry → Type 0
AreSlots [] = ⊤
AreSlots (Unusable ∷ rest) = ⊥
AreSlots (Long n ∷ []) = ⊥
AreSlots (Long n ∷ Unusable ∷ rest) = AreSlots rest
AreSlots (Long n ∷ _ ∷ rest) = ⊥
AreSlots (Double n ∷ []) = ⊥
AreSlots (Double n ∷ Unusable ∷ rest) = AreSlots rest
AreSlots (Double n ∷ _ ∷ rest) = ⊥
AreSlots (_ ∷ rest) = AreSlots rest

-- index 0 is Unusable, and the rest are slots
abbrev pub IsPool : List PoolEntry → Type 0
IsPool pool = BeginsUnusable AreSlots pool × IsU2 (length pool) × AllByRecursion IsEntry pool

abbrev pub pool_bytes : List PoolEntry → List ℕ
pool_bytes pool = u2 (length pool) ++ flat_map entry_bytes pool

-- ---- The whole file (4.1).

abbrev pub class_bytes : ClassFile → List ℕ
class_bytes c =
    u4 0xCAFEBABE ++ u2 c.minor ++ u2 c.major ++ pool_bytes c.pool
    ++ u2 c.flags ++ u2 c.this_class ++ u2 c.super_class ++ interfaces_bytes c.interfaces
    ++ members_bytes c.fields ++ members_bytes c.methods ++ attributes_bytes c.attributes

-- The bytes are laid out as this class file.
pub record Layout (bytes : List ℕ) (c : ClassFile) : Type 0 where
  pub sections : bytes ≡ class_bytes c
  pub version : IsU2 c.minor × IsU2 c.major
  pub pool : IsPool c.pool
  pub header : IsU2 c.flags × IsU2 c.this_class × IsU2 c.super_class
  pub interfaces : AreInterfaces c.interfaces
  pub fields : AreMembers c.fields
  pub methods : AreMembers c.methods
  pub attributes : AreAttributes c.attributes

-- ---- The version: from 45.3 to 50.0, as a pair.

abbrev pub IsVersion : ℕ → ℕ → Type 0
IsVersion major minor =
    ((45 < major) ⊎ ((major ≡ 45) × (3 ≤ minor))) × ((major < 50) ⊎ ((major ≡ 50) × (minor ≡ 0)))

-- ---- What the entries of a pool name.

abbrev pub IsUtf8Entry : PoolEntry → Type 0
IsUtf8Entry (Utf8 text) = ⊤
IsUtf8Entry _ = ⊥

abbrev pub IsClassEntry : PoolEntry → Type 0
IsClassEntry (Class name) = ⊤
IsClassEntry _ = ⊥

abbrev pub IsPairEntry : PoolEntry → Type 0
IsPairEntry (NameAndType name descriptor) = ⊤
IsPairEntry _ = ⊥

-- the entry at an index is there, and of this kind
abbrev pub NamesEntry : (PoolEntry → Type 0) → List PoolEntry → ℕ → Type 0
NamesEntry kind pool i = (e : PoolEntry) × (slice_get pool i ≡ Some e) × kind e

-- The texts of an entry are modified UTF-8, and what it names is of the kind that it needs.
abbrev pub IsGoodEntry : List PoolEntry → PoolEntry → Type 0
IsGoodEntry pool (Utf8 text) = IsModifiedUtf8 text
IsGoodEntry pool (Class name) = NamesEntry IsUtf8Entry pool name
IsGoodEntry pool (Str text) = NamesEntry IsUtf8Entry pool text
IsGoodEntry pool (FieldRef class pair) = NamesEntry IsClassEntry pool class × NamesEntry IsPairEntry pool pair
IsGoodEntry pool (MethodRef class pair) = NamesEntry IsClassEntry pool class × NamesEntry IsPairEntry pool pair
IsGoodEntry pool (InterfaceMethodRef class pair) = NamesEntry IsClassEntry pool class × NamesEntry IsPairEntry pool pair
IsGoodEntry pool (NameAndType name descriptor) = NamesEntry IsUtf8Entry pool name × NamesEntry IsUtf8Entry pool descriptor
IsGoodEntry pool _ = ⊤

-- The bytes are this class file: its layout, an accepted version, and a pool whose entries are good.
pub record IsClass (bytes : List ℕ) (c : ClassFile) : Type 0 where
  pub layout : Layout bytes c
  pub version : IsVersion c.major c.minor
  pub entries : AllByRecursion (IsGoodEntry c.pool) c.pool

-- ---- The body of a Code attribute (4.7.3). The code has 1 to 65,535 bytes.

abbrev pub handler_bytes : Handler → List ℕ
handler_bytes h = u2 h.start ++ u2 h.end ++ u2 h.handler ++ u2 h.catch

abbrev pub IsHandler : Handler → Type 0
IsHandler h = IsU2 h.start × IsU2 h.end × IsU2 h.handler × IsU2 h.catch

abbrev pub handlers_bytes : List Handler → List ℕ
handlers_bytes handlers = u2 (length handlers) ++ flat_map handler_bytes handlers

abbrev pub code_bytes : Code → List ℕ
code_bytes c =
    u2 c.max_stack ++ u2 c.max_locals ++ u4 (length c.code) ++ c.code
    ++ handlers_bytes c.handlers ++ attributes_bytes c.attributes

-- The bytes are the body of this Code attribute.
pub record CodeLayout (bytes : List ℕ) (c : Code) : Type 0 where
  pub sections : bytes ≡ code_bytes c
  pub limits : IsU2 c.max_stack × IsU2 c.max_locals
  pub code : (0 < length c.code) × (length c.code < 2 ^ 16) × AreBytes c.code
  pub handlers : IsU2 (length c.handlers) × AllByRecursion IsHandler c.handlers
  pub attributes : AreAttributes c.attributes

-- The body ends early: before the length of its code ends, or where more bytes would make it the body
-- of a Code attribute.
abbrev pub IsCutCode : List ℕ → Type 0
IsCutCode bytes =
    (length bytes < 8) ⊎ ((c : Code) × (more : List ℕ) × (more ≢ []) × CodeLayout (bytes ++ more) c)

-- Bytes follow the body of a Code attribute, from place n on.
abbrev pub TrailsCode : List ℕ → ℕ → Type 0
TrailsCode bytes n = (c : Code) × (n < length bytes) × CodeLayout (take n bytes) c

-- The length that stands for the code's is 0, or above 65,535.
abbrev pub HasBadCodeLength : List ℕ → ℕ → Type 0
HasBadCodeLength bytes n =
    (front : List ℕ) × (more : List ℕ) × (length front ≡ 4) × IsU4 n
    × (bytes ≡ front ++ u4 n ++ more) × ((n ≡ 0) ⊎ (2 ^ 16 ≤ n))
