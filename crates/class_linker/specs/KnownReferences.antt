-- The numbers of classes to which a class file refers, as they are gathered.
use Rattle.std.specs.Prelude.{◌≡◌, ◌≢◌, ◌<◌, ◌⊎◌, ◌↔◌, ℕ, Bool, true, List, length, Some, IsSome, Contains, slice_get}
use Rattle.jk_model.specs.declared.class_file.ClassFile.{ClassFile}
use Rattle.jk_model.specs.declared.class_file.PoolEntry.{PoolEntry}
use Rattle.jk_model.specs.declared.class_file.PoolEntry.TheVariants.{Class}
use Rattle.jk_model.specs.declared.descriptors.FieldType.{FieldType}
use Rattle.jk_model.specs.declared.identifiers.ClassId.{ClassId}
use Rattle.jk_model.specs.Descriptors.{IsClassName, IsFieldText}
use Rattle.jk_model_classes.specs.ClassNames.{IsClassEntryName}
use Rattle.jk_model_classes.specs.Items.{HasItem}
use Rattle.jk_model_classes.specs.Members.{TextAt}
use Rattle.jk_model_classes.specs.References.{IsDescriptorEntry, IsOfClass, Mentions}
use Rattle.class_linker.specs.KnownTypes.{Meaning}

-- ---- Which texts are names of Class entries, and which are descriptors.

-- just the entries of a pool that are so are marked
pub record AreMarked (IsSo : ℕ → Type 0) (pool : List PoolEntry) (marks : List Bool) : Type 0 where
  pub as_many : length marks ≡ length pool
  pub at : (i : ℕ) → i < length pool → (slice_get marks i ≡ Some true) ↔ IsSo i

-- a Class entry has its name at this index
abbrev pub IsNameEntry : List PoolEntry → ℕ → Type 0
IsNameEntry pool i = HasItem (λ (e : PoolEntry). e ≡ Class i) pool

-- ---- The classes to which a file refers by one of its texts.

-- the name of a Class entry says this class, or arrays of it
abbrev pub IsNamedBy : List ℕ → List ℕ → Type 0
IsNamedBy units name = (IsClassName units × (name ≡ units)) ⊎ ((t : FieldType) × IsFieldText units t × (t.dims ≢ 0) × IsOfClass name t)

-- the text at this index is the name of a Class entry, or a descriptor, and says this class
abbrev pub RefersBy : ClassFile → ℕ → List ℕ → Type 0
RefersBy c i name =
    (units : List ℕ) × TextAt c.pool i units × ((IsNameEntry c.pool i × IsNamedBy units name) ⊎ (IsDescriptorEntry c i × Mentions units name))

-- each of these names means a class
abbrev pub AreKnown : Meaning → (List ℕ → Type 0) → Type 0
AreKnown meaning Named = (name : List ℕ) → Named name → IsSome (meaning name)

-- the units are the name of a Class entry of a file that breaks no rule
pub record IsGoodName (meaning : Meaning) (units : List ℕ) : Type 0 where
  pub form : (IsClassEntryName units → ⊥) → ⊥
  pub known : AreKnown meaning (IsNamedBy units)

-- ---- The numbers of classes.

-- the numbers of the classes of these names are added
pub record Adds (meaning : Meaning) (Named : List ℕ → Type 0) (before after : List ℕ) : Type 0 where
  pub kept : (n : ℕ) → Contains before n → Contains after n
  pub each : (n : ℕ) → Contains after n → Contains before n ⊎ ((name : List ℕ) × Named name × (meaning name ≡ Some (record { 0 = n })))
  pub all : (name : List ℕ) (class : ClassId) → Named name → meaning name ≡ Some class → Contains after class.0
