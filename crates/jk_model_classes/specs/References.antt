-- The classes that a class file refers to, and what is known of them by their names: C18, a class that the domain's names
-- don't have, and C19, what a class may not extend or list.
use Rattle.std.specs.Prelude.{◌≡◌, ◌≢◌, ℕ, ◌⊎◌, true, not, IsTrue, List, ◌∷◌, [], ◌++◌, Contains, Option, Some, None, slice_get, codes}
use Rattle.jk_model.specs.declared.class_file.ClassFile.{ClassFile}
use Rattle.jk_model.specs.declared.class_file.PoolEntry.{PoolEntry}
use Rattle.jk_model.specs.declared.class_file.PoolEntry.TheVariants.{NameAndType}
use Rattle.jk_model.specs.declared.class_file.MemberInfo.{MemberInfo}
use Rattle.jk_model.specs.declared.descriptors.Base.TheVariants.{Class}
use Rattle.jk_model.specs.declared.descriptors.FieldType.{FieldType}
use Rattle.jk_model.specs.declared.descriptors.MethodType.{MethodType}
use Rattle.jk_model.specs.declared.identifiers.ClassId.{ClassId}
use Rattle.jk_model.specs.Descriptors.{IsClassName, IsFieldText, IsMethodText}
use Rattle.jk_model.specs.Flags.{has, FINAL, INTERFACE}
use Rattle.jk_model.specs.SystemTable.{SystemClass, system_classes}
use Rattle.jk_model_classes.specs.declared.records.ClassRecord.{ClassRecord}
use Rattle.jk_model_classes.specs.Classes.{record_of}
use Rattle.jk_model_classes.specs.Items.{HasItem, Spot, Member, Entry}
use Rattle.jk_model_classes.specs.Members.{TextAt, ClassAt}
use Rattle.jk_model_classes.specs.Worlds.{NamedClass, class_named}

-- ---- The names of classes in a class file.

-- the type is of this class, or of arrays of it
abbrev pub IsOfClass : List ℕ → FieldType → Type 0
IsOfClass name t = t.base ≡ Class name

abbrev pub IsResultOfClass : List ℕ → Option FieldType → Type 0
IsResultOfClass name result = (t : FieldType) × (result ≡ Some t) × IsOfClass name t

-- a descriptor, of a field or of a method, has this class in it; what is neither has none
abbrev pub Mentions : List ℕ → List ℕ → Type 0
Mentions descriptor name =
    ((t : FieldType) × IsFieldText descriptor t × IsOfClass name t)
    ⊎ ((m : MethodType) × IsMethodText descriptor m × (HasItem (IsOfClass name) m.params ⊎ IsResultOfClass name m.result))

-- a Class entry stands at this index, of the class or of arrays of it
abbrev pub ClassEntryAt : List PoolEntry → ℕ → List ℕ → Type 0
ClassEntryAt pool i name =
    (units : List ℕ) × ClassAt pool i units
    × ((IsClassName units × (name ≡ units)) ⊎ ((t : FieldType) × IsFieldText units t × (t.dims ≢ 0) × IsOfClass name t))

-- the entry at this index is the descriptor of a member or of a NameAndType
abbrev pub IsDescriptorEntry : ClassFile → ℕ → Type 0
IsDescriptorEntry c i =
    HasItem (λ (m : MemberInfo). m.descriptor ≡ i) c.fields
    ⊎ HasItem (λ (m : MemberInfo). m.descriptor ≡ i) c.methods
    ⊎ HasItem (λ (e : PoolEntry). (name : ℕ) × (e ≡ NameAndType name i)) c.pool

-- The class file refers to the class of this name by its entry at this index: a Class entry, or a descriptor.
abbrev pub RefersAt : ClassFile → ℕ → List ℕ → Type 0
RefersAt c i name =
    ClassEntryAt c.pool i name
    ⊎ ((descriptor : List ℕ) × IsDescriptorEntry c i × TextAt c.pool i descriptor × Mentions descriptor name)

-- ---- What a class file's class is called, and what stands above it in the folder.

abbrev pub IsCalledClass : ClassFile → List ℕ → Type 0
IsCalledClass c name = ClassAt c.pool c.this_class name

abbrev pub HasParentNamed : ClassFile → List ℕ → Type 0
HasParentNamed c name = ClassAt c.pool c.super_class name

abbrev pub ListsNamed : ClassFile → List ℕ → Type 0
ListsNamed c name = HasItem (λ i. ClassAt c.pool i name) c.interfaces

-- a class file of the folder is of class a, whose parent or interface is b
abbrev pub StepsUp : List ClassFile → List ℕ → List ℕ → Type 0
StepsUp files a b = HasItem (λ (c : ClassFile). IsCalledClass c a × (HasParentNamed c b ⊎ ListsNamed c b)) files

-- b stands above a, on a path through class files of the folder
pub data StandsOver (files : List ClassFile) : List ℕ → List ℕ → Type 0 where
  next : (a b : List ℕ) → StepsUp files a b → StandsOver files a b
  higher : (a b c : List ℕ) → StepsUp files a b → StandsOver files b c → StandsOver files a c

-- A folder's class files, what the domain's other names mean (those of system classes and imports), and all classes that
-- are loaded.
pub record FolderScope : Type 0 where
  pub files : List ClassFile
  pub names : List NamedClass
  pub classes : List ClassRecord

-- ---- C18: a class that it refers to is neither one of the folder nor has another meaning.

abbrev pub IsKnownName : FolderScope → List ℕ → Type 0
IsKnownName s name =
    HasItem (λ (c : ClassFile). IsCalledClass c name) s.files ⊎ ((class : ClassId) × (class_named s.names name ≡ Some class))

abbrev pub MissesClass : FolderScope → ClassFile → Spot → Type 0
MissesClass s c (Member n) = ⊥
MissesClass s c (Entry i) = (name : List ℕ) × RefersAt c i name × (IsKnownName s name → ⊥)

-- ---- C19.

-- the flags of the class that a name means: one of the folder, or else one that is loaded
abbrev pub FlagsOfNamed : FolderScope → List ℕ → ℕ → Type 0
FlagsOfNamed s name flags =
    HasItem (λ (c : ClassFile). IsCalledClass c name × (flags ≡ c.flags)) s.files
    ⊎ ((HasItem (λ (c : ClassFile). IsCalledClass c name) s.files → ⊥)
    × ((c : ClassId) × (r : ClassRecord) × (class_named s.names name ≡ Some c) × (record_of s.classes c ≡ Some r) × (flags ≡ r.flags)))

-- a closed class of the system, whose names no class of a folder has
abbrev pub IsClosedNamed : List ℕ → Type 0
IsClosedNamed name = HasItem (λ (e : SystemClass). (e.name ≡ name) × (e.closed ≡ true)) system_classes

abbrev pub HasBadParent : FolderScope → ClassFile → Type 0
HasBadParent s c =
    (name : List ℕ) × HasParentNamed c name
    × (IsClosedNamed name
    ⊎ ((flags : ℕ) × FlagsOfNamed s name flags × (IsTrue (has flags INTERFACE) ⊎ IsTrue (has flags FINAL)))
    ⊎ (IsTrue (has c.flags INTERFACE) × (name ≢ codes "java/lang/Object")))

abbrev pub HasBadInterface : FolderScope → ClassFile → Type 0
HasBadInterface s c =
    (name : List ℕ) × (flags : ℕ) × ListsNamed c name × FlagsOfNamed s name flags × IsTrue (not (has flags INTERFACE))

abbrev pub HasBadHierarchy : FolderScope → ClassFile → Spot → Type 0
HasBadHierarchy s c (Member n) =
    (n ≡ 0)
    × (((name : List ℕ) × IsCalledClass c name × StandsOver s.files name name) ⊎ HasBadParent s c ⊎ HasBadInterface s c)
HasBadHierarchy s c (Entry i) = ⊥
