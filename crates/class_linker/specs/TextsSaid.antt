-- What the texts of a pool say: the class that a text names, and the type of which it is the descriptor.
use Rattle.std.specs.Prelude.{◌≡◌, ℕ, List, length, Option, Some, None, slice_get}
use Rattle.jk_model.specs.declared.class_file.PoolEntry.{PoolEntry}
use Rattle.jk_model.specs.declared.class_file.PoolEntry.TheVariants.{NameAndType}
use Rattle.jk_model.specs.declared.descriptors.FieldType.{FieldType}
use Rattle.jk_model.specs.declared.descriptors.MethodType.{MethodType}
use Rattle.jk_model.specs.declared.identifiers.ClassId.{ClassId}
use Rattle.jk_model.specs.Descriptors.{IsFieldText, IsMethodText}
use Rattle.jk_model_classes.specs.declared.records.TypeRef.{TypeRef}
use Rattle.jk_model_classes.specs.Members.{ClassAt, TextAt}
use Rattle.jk_model_classes.specs.SystemRecords.{IsTypeFor}
use Rattle.jk_model_classes.specs.Worlds.{NamedClass, class_named}
use Rattle.class_linker.specs.declared.said.Said.{Said}

-- the answer that is so; none where nothing is
abbrev pub Answers : {X : Type 0} → (X → Type 0) → Option X → Type 0
Answers {X} P None = (x : X) → P x → ⊥
Answers {X} P (Some x) = P x

-- ---- A text.

abbrev pub IsFieldTextFor : List NamedClass → List ℕ → TypeRef → Type 0
IsFieldTextFor names units kind = (type : FieldType) × IsFieldText units type × IsTypeFor (class_named names) type kind

pub record IsSaid (names : List NamedClass) (units : List ℕ) (said : Said) : Type 0 where
  pub class : said.class ≡ class_named names units
  pub field : Answers (IsFieldTextFor names units) said.field
  pub method : Answers (IsMethodText units) said.method

-- ---- The text at an index.

-- it is the name of this class
abbrev pub SaysClass : List NamedClass → List PoolEntry → ℕ → ClassId → Type 0
SaysClass names pool i class = (units : List ℕ) × TextAt pool i units × (class_named names units ≡ Some class)

-- it is the descriptor of a field of this type
abbrev pub SaysField : List NamedClass → List PoolEntry → ℕ → TypeRef → Type 0
SaysField names pool i kind = (units : List ℕ) × TextAt pool i units × IsFieldTextFor names units kind

-- it is the descriptor of a method of this type
abbrev pub SaysMethod : List PoolEntry → ℕ → MethodType → Type 0
SaysMethod pool i kind = (units : List ℕ) × TextAt pool i units × IsMethodText units kind

pub record IsSaidAt (names : List NamedClass) (pool : List PoolEntry) (i : ℕ) (said : Said) : Type 0 where
  pub class : Answers (SaysClass names pool i) said.class
  pub field : Answers (SaysField names pool i) said.field
  pub method : Answers (SaysMethod pool i) said.method

-- each item is so at its place
abbrev pub AreAt : {X : Type 0} → (ℕ → X → Type 0) → List X → Type 0
AreAt {X} P items = (i : ℕ) (x : X) → slice_get items i ≡ Some x → P i x

pub record AreSaid (names : List NamedClass) (pool : List PoolEntry) (said : List Said) : Type 0 where
  pub as_many : length said ≡ length pool
  pub each : AreAt (IsSaidAt names pool) said

-- ---- Entries.

-- the Class entry at this index has a name that means this class
abbrev pub NamesClassBy : List NamedClass → List PoolEntry → ℕ → ClassId → Type 0
NamesClassBy names pool i class = (name : List ℕ) × ClassAt pool i name × (class_named names name ≡ Some class)

-- the NameAndType entry at this index has this name, and its descriptor says this
abbrev pub IsPairOf : {X : Type 0} → (ℕ → X → Type 0) → List PoolEntry → ℕ → List ℕ → X → Type 0
IsPairOf {X} Says pool i name kind =
    (n : ℕ) × (d : ℕ) × (slice_get pool i ≡ Some (NameAndType n d)) × TextAt pool n name × Says d kind
