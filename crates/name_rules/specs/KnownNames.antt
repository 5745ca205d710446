-- Names that have no meaning, among those that a class file says.
use Rattle.std.specs.Prelude.{◌≡◌, ◌≢◌, ℕ, ◌<◌, ◌⊎◌, ◌↔◌, Bool, List, length, None}
use Rattle.jk_model.specs.declared.class_file.PoolEntry.{PoolEntry}
use Rattle.jk_model.specs.declared.class_file.PoolEntry.TheVariants.{Class}
use Rattle.jk_model.specs.declared.descriptors.FieldType.{FieldType}
use Rattle.jk_model.specs.Descriptors.{IsClassName, IsFieldText}
use Rattle.jk_model_classes.specs.Items.{HasItem}
use Rattle.jk_model_classes.specs.Members.{TextAt}
use Rattle.jk_model_classes.specs.References.{IsOfClass, Mentions}
use Rattle.jk_model_classes.specs.Worlds.{class_named}
use Rattle.name_rules.specs.declared.names.Names.{Names}
use Rattle.name_rules.specs.Marks.{IsMarked}

abbrev pub Lacks : Names → List ℕ → Type 0
Lacks x name = (class_named x.own.now name ≡ None) × (class_named x.outer.now name ≡ None)

-- one of these names has no meaning
abbrev pub LacksOne : Names → (List ℕ → Type 0) → Type 0
LacksOne x IsSaid = (name : List ℕ) × IsSaid name × Lacks x name

-- the name of a Class entry says this class, or arrays of it
abbrev pub IsNamedBy : List ℕ → List ℕ → Type 0
IsNamedBy units name = (IsClassName units × (name ≡ units)) ⊎ ((t : FieldType) × IsFieldText units t × (t.dims ≢ 0) × IsOfClass name t)

-- a Class entry whose name stands at this index says this class
abbrev pub IsSaidBy : List PoolEntry → ℕ → List ℕ → Type 0
IsSaidBy pool n name = (units : List ℕ) × TextAt pool n units × IsNamedBy units name

-- the text at this index is a descriptor that has this class in it
abbrev pub DescriptorSays : List PoolEntry → ℕ → List ℕ → Type 0
DescriptorSays pool i name = (descriptor : List ℕ) × TextAt pool i descriptor × Mentions descriptor name

-- the text at this index is the name of a Class entry
abbrev pub IsEntryName : List PoolEntry → ℕ → Type 0
IsEntryName pool n = HasItem (λ (e : PoolEntry). e ≡ Class n) pool

-- the names of Class entries that say a class without a meaning are marked
pub record AreLacking (x : Names) (pool : List PoolEntry) (marks : List Bool) : Type 0 where
  pub as_many : length marks ≡ length pool
  pub at : (n : ℕ) → n < length pool → IsEntryName pool n → IsMarked marks n ↔ LacksOne x (IsSaidBy pool n)
