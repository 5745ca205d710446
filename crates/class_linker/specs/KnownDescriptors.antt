-- The descriptors of a pool, and those of them that were read.
use Rattle.std.specs.Prelude.{◌≡◌, ℕ, List, length, Option, Some, slice_get}
use Rattle.jk_model.specs.declared.class_file.PoolEntry.{PoolEntry}
use Rattle.jk_model_classes.specs.declared.records.TypeRef.{TypeRef}
use Rattle.jk_model_classes.specs.Members.{TextAt}
use Rattle.class_linker.specs.declared.types.MethodKind.{MethodKind}
use Rattle.class_linker.specs.KnownTypes.{Meaning, IsFieldOf, IsKindOf, IsMethodOf, IsTypeOf}

-- there can't but be a text at this index
abbrev pub HasSomeText : List PoolEntry → ℕ → Type 0
HasSomeText pool i = ((units : List ℕ) → TextAt pool i units → ⊥) → ⊥

-- and it is a known descriptor of a field
pub record IsFieldAt (meaning : Meaning) (pool : List PoolEntry) (i : ℕ) : Type 0 where
  pub there : HasSomeText pool i
  pub is : (units : List ℕ) → TextAt pool i units → IsFieldOf meaning units

-- the same of a method
pub record IsMethodAt (meaning : Meaning) (pool : List PoolEntry) (i : ℕ) : Type 0 where
  pub there : HasSomeText pool i
  pub is : (units : List ℕ) → TextAt pool i units → IsMethodOf meaning units

-- the type is that of the descriptor at this index
abbrev pub IsTypeAt : Meaning → List PoolEntry → ℕ → TypeRef → Type 0
IsTypeAt meaning pool i ref = (units : List ℕ) × TextAt pool i units × IsTypeOf meaning units ref

abbrev pub IsKindAt : Meaning → List PoolEntry → ℕ → MethodKind → Type 0
IsKindAt meaning pool i k = (units : List ℕ) × TextAt pool i units × IsKindOf meaning units k

-- the types that were read so far, each at the index of its descriptor
pub record AreTypesKnown (meaning : Meaning) (pool : List PoolEntry) (known : List (Option TypeRef)) : Type 0 where
  pub long : length known ≡ length pool
  pub each : (i : ℕ) (ref : TypeRef) → slice_get known i ≡ Some (Some ref) → IsTypeAt meaning pool i ref

pub record AreKindsKnown (meaning : Meaning) (pool : List PoolEntry) (known : List (Option MethodKind)) : Type 0 where
  pub long : length known ≡ length pool
  pub each : (i : ℕ) (k : MethodKind) → slice_get known i ≡ Some (Some k) → IsKindAt meaning pool i k
