-- Types whose classes' names mean something, and descriptors of them.
use Rattle.std.specs.Prelude.{◌<◌, ◌^◌, ℕ, List, ⊤, length, Option, Some, None, IsSome}
use Rattle.std.specs.List.{AllByRecursion}
use Rattle.jk_model.specs.declared.descriptors.Base.{Base}
use Rattle.jk_model.specs.declared.descriptors.Base.TheVariants.{Double, Float, Class}
use Rattle.jk_model.specs.declared.descriptors.FieldType.{FieldType}
use Rattle.jk_model.specs.declared.descriptors.MethodType.{MethodType}
use Rattle.jk_model.specs.declared.identifiers.ClassId.{ClassId}
use Rattle.jk_model.specs.Descriptors.{IsFieldText, IsMethodText}
use Rattle.jk_model_classes.specs.declared.records.TypeRef.{TypeRef}
use Rattle.jk_model_classes.specs.SystemRecords.{AreTypesFor, IsResultFor, IsTypeFor}
use Rattle.class_linker.specs.declared.types.MethodKind.{MethodKind}

abbrev pub Meaning : Type 0
Meaning = List ℕ → Option ClassId

-- ---- Types.

-- it is neither float nor double, and the name of its class means one
abbrev pub IsKnownBase : Meaning → Base → Type 0
IsKnownBase meaning Double = ⊥
IsKnownBase meaning Float = ⊥
IsKnownBase meaning (Class name) = IsSome (meaning name)
IsKnownBase meaning _ = ⊤

abbrev pub IsKnownType : Meaning → FieldType → Type 0
IsKnownType meaning t = IsKnownBase meaning t.base

abbrev pub AreKnownTypes : Meaning → List FieldType → Type 0
AreKnownTypes meaning types = AllByRecursion (IsKnownType meaning) types

abbrev pub IsKnownResult : Meaning → Option FieldType → Type 0
IsKnownResult meaning None = ⊤
IsKnownResult meaning (Some t) = IsKnownType meaning t

pub record IsKnownKind (meaning : Meaning) (m : MethodType) : Type 0 where
  pub params : AreKnownTypes meaning m.params
  pub returns : IsKnownResult meaning m.result

-- ---- Descriptors.

-- the units can't but be a descriptor of a field, and its type is known
pub record IsFieldOf (meaning : Meaning) (units : List ℕ) : Type 0 where
  pub short : length units < 2 ^ 31
  pub some : ((t : FieldType) → IsFieldText units t → ⊥) → ⊥
  pub known : (t : FieldType) → IsFieldText units t → IsKnownType meaning t

-- the same of a method
pub record IsMethodOf (meaning : Meaning) (units : List ℕ) : Type 0 where
  pub short : length units < 2 ^ 31
  pub some : ((m : MethodType) → IsMethodText units m → ⊥) → ⊥
  pub known : (m : MethodType) → IsMethodText units m → IsKnownKind meaning m

-- the type is that of the field's descriptor
abbrev pub IsTypeOf : Meaning → List ℕ → TypeRef → Type 0
IsTypeOf meaning units ref = (t : FieldType) × IsFieldText units t × IsTypeFor meaning t ref

-- the types are those of the method's descriptor
pub record IsKindOf (meaning : Meaning) (units : List ℕ) (k : MethodKind) : Type 0 where
  pub text : IsMethodText units k.kind
  pub params : AreTypesFor meaning k.kind.params k.params
  pub returns : IsResultFor meaning k.kind.result k.returns
