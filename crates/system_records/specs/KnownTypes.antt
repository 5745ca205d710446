-- Types that records have: those without float and double whose classes are classes of the table.
use Rattle.std.specs.Prelude.{◌<◌, ◌^◌, ℕ, List, ⊤, length, Option, Some, None, IsSome}
use Rattle.std.specs.List.{AllByRecursion}
use Rattle.jk_model.specs.declared.descriptors.Base.{Base}
use Rattle.jk_model.specs.declared.descriptors.Base.TheVariants.{Double, Float, Class}
use Rattle.jk_model.specs.declared.descriptors.FieldType.{FieldType}
use Rattle.jk_model.specs.declared.descriptors.MethodType.{MethodType}
use Rattle.jk_model.specs.Descriptors.{IsFieldText, IsMethodText}
use Rattle.jk_model.specs.declared.identifiers.ClassId.{ClassId}
use Rattle.jk_model_classes.specs.SystemRecords.{system_meaning}

-- the system class of a name
unfoldable pub class_called : List ℕ → Option ClassId
class_called name = system_meaning name

abbrev pub IsKnownBase : Base → Type 0
IsKnownBase Double = ⊥
IsKnownBase Float = ⊥
IsKnownBase (Class name) = IsSome (class_called name)
IsKnownBase _ = ⊤

abbrev pub IsKnownType : FieldType → Type 0
IsKnownType t = IsKnownBase t.base

abbrev pub AreKnownTypes : List FieldType → Type 0
AreKnownTypes types = AllByRecursion IsKnownType types

abbrev pub IsKnownResult : Option FieldType → Type 0
IsKnownResult None = ⊤
IsKnownResult (Some t) = IsKnownType t

-- the units are the descriptor of a field of such a type
pub record IsKnownField (units : List ℕ) : Type 0 where
  pub short : length units < 2 ^ 31
  pub type : FieldType
  pub text : IsFieldText units type
  pub known : IsKnownType type

-- the units are the descriptor of a method of such types
pub record IsKnownMethod (units : List ℕ) : Type 0 where
  pub short : length units < 2 ^ 31
  pub type : MethodType
  pub text : IsMethodText units type
  pub params : AreKnownTypes type.params
  pub result : IsKnownResult type.result
