-- References, as many rows meet them: arrays, and null or an instance of a type.
use Rattle.std.specs.Prelude.{◌≡◌, ℕ, ◌⊎◌, List, Some}
use Rattle.jk_model.specs.declared.values.Value.{Value}
use Rattle.jk_model.specs.declared.values.Value.TheVariants as Held
use Rattle.jk_model_classes.specs.declared.records.TypeRef.{TypeRef}
use Rattle.jk_model_domains.specs.Objects.{NamedObject, Array, object_named}
use Rattle.jk_model_heaps.specs.Instances.{IsInstance}
use Rattle.jk_model_heaps.specs.Workings.{Setting}

-- the value is an array of the heap
pub record IsHeapArray (heap : List NamedObject) (v : Value) : Type 0 where
  pub name : ℕ
  pub refers : v ≡ Held.Obj name
  pub element : TypeRef
  pub items : List Value
  pub object : object_named heap name ≡ Some (Array element items)

-- what may be cast to the type, and be stored in an array of such elements
abbrev pub IsNullOrInstance : Setting → List NamedObject → Value → TypeRef → Type 0
IsNullOrInstance x heap v t = (v ≡ Held.Null) ⊎ IsInstance x.classes x.caps heap v t
