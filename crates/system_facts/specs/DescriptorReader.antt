-- A reader of descriptors, unit by unit, which gives types with the numbers of system classes. A descriptor that isn't of the form, or
-- names what is no system class, isn't read. Characters stand as their numbers: 40 and 41 are the parentheses, 59 is `;`, 76 is `L`, 86
-- is `V`, 91 is `[`.
use Rattle.std.specs.Prelude.{◌≡◌, ℕ, zero, suc, ◌==◌, Bool, false, List, [], ◌∷◌, ◌++◌, Option, Some, None, option_map, option_and_then, codes, if◌then◌else◌}
use Rattle.jk_model.specs.declared.descriptors.Base.{Base}
use Rattle.jk_model.specs.declared.descriptors.Base.TheVariants as Said
use Rattle.jk_model.specs.declared.descriptors.FieldType.{FieldType}
use Rattle.jk_model.specs.declared.descriptors.MethodType.{MethodType}
use Rattle.jk_model.specs.declared.identifiers.ClassId.{ClassId}
use Rattle.jk_model_classes.specs.declared.records.BaseRef.{BaseRef}
use Rattle.jk_model_classes.specs.declared.records.BaseRef.TheVariants as Meant
use Rattle.jk_model_classes.specs.declared.records.TypeRef.{TypeRef}
use Rattle.jk_model_classes.specs.SystemRecords.{system_meaning}

-- ---- Types with names.

-- where a reader stands: before a type of so many dimensions, or in a class's name, of which this was read
pub data Reading : Type 0 where
  Before : ℕ → Reading
  InName : ℕ → List ℕ → Reading

-- types up to a `)`, and what comes after it
pub record Read : Type 0 where
  pub types : List FieldType
  pub rest : List ℕ

-- what one unit makes of it: the end of the types, another place, a whole type, or no descriptor
pub data Turn : Type 0 where
  Ends : Turn
  Goes : Reading → Turn
  Adds : ℕ → Base → Turn
  Fails : Turn

abbrev pub letter_said : ℕ → Option Base
letter_said u =
    if u == 66 then Some Said.Byte else
    if u == 67 then Some Said.Char else
    if u == 68 then Some Said.Double else
    if u == 70 then Some Said.Float else
    if u == 73 then Some Said.Int else
    if u == 74 then Some Said.Long else
    if u == 83 then Some Said.Short else
    if u == 90 then Some Said.Bool else None

abbrev pub added : ℕ → Option Base → Turn
added dims None = Fails
added dims (Some base) = Adds dims base

abbrev pub ended : ℕ → Turn
ended zero = Ends
ended (suc dims) = Fails

abbrev pub turn : Reading → ℕ → Turn
turn (Before dims) u =
    if u == 41 then ended dims else
    if u == 91 then Goes (Before (suc dims)) else
    if u == 76 then Goes (InName dims []) else added dims (letter_said u)
turn (InName dims name) u = if u == 59 then Adds dims (Said.Class name) else Goes (InName dims (name ++ u ∷ []))

-- one type more in front
abbrev pub with_type : ℕ → Base → Option Read → Option Read
with_type dims base o = option_map (λ (r : Read). record { types = record { dims = dims; base = base } ∷ r.types; rest = r.rest }) o

abbrev pub read_types : Reading → List ℕ → Option Read
read_types reading [] = None
read_types reading (u ∷ units) = elim (turn reading u) as (λ _. Option Read) [
  | Ends ↦ Some (record { types = []; rest = units })
  | Goes on ↦ read_types on units
  | Adds dims base ↦ with_type dims base (read_types (Before 0) units)
  | Fails ↦ None
]

abbrev pub one_of : List FieldType → List ℕ → Option FieldType
one_of (t ∷ []) [] = Some t
one_of types rest = None

-- the type, where one was read and nothing is left
abbrev pub one_type : Option Read → Option FieldType
one_type None = None
one_type (Some r) = one_of r.types r.rest

abbrev pub read_field : List ℕ → Option FieldType
read_field units = one_type (read_types (Before 0) (units ++ 41 ∷ []))

-- `V` alone
abbrev pub says_nothing : List ℕ → Bool
says_nothing (u ∷ []) = u == 86
says_nothing units = false

abbrev pub read_result : List ℕ → Option (Option FieldType)
read_result units = if says_nothing units then Some None else option_map (λ (t : FieldType). Some t) (read_field units)

abbrev pub method_from : Option Read → Option MethodType
method_from None = None
method_from (Some r) = option_map (λ (result : Option FieldType). record { params = r.types; result = result }) (read_result r.rest)

abbrev pub read_method : List ℕ → Option MethodType
read_method [] = None
read_method (u ∷ units) = if u == 40 then method_from (read_types (Before 0) units) else None

-- ---- Types with the numbers of system classes.

abbrev pub base_meant : Base → Option BaseRef
base_meant Said.Byte = Some Meant.Byte
base_meant Said.Char = Some Meant.Char
base_meant Said.Int = Some Meant.Int
base_meant Said.Long = Some Meant.Long
base_meant Said.Short = Some Meant.Short
base_meant Said.Bool = Some Meant.Bool
base_meant (Said.Class name) = option_map (λ (c : ClassId). Meant.Class c) (system_meaning name)
base_meant _ = None

abbrev pub type_meant : FieldType → Option TypeRef
type_meant t = option_map (λ (base : BaseRef). record { dims = t.dims; base = base }) (base_meant t.base)

-- each in turn
abbrev pub types_meant : List FieldType → Option (List TypeRef)
types_meant [] = Some []
types_meant (t ∷ types) =
    option_and_then (λ (first : TypeRef). option_map (λ (others : List TypeRef). first ∷ others) (types_meant types)) (type_meant t)

abbrev pub result_meant : Option FieldType → Option (Option TypeRef)
result_meant None = Some None
result_meant (Some t) = option_map (λ (ref : TypeRef). Some ref) (type_meant t)

-- ---- What a descriptor says.

-- the type of a field
abbrev pub field_kind : List ℕ → Option TypeRef
field_kind units = option_and_then type_meant (read_field units)

-- what a method takes and answers
pub record MethodTypes : Type 0 where
  pub params : List TypeRef
  pub result : Option TypeRef

abbrev pub types_of : MethodType → Option MethodTypes
types_of m =
    option_and_then
    (λ (params : List TypeRef). option_map (λ (result : Option TypeRef). record { params = params; result = result }) (result_meant m.result))
    (types_meant m.params)

abbrev pub method_types : List ℕ → Option MethodTypes
method_types units = option_and_then types_of (read_method units)

abbrev number : BaseRef → TypeRef
number base = record { dims = 0; base = base }

-- as of `substring`, which takes two whole numbers and answers a text
abbrev pub IsExample : Type 0
IsExample =
    method_types (codes "(II)Ljava/lang/String;")
    ≡ Some (record {
      params = number Meant.Int ∷ number Meant.Int ∷ [];
      result = Some (record { dims = 0; base = Meant.Class (record { 0 = 3 }) });
    })
