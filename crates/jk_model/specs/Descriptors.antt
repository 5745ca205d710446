-- Descriptors: how the types of fields and methods are written (the Java Virtual Machine
-- Specification, section 4.3). Here stands what is written of a type, and where units stop being what
-- is written of any. Characters stand as their numbers: 40 and 41 are the parentheses, 46 is `.`, 47 is
-- `/`, 59 is `;`, 91 is `[`.
use Rattle.std.specs.Prelude.{◌≡◌, ℕ, ◌+◌, ◌<◌, ◌≤◌, ◌≢◌, ⊤, List, [], ◌∷◌, ◌++◌, length, take, replicate, flat_map, sum_by, Option, Some, None, Bool, true, false, if◌then◌else◌, ◌==◌}
use Rattle.std.specs.List.{AllByRecursion, join_with_byte}
use Rattle.jk_model.specs.declared.descriptors.Base.{Base}
use Rattle.jk_model.specs.declared.descriptors.Base.TheVariants.{Byte, Char, Double, Float, Int, Long, Short, Bool as Boolean, Class}
use Rattle.jk_model.specs.declared.descriptors.FieldType.{FieldType}
use Rattle.jk_model.specs.declared.descriptors.MethodType.{MethodType}

-- ---- Names (4.2, with the wider names of version 49). A name is one unit or more, none of `.`, `;`, `[` and `/`. The name of a class is
-- one or more names with `/` between them.

abbrev pub IsNameUnit : ℕ → Type 0
IsNameUnit u = (u ≢ 46) × (u ≢ 59) × (u ≢ 91) × (u ≢ 47)

abbrev pub IsName : List ℕ → Type 0
IsName units = (units ≢ []) × AllByRecursion IsNameUnit units

abbrev pub IsClassName : List ℕ → Type 0
IsClassName units =
    (names : List (List ℕ)) × (names ≢ []) × AllByRecursion IsName names × (units ≡ join_with_byte 47 names)

-- ---- Types of fields (4.3.2): a `[` for each dimension, of which there are 255 at most, and then a
-- letter, or the name of a class between `L` and `;`.

abbrev pub IsBase : Base → Type 0
IsBase (Class name) = IsClassName name
IsBase _ = ⊤

abbrev pub IsFieldType : FieldType → Type 0
IsFieldType t = (t.dims ≤ 255) × IsBase t.base

abbrev pub base_text : Base → List ℕ
base_text Byte = 66 ∷ []
base_text Char = 67 ∷ []
base_text Double = 68 ∷ []
base_text Float = 70 ∷ []
base_text Int = 73 ∷ []
base_text Long = 74 ∷ []
base_text Short = 83 ∷ []
base_text Boolean = 90 ∷ []
base_text (Class name) = 76 ∷ name ++ 59 ∷ []

-- what is written of a type
abbrev pub field_text : FieldType → List ℕ
field_text t = replicate t.dims 91 ++ base_text t.base

-- the units are what is written of this type
abbrev pub IsFieldText : List ℕ → FieldType → Type 0
IsFieldText units t = IsFieldType t × (units ≡ field_text t)

-- the units are what is written of some type
abbrev pub IsFieldDescriptor : List ℕ → Type 0
IsFieldDescriptor units = (t : FieldType) × IsFieldText units t

-- ---- Types of methods (4.3.3): the parameters between parentheses, and the result, or `V` for none.

abbrev pub IsResult : Option FieldType → Type 0
IsResult None = ⊤
IsResult (Some t) = IsFieldType t

abbrev pub IsMethodType : MethodType → Type 0
IsMethodType m = AllByRecursion IsFieldType m.params × IsResult m.result

abbrev pub result_text : Option FieldType → List ℕ
result_text None = 86 ∷ []
result_text (Some t) = field_text t

abbrev pub method_text : MethodType → List ℕ
method_text m = 40 ∷ flat_map field_text m.params ++ 41 ∷ result_text m.result

abbrev pub IsMethodText : List ℕ → MethodType → Type 0
IsMethodText units m = IsMethodType m × (units ≡ method_text m)

abbrev pub IsMethodDescriptor : List ℕ → Type 0
IsMethodDescriptor units = (m : MethodType) × IsMethodText units m

-- ---- Units that are no descriptor, and the length of the longest part of them, from the front on, that
-- begins one.

abbrev pub BeginsFieldText : List ℕ → Type 0
BeginsFieldText units = (t : FieldType) × (more : List ℕ) × IsFieldText (units ++ more) t

abbrev pub BeginsMethodText : List ℕ → Type 0
BeginsMethodText units = (m : MethodType) × (more : List ℕ) × IsMethodText (units ++ more) m

-- the first n of these units begin a text, and no more of them do
abbrev pub IsLongestBeginning : (List ℕ → Type 0) → List ℕ → ℕ → Type 0
IsLongestBeginning Begins units n =
    (n ≤ length units) × Begins (take n units) × ((m : ℕ) → n < m → m ≤ length units → Begins (take m units) → ⊥)

abbrev pub IsBadFieldText : List ℕ → ℕ → Type 0
IsBadFieldText units n =
    ((t : FieldType) → IsFieldText units t → ⊥) × IsLongestBeginning BeginsFieldText units n

abbrev pub IsBadMethodText : List ℕ → ℕ → Type 0
IsBadMethodText units n =
    ((m : MethodType) → IsMethodText units m → ⊥) × IsLongestBeginning BeginsMethodText units n

-- ---- Slots: a long or a double takes two, all else one; a receiver takes one.

abbrev pub base_slots : Base → ℕ
base_slots Long = 2
base_slots Double = 2
base_slots _ = 1

abbrev pub field_slots : FieldType → ℕ
field_slots t = if t.dims == 0 then base_slots t.base else 1

abbrev pub receiver_slots : Bool → ℕ
receiver_slots true = 1
receiver_slots false = 0

abbrev pub method_slots : MethodType → Bool → ℕ
method_slots m receiver = receiver_slots receiver + sum_by field_slots m.params
