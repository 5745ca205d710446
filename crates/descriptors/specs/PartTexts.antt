-- The texts of the parts of a descriptor, and what is read of units that begin with one.
use Rattle.std.specs.Prelude.{◌≡◌, ℕ, ◌≤◌, ◌≢◌, ◌⊎◌, List, [], ◌∷◌, ◌++◌, length, take, drop, replicate, flat_map, Option}
use Rattle.std.specs.List.{AllByRecursion}
use Rattle.jk_model.specs.declared.descriptors.Base.{Base}
use Rattle.jk_model.specs.declared.descriptors.FieldType.{FieldType}
use Rattle.jk_model.specs.declared.descriptors.MethodType.{MethodType}
use Rattle.jk_model.specs.Descriptors.{IsClassName, IsBase, base_text, IsFieldType, field_text, IsResult, result_text, IsMethodType, method_text}

abbrev pub IsBaseText : List ℕ → Type 0
IsBaseText text = (base : Base) × IsBase base × (text ≡ base_text base)

-- parameters and the parenthesis that closes them
abbrev pub IsParamsText : List ℕ → Type 0
IsParamsText text = (params : List FieldType) × AllByRecursion IsFieldType params × (text ≡ flat_map field_text params ++ 41 ∷ [])

abbrev pub IsResultText : List ℕ → Type 0
IsResultText text = (result : Option FieldType) × IsResult result × (text ≡ result_text result)

-- ---- What is read, and the units that follow.

abbrev pub ReadsName : List ℕ → List ℕ → List ℕ → Type 0
ReadsName units name after = IsClassName name × (units ≡ name ++ 59 ∷ after)

-- no base but a class begins with this unit
abbrev pub IsNoLetter : ℕ → Type 0
IsNoLetter u = (u ≢ 66) × (u ≢ 67) × (u ≢ 68) × (u ≢ 70) × (u ≢ 73) × (u ≢ 74) × (u ≢ 83) × (u ≢ 90)

abbrev pub ReadsBase : List ℕ → Base → List ℕ → Type 0
ReadsBase units base after = IsBase base × (units ≡ base_text base ++ after)

abbrev pub ReadsField : List ℕ → FieldType → List ℕ → Type 0
ReadsField units t after = IsFieldType t × (units ≡ field_text t ++ after)

abbrev pub ReadsParams : List ℕ → List FieldType → List ℕ → Type 0
ReadsParams units params after = AllByRecursion IsFieldType params × (units ≡ flat_map field_text params ++ 41 ∷ after)

abbrev pub ReadsResult : List ℕ → Option FieldType → List ℕ → Type 0
ReadsResult units result after = IsResult result × (units ≡ result_text result ++ after)

abbrev pub ReadsMethod : List ℕ → MethodType → List ℕ → Type 0
ReadsMethod units m after = IsMethodType m × (units ≡ method_text m ++ after)

-- as many brackets stand in front as there are, and 255 at most
abbrev pub AreDimensions : List ℕ → ℕ → Type 0
AreDimensions units n =
    (n ≤ 255) × (n ≤ length units) × (take n units ≡ replicate n 91)
    × ((n ≡ 255) ⊎ ((after : List ℕ) → drop n units ≡ 91 ∷ after → ⊥))
