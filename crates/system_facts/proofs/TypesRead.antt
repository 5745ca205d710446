-- What is written of a type is read as this type, and where class names mean system classes it is read as the type that it means.
use Rattle.std.proofs.Common.{◌≡◌, ◌≢◌, ℕ, zero, suc, ◌+◌, inl, inr, Bool, false, List, [], ◌∷◌, ◌++◌, length, replicate, flat_map, Option, Some, None, refl, sym, ap, subst, ◌∙◌, append-nil, append_assoc, arith, if◌then◌else◌}
use Rattle.std.specs.Prelude.{◌==◌, option_map, option_and_then}
use Rattle.std.specs.List.{AllByRecursion, join_with_byte}
use Rattle.std.proofs.lemmas.Bool.{cases_Bool, eqb-true}
use Rattle.jk_model.specs.declared.descriptors.Base.{Base}
use Rattle.jk_model.specs.declared.descriptors.Base.TheVariants as Said
use Rattle.jk_model.specs.declared.descriptors.FieldType.{FieldType}
use Rattle.jk_model.specs.declared.descriptors.MethodType.{MethodType}
use Rattle.jk_model.specs.declared.identifiers.ClassId.{ClassId}
use Rattle.jk_model.specs.Descriptors.{IsBase, IsClassName, IsFieldText, IsFieldType, IsMethodText, IsMethodType, IsName, IsNameUnit, IsResult, base_text, field_text, method_text, result_text}
use Rattle.jk_model.proofs.EachItem.{all_append, all_weaker}
use Rattle.jk_model_classes.specs.declared.records.BaseRef.{BaseRef}
use Rattle.jk_model_classes.specs.declared.records.BaseRef.TheVariants as Meant
use Rattle.jk_model_classes.specs.declared.records.TypeRef.{TypeRef}
use Rattle.jk_model_classes.specs.SystemRecords.{AreTypesFor, IsBaseFor, IsResultFor, IsTypeFor, system_meaning}
use Rattle.descriptors.proofs.NoTextBeginsAnother.{field_first}
use Rattle.system_facts.specs.DescriptorReader.{Before, InName, MethodTypes, Read, base_meant, field_kind, method_from, method_types, one_type, read_field, read_method, read_result, read_types, result_meant, says_nothing, type_meant, types_meant, types_of, with_type}

-- ---- Class names have no `;` in them.

abbrev IsUnended : List ℕ → Type 0
IsUnended name = AllByRecursion (λ u. u ≢ 59) name

name_unended : (name : List ℕ) → IsName name → IsUnended name
name_unended name is = all_weaker IsNameUnit (λ u. u ≢ 59) name (λ u unit. unit.1) is.1

names_unended : (names : List (List ℕ)) → AllByRecursion IsName names → IsUnended (join_with_byte 47 names)
names_unended [] are = tt
names_unended (name ∷ []) are = name_unended name are.0
names_unended (name ∷ other ∷ names) are =
    all_append (λ u. u ≢ 59) name (47 ∷ join_with_byte 47 (other ∷ names)) (name_unended name are.0)
    ((λ e. omega (arith, e)), names_unended (other ∷ names) are.1)

class_unended : (name : List ℕ) → IsClassName name → IsUnended name
class_unended name (names, some, are, e) = subst IsUnended (sym e) (names_unended names are)

-- ---- Units are read in turn.

dims_read : (k d : ℕ) (units : List ℕ) → read_types (Before d) (replicate k 91 ++ units) ≡ read_types (Before (d + k)) units
dims_read zero d units = ap (λ (n : ℕ). read_types (Before n) units) (omega arith)
dims_read (suc k) d units = dims_read k (suc d) units ∙ ap (λ (n : ℕ). read_types (Before n) units) (omega arith)

not_end : (u : ℕ) → u ≢ 59 → (u == 59) ≡ false
not_end u other = elim (cases_Bool (u == 59)) [
  | inl same ↦ absurd (other (eqb-true u 59 same))
  | inr apart ↦ apart
]

in_name : (d : ℕ) (before : List ℕ) (u : ℕ) (units : List ℕ) → u ≢ 59
    → read_types (InName d before) (u ∷ units) ≡ read_types (InName d (before ++ u ∷ [])) units
in_name d before u units other = rw (not_end u other, read_types) refl

name_read : (name : List ℕ) (d : ℕ) (before units : List ℕ) → IsUnended name
    → read_types (InName d before) (name ++ 59 ∷ units) ≡ with_type d (Said.Class (before ++ name)) (read_types (Before 0) units)
name_read [] d before units h =
    ap (λ (name : List ℕ). with_type d (Said.Class name) (read_types (Before 0) units)) (sym (append-nil before))
name_read (u ∷ name) d before units h =
    in_name d before u (name ++ 59 ∷ units) h.0
    ∙ name_read name d (before ++ u ∷ []) units h.1
    ∙ ap (λ (whole : List ℕ). with_type d (Said.Class whole) (read_types (Before 0) units)) (append_assoc before (u ∷ []) name)

base_read : (base : Base) (d : ℕ) (units : List ℕ) → IsBase base
    → read_types (Before d) (base_text base ++ units) ≡ with_type d base (read_types (Before 0) units)
base_read (Said.Class name) d units is =
    ap (λ (text : List ℕ). read_types (InName d []) text) (append_assoc name (59 ∷ []) units) ∙ name_read name d [] units (class_unended name is)
base_read Said.Byte d units is = refl
base_read Said.Char d units is = refl
base_read Said.Double d units is = refl
base_read Said.Float d units is = refl
base_read Said.Int d units is = refl
base_read Said.Long d units is = refl
base_read Said.Short d units is = refl
base_read Said.Bool d units is = refl

type_read : (t : FieldType) (units : List ℕ) → IsFieldType t
    → read_types (Before 0) (field_text t ++ units) ≡ with_type t.dims t.base (read_types (Before 0) units)
type_read t units is =
    ap (λ (text : List ℕ). read_types (Before 0) text) (append_assoc (replicate t.dims 91) (base_text t.base) units)
    ∙ dims_read t.dims 0 (base_text t.base ++ units)
    ∙ ap (λ (n : ℕ). read_types (Before n) (base_text t.base ++ units)) (omega arith)
    ∙ base_read t.base t.dims units is.1

types_read : (types : List FieldType) (rest : List ℕ) → AllByRecursion IsFieldType types
    → read_types (Before 0) (flat_map field_text types ++ 41 ∷ rest) ≡ Some (record { types = types; rest = rest })
types_read [] rest are = refl
types_read (t ∷ types) rest are =
    ap (λ (text : List ℕ). read_types (Before 0) text) (append_assoc (field_text t) (flat_map field_text types) (41 ∷ rest))
    ∙ type_read t (flat_map field_text types ++ 41 ∷ rest) are.0
    ∙ ap (λ (o : Option Read). with_type t.dims t.base o) (types_read types rest are.1)

field_read : (t : FieldType) → IsFieldType t → read_field (field_text t) ≡ Some t
field_read t is = ap one_type (type_read t (41 ∷ []) is)

-- ---- Results and methods.

says_something : (t : FieldType) (text : List ℕ) → field_text t ≡ text → says_nothing text ≡ false
says_something t [] e = refl
says_something t (u ∷ []) e = elim (cases_Bool (u == 86)) [
  | inl same ↦ absurd ((field_first t [] u [] (append-nil (field_text t) ∙ e)).1 (eqb-true u 86 same))
  | inr apart ↦ apart
]
says_something t (u ∷ v ∷ text) e = refl

result_read : (result : Option FieldType) → IsResult result → read_result (result_text result) ≡ Some result
result_read None is = refl
result_read (Some t) is =
    ap (λ (b : Bool). if b then Some None else option_map (λ (u : FieldType). Some u) (read_field (field_text t))) (says_something t (field_text t) refl)
    ∙ ap (λ (o : Option FieldType). option_map (λ (u : FieldType). Some u) o) (field_read t is)

method_read : (m : MethodType) → IsMethodType m → read_method (method_text m) ≡ Some m
method_read m is =
    ap method_from (types_read m.params (result_text m.result) is.0)
    ∙ ap (λ (o : Option (Option FieldType)). option_map (λ (result : Option FieldType). record { params = m.params; result = result }) o)
    (result_read m.result is.1)

-- ---- Class names mean system classes.

base_resolved : (base : Base) (ref : BaseRef) → IsBaseFor system_meaning base ref → base_meant base ≡ Some ref
base_resolved (Said.Class name) ref (c, meant, e) =
    ap (λ (o : Option ClassId). option_map (λ (d : ClassId). Meant.Class d) o) meant ∙ ap (λ (r : BaseRef). Some r) (sym e)
base_resolved Said.Byte ref e = ap (λ (r : BaseRef). Some r) (sym e)
base_resolved Said.Char ref e = ap (λ (r : BaseRef). Some r) (sym e)
base_resolved Said.Int ref e = ap (λ (r : BaseRef). Some r) (sym e)
base_resolved Said.Long ref e = ap (λ (r : BaseRef). Some r) (sym e)
base_resolved Said.Short ref e = ap (λ (r : BaseRef). Some r) (sym e)
base_resolved Said.Bool ref e = ap (λ (r : BaseRef). Some r) (sym e)
base_resolved base ref never = absurd never

type_resolved : (t : FieldType) (ref : TypeRef) → IsTypeFor system_meaning t ref → type_meant t ≡ Some ref
type_resolved t ref (dims, base) =
    ap (λ (o : Option BaseRef). option_map (λ (r : BaseRef). record { dims = t.dims; base = r }) o) (base_resolved t.base ref.base base)
    ∙ ap (λ (n : ℕ). Some (record { dims = n; base = ref.base })) (sym dims)

types_resolved : (types : List FieldType) (refs : List TypeRef) → AreTypesFor system_meaning types refs → types_meant types ≡ Some refs
types_resolved [] [] are = refl
types_resolved [] (ref ∷ refs) are = let many : length (ref ∷ refs) ≡ length {A = FieldType} [] = are.as_many in absurd (omega arith)
types_resolved (t ∷ types) [] are = let many : length {A = TypeRef} [] ≡ length (t ∷ types) = are.as_many in absurd (omega arith)
types_resolved (t ∷ types) (ref ∷ refs) are =
    let many : length (ref ∷ refs) ≡ length (t ∷ types) = are.as_many in
    let first = type_resolved t ref (are.each 0 t ref refl refl) in
    let others = types_resolved types refs
    (record { as_many = omega arith; each = λ i u r at at_too. are.each (suc i) u r at at_too }) in
    ap (λ (o : Option TypeRef). option_and_then (λ (x : TypeRef). option_map (λ (xs : List TypeRef). x ∷ xs) (types_meant types)) o) first
    ∙ ap (λ (o : Option (List TypeRef)). option_map (λ (xs : List TypeRef). ref ∷ xs) o) others

result_resolved : (o : Option FieldType) (result : Option TypeRef) → IsResultFor system_meaning o result → result_meant o ≡ Some result
result_resolved None result e = ap (λ (r : Option TypeRef). Some r) (sym e)
result_resolved (Some t) result (ref, e, is) =
    ap (λ (o : Option TypeRef). option_map (λ (r : TypeRef). Some r) o) (type_resolved t ref is) ∙ ap (λ (r : Option TypeRef). Some r) (sym e)

-- ---- Descriptors.

pub field_kind-read : (text : List ℕ) (t : FieldType) (kind : TypeRef) → IsFieldText text t → IsTypeFor system_meaning t kind
    → field_kind text ≡ Some kind
field_kind-read text t kind (is, e) means =
    ap field_kind e ∙ ap (λ (o : Option FieldType). option_and_then type_meant o) (field_read t is) ∙ type_resolved t kind means

pub method_types-read : (text : List ℕ) (m : MethodType) (params : List TypeRef) (result : Option TypeRef) → IsMethodText text m
    → AreTypesFor system_meaning m.params params → IsResultFor system_meaning m.result result
    → method_types text ≡ Some (record { params = params; result = result })
method_types-read text m params result (is, e) takes answers =
    ap method_types e ∙ ap (λ (o : Option MethodType). option_and_then types_of o) (method_read m is)
    ∙ ap
    (λ (o : Option (List TypeRef)). option_and_then
    (λ (ps : List TypeRef). option_map (λ (r : Option TypeRef). let t : MethodTypes = record { params = ps; result = r } in t) (result_meant m.result)) o)
    (types_resolved m.params params takes)
    ∙ ap (λ (o : Option (Option TypeRef)). option_map (λ (r : Option TypeRef). let t : MethodTypes = record { params = params; result = r } in t) o)
    (result_resolved m.result result answers)
