-- A text has a byte or more for each unit, and a method's descriptor a unit or more for each parameter.
use Rattle.std.proofs.Common.{ℕ, ◌≤◌, List, [], ◌∷◌, length, ap, arith, length-append, flat_map, replicate}
use Rattle.std.proofs.lemmas.List.Concat.{flat_map-cons}
use Rattle.jk_model.specs.declared.descriptors.Base.{Base}
use Rattle.jk_model.specs.declared.descriptors.Base.TheVariants.{Byte, Char, Double, Float, Int, Long, Short, Bool, Class}
use Rattle.jk_model.specs.declared.descriptors.FieldType.{FieldType}
use Rattle.jk_model.specs.declared.descriptors.MethodType.{MethodType}
use Rattle.jk_model.specs.Descriptors.{base_text, field_text, result_text, IsMethodText}

some_of_base : (base : Base) → 1 ≤ length (base_text base)
some_of_base Byte = omega arith
some_of_base Char = omega arith
some_of_base Double = omega arith
some_of_base Float = omega arith
some_of_base Int = omega arith
some_of_base Long = omega arith
some_of_base Short = omega arith
some_of_base Bool = omega arith
some_of_base (Class name) = omega (arith, length-append (76 ∷ name) (59 ∷ []))

some_of_field : (t : FieldType) → 1 ≤ length (field_text t)
some_of_field t = omega (arith, some_of_base t.base, length-append (replicate t.dims 91) (base_text t.base))

params_within : (params : List FieldType) → length params ≤ length (flat_map field_text params)
params_within [] = omega arith
params_within (t ∷ params) =
    let others = params_within params in
    let first = some_of_field t in
    omega (arith, ap length (flat_map-cons field_text t params), length-append (field_text t) (flat_map field_text params))

pub params_few : (units : List ℕ) (m : MethodType) → IsMethodText units m → length m.params ≤ length units
params_few units m (is_type, e) =
    let params = params_within m.params in
    omega (arith, ap length e, length-append (40 ∷ flat_map field_text m.params) (41 ∷ result_text m.result))
