-- Types of fields and methods are the same or not, with the names and with the numbers of classes.
use Rattle.std.proofs.Common.{◌≡◌, ℕ, List, [], refl, sym, ap, ◌∙◌, if◌then◌else◌}
use Rattle.std.specs.Prelude.{◌==◌}
use Rattle.jk_model.specs.declared.descriptors.Base.{Base}
use Rattle.jk_model.specs.declared.descriptors.Base.TheVariants as Said
use Rattle.jk_model.specs.declared.descriptors.FieldType.{FieldType}
use Rattle.jk_model.specs.declared.descriptors.MethodType.{MethodType}
use Rattle.jk_model_classes.specs.declared.records.BaseRef.{BaseRef}
use Rattle.jk_model_classes.specs.declared.records.BaseRef.TheVariants as Meant
use Rattle.jk_model_classes.specs.declared.records.TypeRef.{TypeRef}
use Rattle.decided_lookups.proofs.DecidedParts.{HasDecidedEquality, both_decided, list_decided, number_decided, option_decided, same_decided, text_decided}

-- ---- With the names of classes. What a type is of is known by a number and a name.

base_number : Base → ℕ
base_number Said.Byte = 0
base_number Said.Char = 1
base_number Said.Double = 2
base_number Said.Float = 3
base_number Said.Int = 4
base_number Said.Long = 5
base_number Said.Short = 6
base_number Said.Bool = 7
base_number (Said.Class name) = 8

base_name : Base → List ℕ
base_name (Said.Class name) = name
base_name base = []

base_from : ℕ → List ℕ → Base
base_from n name =
    if n == 0 then Said.Byte else
    if n == 1 then Said.Char else
    if n == 2 then Said.Double else
    if n == 3 then Said.Float else
    if n == 4 then Said.Int else
    if n == 5 then Said.Long else
    if n == 6 then Said.Short else
    if n == 7 then Said.Bool else Said.Class name

base_again : (base : Base) → base_from (base_number base) (base_name base) ≡ base
unfolding base_from base_number base_name
base_again Said.Byte = refl
base_again Said.Char = refl
base_again Said.Double = refl
base_again Said.Float = refl
base_again Said.Int = refl
base_again Said.Long = refl
base_again Said.Short = refl
base_again Said.Bool = refl
base_again (Said.Class name) = refl

said_base_decided : HasDecidedEquality Base
said_base_decided a b =
    same_decided {A = (base_number a ≡ base_number b) × (base_name a ≡ base_name b)}
    (λ (number, name). sym (base_again a) ∙ (λ i. base_from (number i) (name i)) ∙ base_again b)
    (λ e. (ap base_number e, ap base_name e))
    (both_decided (number_decided (base_number a) (base_number b)) (text_decided (base_name a) (base_name b)))

field_type_decided : HasDecidedEquality FieldType
field_type_decided a b =
    same_decided {A = (a.dims ≡ b.dims) × (a.base ≡ b.base)}
    (λ (dims, base) i. let t : FieldType = record { dims = dims i; base = base i } in t)
    (λ e. (ap (λ (t : FieldType). t.dims) e, ap (λ (t : FieldType). t.base) e))
    (both_decided (number_decided a.dims b.dims) (said_base_decided a.base b.base))

pub method_type_decided : HasDecidedEquality MethodType
method_type_decided a b =
    same_decided {A = (a.params ≡ b.params) × (a.result ≡ b.result)}
    (λ (params, result) i. let t : MethodType = record { params = params i; result = result i } in t)
    (λ e. (ap (λ (t : MethodType). t.params) e, ap (λ (t : MethodType). t.result) e))
    (both_decided (list_decided field_type_decided a.params b.params) (option_decided field_type_decided a.result b.result))

-- ---- With the numbers of classes.

ref_number : BaseRef → ℕ
ref_number Meant.Byte = 0
ref_number Meant.Char = 1
ref_number Meant.Int = 2
ref_number Meant.Long = 3
ref_number Meant.Short = 4
ref_number Meant.Bool = 5
ref_number (Meant.Class c) = 6

ref_class : BaseRef → ℕ
ref_class (Meant.Class c) = c.0
ref_class base = 0

ref_from : ℕ → ℕ → BaseRef
ref_from n class =
    if n == 0 then Meant.Byte else
    if n == 1 then Meant.Char else
    if n == 2 then Meant.Int else
    if n == 3 then Meant.Long else
    if n == 4 then Meant.Short else
    if n == 5 then Meant.Bool else Meant.Class (record { 0 = class })

ref_again : (base : BaseRef) → ref_from (ref_number base) (ref_class base) ≡ base
unfolding ref_from ref_number ref_class
ref_again Meant.Byte = refl
ref_again Meant.Char = refl
ref_again Meant.Int = refl
ref_again Meant.Long = refl
ref_again Meant.Short = refl
ref_again Meant.Bool = refl
ref_again (Meant.Class c) = refl

meant_base_decided : HasDecidedEquality BaseRef
meant_base_decided a b =
    same_decided {A = (ref_number a ≡ ref_number b) × (ref_class a ≡ ref_class b)}
    (λ (number, class). sym (ref_again a) ∙ (λ i. ref_from (number i) (class i)) ∙ ref_again b)
    (λ e. (ap ref_number e, ap ref_class e))
    (both_decided (number_decided (ref_number a) (ref_number b)) (number_decided (ref_class a) (ref_class b)))

pub type_ref_decided : HasDecidedEquality TypeRef
type_ref_decided a b =
    same_decided {A = (a.dims ≡ b.dims) × (a.base ≡ b.base)}
    (λ (dims, base) i. let t : TypeRef = record { dims = dims i; base = base i } in t)
    (λ e. (ap (λ (t : TypeRef). t.dims) e, ap (λ (t : TypeRef). t.base) e))
    (both_decided (number_decided a.dims b.dims) (meant_base_decided a.base b.base))
