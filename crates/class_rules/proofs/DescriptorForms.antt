-- What is asked of descriptors, as what is known of texts says it.
use Rattle.std.proofs.Common.{◌≡◌, ℕ, zero, suc, ◌⊎◌, inl, inr, ◌↔◌, refl, ap, subst, Bool, true, false, List, [], ◌∷◌, Option, Some, None}
use Rattle.std.specs.Prelude.{IsTrue, ◌||◌, slice_get}
use Rattle.std.specs.List.{list_any}
use Rattle.jk_model.specs.declared.descriptors.Base.{Base}
use Rattle.jk_model.specs.declared.descriptors.Base.TheVariants.{Byte, Char, Double, Float, Int, Long, Short, Bool as Boolean, Class}
use Rattle.jk_model.specs.declared.descriptors.FieldType.{FieldType}
use Rattle.jk_model.specs.declared.descriptors.MethodType.{MethodType}
use Rattle.jk_model.specs.Descriptors.{IsFieldText, IsMethodText}
use Rattle.jk_model_classes.specs.ClassNames.{IsArrayDescriptor}
use Rattle.jk_model_classes.specs.Items.{HasItem}
use Rattle.jk_model_classes.specs.MemberDescriptors.{IsFloatBase, IsFloatType, IsFloatResult, IsFloatField, IsFloatArray}
use Rattle.descriptors.proofs.NoTextBeginsAnother.{one_field, one_method}
use Rattle.class_rules.specs.declared.texts.FieldShape.{FieldShape}
use Rattle.class_rules.specs.declared.texts.MethodShape.{MethodShape}
use Rattle.class_rules.specs.Texts.{IsFieldShape, IsMethodShape, field_shape, method_shape, is_float_base, has_float_result}

-- ---- A test of a shape is a test of the type.

pub field_decides : (P : FieldType → Type 0) (units : List ℕ) (shape : FieldShape) (b : Bool) → IsFieldShape units (Some shape)
    → ((t : FieldType) → shape ≡ field_shape t → IsTrue b ↔ P t) → IsTrue b ↔ ((t : FieldType) × IsFieldText units t × P t)
field_decides P units shape b (t, text, same) says =
    let here = says t same in
    (λ e. (t, text, here.0 e), λ (u, other, p). here.1 (subst P (one_field units u t other text) p))

pub method_decides : (P : MethodType → Type 0) (units : List ℕ) (shape : MethodShape) (b : Bool) → IsMethodShape units (Some shape)
    → ((t : MethodType) → shape ≡ method_shape t → IsTrue b ↔ P t) → IsTrue b ↔ ((t : MethodType) × IsMethodText units t × P t)
method_decides P units shape b (t, text, same) says =
    let here = says t same in
    (λ e. (t, text, here.0 e), λ (u, other, p). here.1 (subst P (one_method units u t other text) p))

-- ---- Float and double.

or_decides : {P Q : Type 0} (a b : Bool) → IsTrue a ↔ P → IsTrue b ↔ Q → IsTrue (a || b) ↔ (P ⊎ Q)
or_decides true b h k = (λ e. inl (h.0 refl), λ s. refl)
or_decides false b h k = (
  λ e. inr (k.0 e),
  λ s. elim s [
    | inl p ↦ absurd (let same : false ≡ true = h.1 p in cc)
    | inr q ↦ k.1 q
  ],
)

no_float : (base : Base) → (base ≡ Float → ⊥) → (base ≡ Double → ⊥) → IsTrue false ↔ IsFloatBase base
no_float base one two = (
  λ e. absurd cc,
  λ s. elim s [
    | inl e ↦ absurd (one e)
    | inr e ↦ absurd (two e)
  ],
)

pub float_base : (base : Base) → IsTrue (is_float_base base) ↔ IsFloatBase base
float_base Float = (λ e. inl refl, λ h. refl)
float_base Double = (λ e. inr refl, λ h. refl)
float_base Byte = no_float Byte (λ e. cc) (λ e. cc)
float_base Char = no_float Char (λ e. cc) (λ e. cc)
float_base Int = no_float Int (λ e. cc) (λ e. cc)
float_base Long = no_float Long (λ e. cc) (λ e. cc)
float_base Short = no_float Short (λ e. cc) (λ e. cc)
float_base Boolean = no_float Boolean (λ e. cc) (λ e. cc)
float_base (Class name) = no_float (Class name) (λ e. cc) (λ e. cc)

item_cases : {X : Type 0} (P : X → Type 0) (x : X) (xs : List X) (i : ℕ) (y : X) → slice_get (x ∷ xs) i ≡ Some y → P y → P x ⊎ HasItem P xs
item_cases P x xs zero y at p = let same : y ≡ x = cc in inl (subst P same p)
item_cases P x xs (suc i) y at p = inr (i, y, at, p)

one_item : {X : Type 0} (P : X → Type 0) (x : X) (xs : List X) → (P x ⊎ HasItem P xs) ↔ HasItem P (x ∷ xs)
one_item P x xs = (
  λ s. elim s [
    | inl p ↦ (zero, x, refl, p)
    | inr h ↦ (suc h.0, h.1, h.2, h.3)
  ],
  λ (i, y, at, p). item_cases P x xs i y at p,
)

float_params : (params : List FieldType) → IsTrue (list_any (λ (p : FieldType). is_float_base p.base) params) ↔ HasItem IsFloatType params
float_params [] = (λ e. absurd cc, λ (i, x, at, p). absurd cc)
float_params (p ∷ params) =
    let here = or_decides (is_float_base p.base) (list_any (λ (q : FieldType). is_float_base q.base) params) (float_base p.base) (float_params params) in
    let items = one_item IsFloatType p params in
    (λ e. items.0 (here.0 e), λ h. here.1 (items.1 h))

float_result : (result : Option FieldType) → IsTrue (has_float_result result) ↔ IsFloatResult result
float_result None = (λ e. absurd cc, λ h. absurd h)
float_result (Some t) = float_base t.base

pub float_method : (t : MethodType) (shape : MethodShape) → shape ≡ method_shape t
    → IsTrue shape.has_float ↔ (HasItem IsFloatType t.params ⊎ IsFloatResult t.result)
float_method t shape same =
    let value = ap (λ (s : MethodShape). s.has_float) same in
    let any_param = list_any (λ (p : FieldType). is_float_base p.base) t.params in
    let here = or_decides any_param (has_float_result t.result) (float_params t.params) (float_result t.result) in
    rw value here

-- an array of them
pub float_array : (units : List ℕ) (a b : Bool) → a ≡ true → IsTrue a ↔ IsArrayDescriptor units → IsTrue b ↔ IsFloatField units → IsTrue b ↔ IsFloatArray units
float_array units a b array is_array is_float = (
  λ e.
      let (t, long, text) = is_array.0 array in
      let (u, other, float) = is_float.0 e in
      (t, long, text, subst IsFloatType (one_field units u t other text) float),
  λ (t, long, text, float). is_float.1 (t, text, float),
)

pub no_array : (units : List ℕ) (a : Bool) → a ≡ false → IsTrue a ↔ IsArrayDescriptor units → IsTrue a ↔ IsFloatArray units
no_array units a none is_array = (λ e. absurd cc, λ (t, long, text, float). is_array.1 (t, long, text))
