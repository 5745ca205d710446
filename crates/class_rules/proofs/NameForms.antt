-- The forms of names, as what is known of texts says them.
use Rattle.std.proofs.Common.{◌≡◌, ℕ, ◌↔◌, ◌≢◌, refl, sym, ◌∙◌, ap, arith, Bool, true, false, List, [], ◌∷◌, Some, ◌==◌}
use Rattle.std.specs.Prelude.{IsTrue, not, ◌||◌}
use Rattle.std.specs.List.{AllByRecursion, list_any}
use Rattle.jk_model.specs.declared.descriptors.FieldType.{FieldType}
use Rattle.jk_model.specs.Descriptors.{IsFieldText}
use Rattle.std.proofs.lemmas.Bool.{or_parts as either_false}
use Rattle.descriptors.proofs.NoTextBeginsAnother.{one_field}
use Rattle.class_rules.specs.declared.texts.FieldShape.{FieldShape}
use Rattle.class_rules.specs.Texts.{IsFieldShape, field_shape}

-- ---- Angles.

abbrev is_angle : ℕ → Bool
is_angle u = u == 60 || u == 62

both_false : (a b : Bool) → a ≡ false → b ≡ false → (a || b) ≡ false
both_false a b h k = rw (h, k) refl

no_angle_unit : (u : ℕ) → is_angle u ≡ false → (u ≢ 60) × (u ≢ 62)
no_angle_unit u e = grind arith

unit_no_angle : (u : ℕ) → u ≢ 60 → u ≢ 62 → is_angle u ≡ false
unit_no_angle u h k = grind arith

no_angle_units : (units : List ℕ) → list_any is_angle units ≡ false → AllByRecursion (λ u. (u ≢ 60) × (u ≢ 62)) units
no_angle_units [] e = tt
no_angle_units (u ∷ units) e =
    let parts = either_false (is_angle u) (list_any is_angle units) e in
    (no_angle_unit u parts.0, no_angle_units units parts.1)

units_no_angle : (units : List ℕ) → AllByRecursion (λ u. (u ≢ 60) × (u ≢ 62)) units → list_any is_angle units ≡ false
units_no_angle [] h = refl
units_no_angle (u ∷ units) h = both_false (is_angle u) (list_any is_angle units) (unit_no_angle u h.0.0 h.0.1) (units_no_angle units h.1)

not_true : (b : Bool) → not b ≡ true → b ≡ false
not_true true e = absurd cc
not_true false e = refl

-- a text without an angle
pub no_angle : (units : List ℕ) (b : Bool) → b ≡ list_any (λ u. u == 60 || u == 62) units
    → IsTrue (not b) ↔ AllByRecursion (λ u. (u ≢ 60) × (u ≢ 62)) units
no_angle units b e = (
  λ h. no_angle_units units (sym e ∙ not_true b h),
  λ h. let none : b ≡ false = e ∙ units_no_angle units h in rw none refl,
)

-- ---- Arrays.

-- what is known of a type of a field, by what is asked of its shape
pub shape_of : (units : List ℕ) (t : FieldType) (shape : FieldShape) → IsFieldText units t → IsFieldShape units (Some shape) → shape ≡ field_shape t
shape_of units t shape text (u, known, same) = same ∙ ap field_shape (one_field units u t known text)
