-- Of a text, another object and a text, the first fits an array of texts and the second doesn't.
use Rattle.std.proofs.Common.{◌≡◌, ℕ, zero, suc, ◌<◌, inl, inr, List, [], ◌∷◌, Some, Contains, codes, slice_get, refl, sym, ap, subst, arith}
use Rattle.std.proofs.lemmas.Bool.{false≢true}
use Rattle.std.proofs.lemmas.Option.{same_Some}
use Rattle.jk_model.specs.declared.identifiers.ClassId.{ClassId}
use Rattle.jk_model.specs.declared.values.Value.{Value}
use Rattle.jk_model.specs.declared.values.Value.TheVariants as Held
use Rattle.jk_model_classes.specs.declared.records.BaseRef.{BaseRef}
use Rattle.jk_model_classes.specs.declared.records.BaseRef.TheVariants as Base
use Rattle.jk_model_classes.specs.declared.records.TypeRef.{TypeRef}
use Rattle.jk_model_classes.specs.Classes.{OBJECT}
use Rattle.jk_model_typing.specs.FrameTypes.{STRING}
use Rattle.jk_model_domains.specs.NumberRows.{is_null}
use Rattle.jk_model_domains.specs.Objects.{NamedObject, Object, Plain, Text, class_type, type_of}
use Rattle.jk_model_heaps.specs.Instances.{IsA}
use Rattle.jk_model_heaps.specs.References.{IsNullOrInstance}
use Rattle.jk_model_system_rows.specs.ArrayCopies.{IsFittingFront}
use Rattle.jk_model_system_rows.specs.Examples.{classes, objects_and_texts, setting}

abbrev heap : List NamedObject
heap = (objects_and_texts (Held.Null ∷ Held.Null ∷ Held.Null ∷ [])).heap

abbrev items : List Value
items = Held.Obj 3 ∷ Held.Obj 4 ∷ Held.Obj 5 ∷ []

abbrev FitsText : Value → Type 0
FitsText v = IsNullOrInstance (setting 64) heap v (class_type STRING)

first_fits : (i : ℕ) (v : Value) → i < 1 → slice_get items i ≡ Some v → FitsText v
first_fits zero v low at = subst FitsText (same_Some (Held.Obj 3) v at) (inr (Text (codes "a"), refl, inl refl))
first_fits (suc i) v low at = absurd (omega (arith, low))

abbrev class_in : BaseRef → ℕ
class_in (Base.Class c) = c.0
class_in base = 0

is_no_string : Contains (OBJECT ∷ []) STRING → ⊥
is_no_string (zero, low, is) = let same : 0 ≡ 3 = ap (λ (c : ClassId). c.0) is in absurd (omega (arith, same))
is_no_string (suc k, low, is) = absurd (omega (arith, low))

object_is_no_string : IsA classes (class_type OBJECT) (class_type STRING) → ⊥
object_is_no_string (inl same) = let numbers : 0 ≡ 3 = ap (λ (t : TypeRef). class_in t.base) same in absurd (omega (arith, numbers))
object_is_no_string (inr (inl (dims, inl below))) = is_no_string below
object_is_no_string (inr (inl (dims, inr implements))) = is_no_string implements.1
object_is_no_string (inr (inr (lower, above))) = absurd (omega (arith, lower))

object_fits_not : FitsText (Held.Obj 4) → ⊥
object_fits_not (inl null) = false≢true (ap is_null null)
object_fits_not (inr (object, is, below)) =
    object_is_no_string
    (subst (λ (o : Object). IsA classes (type_of o) (class_type STRING)) (sym (same_Some (Plain OBJECT []) object is)) below)

pub front_of_texts : IsFittingFront (setting 64) heap (class_type STRING) items 1
front_of_texts = record {
  within = omega arith;
  fit = first_fits;
  next = λ v at fits. object_fits_not (subst FitsText (sym (same_Some (Held.Obj 4) v at)) fits);
}
