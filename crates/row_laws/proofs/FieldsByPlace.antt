-- The place of a field among the values of an object is the place of its record, and so what stands there is of the field's type.
use Rattle.std.proofs.Common.{◌≡◌, ℕ, suc, ◌+◌, ◌==◌, ◌<◌, Bool, true, false, not, cond, List, [], ◌∷◌, length, Some, slice_get, refl, sym, ap, subst, ◌∙◌, arith}
use Rattle.std.specs.Prelude.{position}
use Rattle.std.specs.List.{AllZip, position_or_len}
use Rattle.std.proofs.lemmas.Bool.{eqb-true, and_parts}
use Rattle.std.proofs.lemmas.Option.{slice_get_within}
use Rattle.list_lemmas.proofs.FirstByTest.{found_at}
use Rattle.list_lemmas.proofs.ItemByItem.{zip_at}
use Rattle.list_lemmas.proofs.ItemsByPlace.{item_there}
use Rattle.model_lemmas.proofs.SameNumbers.{same_class, same_member}
use Rattle.jk_model.specs.declared.identifiers.ClassId.{ClassId}
use Rattle.jk_model.specs.declared.identifiers.MemberId.{MemberId}
use Rattle.jk_model.specs.declared.values.Value.{Value}
use Rattle.jk_model_classes.specs.declared.records.ClassRecord.{ClassRecord}
use Rattle.jk_model_classes.specs.declared.records.FieldRecord.{FieldRecord}
use Rattle.jk_model_classes.specs.Layouts.{InstanceField, instance_fields}
use Rattle.jk_model_classes.specs.Lookups.{FieldIs}
use Rattle.class_lemmas.proofs.OneRecord.{one_field}
use Rattle.jk_model_domains.specs.Objects.{Plain}
use Rattle.jk_model_heaps.specs.Heaps.{IsFieldWith, field_records, named}
use Rattle.jk_model_heaps.specs.Workings.{Inside}
use Rattle.jk_model_heap_rows.specs.FieldRows.{HasField, field_place, is_field}
use Rattle.jk_model_sealing.specs.SealedInsides.{HasFields, IsSealedInside, IsSealedObject, Surroundings}
use Rattle.heap_laws.proofs.ObjectsAfterChanges.{found_stands}
use Rattle.heap_laws.specs.FittingOutcomes.{IsOfType}

-- ---- What a test finds passes it.

module _ {X : Type 0} (p : X → Bool) where
  passes_by : (y : X) (xs : List X) (n : ℕ) (b : Bool) → p y ≡ b → cond (not b) (1 + n) 0 < suc (length xs)
      → (n < length xs → (x : X) × (slice_get xs n ≡ Some x) × (p x ≡ true))
      → (x : X) × (slice_get (y ∷ xs) (cond (not b) (1 + n) 0) ≡ Some x) × (p x ≡ true)
  passes_by y xs n true e low rest = (y, refl, e)
  passes_by y xs n false e low rest =
      let found = rest (omega (arith, low)) in
      let next : suc n ≡ 1 + n = omega arith in
      (found.0, subst (λ (k : ℕ). slice_get (y ∷ xs) k ≡ Some found.0) next found.1, found.2)

  first_passes : (xs : List X) → position_or_len p xs < length xs → (x : X) × (slice_get xs (position_or_len p xs) ≡ Some x) × (p x ≡ true)
  first_passes [] low = absurd (omega (arith, low))
  first_passes (y ∷ xs) low = passes_by y xs (position_or_len p xs) (p y) refl low (first_passes xs)

  found_passes : (xs : List X) (k : ℕ) → position p xs ≡ Some k → (x : X) × (slice_get xs k ≡ Some x) × (p x ≡ true)
  found_passes xs k is =
      let at = found_at p xs k is in
      subst (λ (n : ℕ). (x : X) × (slice_get xs n ≡ Some x) × (p x ≡ true)) (sym at.0) (first_passes xs at.1)

-- ---- The record at a field's place is the field's.

pub is_member : (m : MemberId) (g : InstanceField) → is_field m g ≡ true → g.member ≡ m
is_member m g e =
    let both = and_parts (g.member.class.0 == m.class.0) (g.member.index == m.index) e in
    same_member g.member m (same_class g.member.class m.class (eqb-true g.member.class.0 m.class.0 both.0))
    (eqb-true g.member.index m.index both.1)

-- the fields of an object stand in one order, by their members and by their records
abbrev pub StandInOneOrder : Type 0
StandInOneOrder = (classes : List ClassRecord) (c : ClassId) → AllZip (IsFieldWith classes) (instance_fields classes c) (field_records classes c)

pub record_placed : StandInOneOrder → (classes : List ClassRecord) (c : ClassId) (m : MemberId) (field : FieldRecord) (place : ℕ) → FieldIs classes m field
    → field_place classes c m ≡ Some place → place < length (field_records classes c) → slice_get (field_records classes c) place ≡ Some field
record_placed order classes c m field place is is_place low =
    let found = found_passes (is_field m) (instance_fields classes c) place is_place in
    let there = item_there (field_records classes c) place low in
    let zipped = zip_at (IsFieldWith classes) (instance_fields classes c) (field_records classes c) (order classes c) place
    found.0 there.0 found.1 there.1 in
    let same = one_field classes m there.0 field
    (subst (λ (n : MemberId). FieldIs classes n there.0) (is_member m found.0 found.2) zipped.0) is in
    there.1 ∙ ap (λ (f : FieldRecord). Some f) same

-- ---- What an object holds there.

module _ (order : StandInOneOrder) (around : Surroundings) (quota : ℕ) (inside : Inside) (sealed : IsSealedInside around quota inside)
    (m : MemberId) (field : FieldRecord) (is : FieldIs around.classes m field) (v : Value) (f : HasField around.classes inside.heap v m) where
  pub object_there : IsSealedObject around inside.heap (Plain f.class f.fields)
  object_there = sealed.objects (named f.name (Plain f.class f.fields)) (found_stands f.name (Plain f.class f.fields) inside.heap f.object)

  pub fields_there : HasFields around inside.heap f.class f.fields
  fields_there = object_there.5

  pub record_there : slice_get (field_records around.classes f.class) f.place ≡ Some field
  record_there =
      record_placed order around.classes f.class m field f.place is f.is_place
      (let low = slice_get_within f.fields f.place f.value f.is_value in omega (arith, low, fields_there.as_many))

  pub field_held : IsOfType around inside.heap field.kind f.value
  field_held = fields_there.each f.place f.value field f.is_value record_there
