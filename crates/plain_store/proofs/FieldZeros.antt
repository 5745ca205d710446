-- The zero of each instance field of a class, in the order of the layout.
use Rattle.std.proofs.Common.{◌≡◌, ℕ, zero, suc, ◌+◌, List, [], ◌∷◌, ◌++◌, length, take, Some, slice_get, refl, sym, ap, subst, append_assoc, ◌∙◌, arith}
use Rattle.std.specs.List.{AllZip}
use Rattle.std.specs.Option.{option_map}
use Rattle.std.proofs.lemmas.List.{length-map}
use Rattle.std.proofs.lemmas.Option.{same_Some, slice_get-map}
use Rattle.list_lemmas.proofs.ItemsByPlace.{comes_from, mapped_at}
use Rattle.list_lemmas.proofs.LastItems.{take_next}
use Rattle.jk_model.specs.declared.identifiers.ClassId.{ClassId}
use Rattle.jk_model.specs.declared.identifiers.MemberId.{MemberId}
use Rattle.jk_model.specs.declared.values.Value.{Value}
use Rattle.jk_model_classes.specs.declared.records.ClassRecord.{ClassRecord}
use Rattle.jk_model_classes.specs.declared.records.FieldRecord.{FieldRecord}
use Rattle.jk_model_classes.specs.Layouts.{InstanceField, instance_fields}
use Rattle.jk_model_classes.specs.Lookups.{FieldIs}
use Rattle.jk_model_domains.specs.OwnStates.{zero_of}
use Rattle.jk_model_heaps.specs.Heaps.{IsFieldWith, field_records, zero_fields}

-- what stands beside an item of the first of two lists
record Beside {X Y : Type 0} (R : X → Y → Type 0) (ys : List Y) (i : ℕ) (x : X) : Type 0 where
  other : Y
  there : slice_get ys i ≡ Some other
  holds : R x other

zip_get : {X Y : Type 0} (R : X → Y → Type 0) (xs : List X) (ys : List Y) → AllZip R xs ys → (i : ℕ) (x : X) → slice_get xs i ≡ Some x → Beside R ys i x
zip_get R [] [] h i x e = absurd cc
zip_get R [] (b ∷ ys) h i x e = absurd h
zip_get R (a ∷ xs) [] h i x e = absurd h
zip_get R (a ∷ xs) (b ∷ ys) h zero x e = record { other = b; there = refl; holds = subst (λ z. R z b) (same_Some a x e) h.0 }
zip_get R (a ∷ xs) (b ∷ ys) h (suc i) x e = let later = zip_get R xs ys h.1 i x e in record { other = later.other; there = later.there; holds = later.holds }

zip_long : {X Y : Type 0} (R : X → Y → Type 0) (xs : List X) (ys : List Y) → AllZip R xs ys → length ys ≡ length xs
zip_long R [] [] h = refl
zip_long R [] (b ∷ ys) h = absurd h
zip_long R (a ∷ xs) [] h = absurd h
zip_long R (a ∷ xs) (b ∷ ys) h = ap suc (zip_long R xs ys h.1)

abbrev zero_in : FieldRecord → Value
zero_in f = zero_of f.kind

-- the field at a place of the layout, and its zero
pub record FieldAt (classes : List ClassRecord) (c : ClassId) (i : ℕ) (m : MemberId) : Type 0 where
  pub field : FieldRecord
  pub is : FieldIs classes m field
  pub zero : slice_get (zero_fields classes c) i ≡ Some (zero_of field.kind)

module _ (classes : List ClassRecord) (c : ClassId) (zip : AllZip (IsFieldWith classes) (instance_fields classes c) (field_records classes c)) where
  pub as_many_zeros : length (zero_fields classes c) ≡ length (instance_fields classes c)
  as_many_zeros = length-map (field_records classes c) zero_in ∙ zip_long (IsFieldWith classes) (instance_fields classes c) (field_records classes c) zip

  pub field_at : (i : ℕ) (m : MemberId) → Some m ≡ option_map (λ (f : InstanceField). f.member) (slice_get (instance_fields classes c) i)
      → FieldAt classes c i m
  field_at i m e =
      let member : InstanceField → MemberId = λ (f : InstanceField). f.member in
      let from = comes_from member (instance_fields classes c) i m (slice_get-map member (instance_fields classes c) i ∙ sym e) in
      let beside = zip_get (IsFieldWith classes) (instance_fields classes c) (field_records classes c) zip i from.from from.there in
      record {
        field = beside.other;
        is = subst (λ (n : MemberId). FieldIs classes n beside.other) from.gives beside.holds.0;
        zero = mapped_at zero_in (field_records classes c) i beside.other beside.there;
      }

-- one more zero
pub one_more_zero : (values begun zeros : List Value) (i : ℕ) (v z : Value) → values ≡ begun ++ take i zeros → slice_get zeros i ≡ Some z → v ≡ z
    → values ++ v ∷ [] ≡ begun ++ take (i + 1) zeros
one_more_zero values begun zeros i v z so_far at same =
    let next : suc i ≡ i + 1 = omega arith in
    ap (λ (xs : List Value). xs ++ v ∷ []) so_far
    ∙ append_assoc begun (take i zeros) (v ∷ [])
    ∙ ap (λ (w : Value). begun ++ (take i zeros ++ w ∷ [])) same
    ∙ ap (λ (xs : List Value). begun ++ xs) (sym (take_next zeros i z at))
    ∙ ap (λ (k : ℕ). begun ++ take k zeros) next
