-- A field at a place of an object has one record, by its member and by its place.
use Rattle.std.proofs.Common.{◌≡◌, ℕ, zero, suc, ◌<◌, List, [], ◌∷◌, length, Some, slice_get, refl, sym, ap, ◌∙◌, subst}
use Rattle.std.specs.Prelude.{option_map}
use Rattle.std.specs.List.{AllZip}
use Rattle.std.proofs.lemmas.Option.{same_Some}
use Rattle.jk_model.specs.declared.identifiers.ClassId.{ClassId}
use Rattle.jk_model.specs.declared.identifiers.MemberId.{MemberId}
use Rattle.jk_model_classes.specs.declared.records.ClassRecord.{ClassRecord}
use Rattle.jk_model_classes.specs.declared.records.FieldRecord.{FieldRecord}
use Rattle.jk_model_classes.specs.Layouts.{InstanceField, instance_fields}
use Rattle.jk_model_classes.specs.Lookups.{FieldIs}
use Rattle.jk_model_heaps.specs.Heaps.{IsFieldWith, field_records}
use Rattle.list_lemmas.proofs.ItemsByPlace.{item_there}

zip_length : {A B : Type 0} (R : A → B → Type 0) (xs : List A) (ys : List B) → AllZip R xs ys → length xs ≡ length ys
zip_length R [] [] all = refl
zip_length R [] (y ∷ ys) all = absurd all
zip_length R (x ∷ xs) [] all = absurd all
zip_length R (x ∷ xs) (y ∷ ys) all = ap suc (zip_length R xs ys all.1)

zip_at : {A B : Type 0} (R : A → B → Type 0) (xs : List A) (ys : List B) → AllZip R xs ys → (i : ℕ) (y : B) → slice_get ys i ≡ Some y
    → (x : A) × (slice_get xs i ≡ Some x) × R x y
zip_at R [] [] all i y at = absurd cc
zip_at R [] (z ∷ ys) all i y at = absurd all
zip_at R (x ∷ xs) [] all i y at = absurd all
zip_at R (x ∷ xs) (z ∷ ys) all zero y at = (x, refl, subst (λ w. R x w) (same_Some z y at) all.0)
zip_at R (x ∷ xs) (z ∷ ys) all (suc i) y at = zip_at R xs ys all.1 i y at

pub one_field : (classes : List ClassRecord) (m : MemberId) (f g : FieldRecord) → FieldIs classes m f → FieldIs classes m g → f ≡ g
one_field classes m f g (r, is_r, at_f) (s, is_s, at_g) =
    let same : r ≡ s = same_Some r s (sym is_r ∙ is_s) in
    same_Some f g (sym at_f ∙ ap (λ (q : ClassRecord). slice_get q.fields m.index) same ∙ at_g)

pub as_many_records : (classes : List ClassRecord) (c : ClassId) → AllZip (IsFieldWith classes) (instance_fields classes c) (field_records classes c)
    → length (instance_fields classes c) ≡ length (field_records classes c)
as_many_records classes c law = zip_length (IsFieldWith classes) (instance_fields classes c) (field_records classes c) law

-- the member of the field at a place
pub member_at : (classes : List ClassRecord) (c : ClassId) → AllZip (IsFieldWith classes) (instance_fields classes c) (field_records classes c)
    → (i : ℕ) (f : FieldRecord) → slice_get (field_records classes c) i ≡ Some f
    → (m : MemberId) × (option_map (λ (e : InstanceField). e.member) (slice_get (instance_fields classes c) i) ≡ Some m) × FieldIs classes m f
member_at classes c law i f at =
    let z = zip_at (IsFieldWith classes) (instance_fields classes c) (field_records classes c) law i f at in
    (z.0.member, ap (option_map (λ (e : InstanceField). e.member)) z.1, z.2.0)

pub field_at : (classes : List ClassRecord) (c : ClassId) (i : ℕ) → i < length (field_records classes c)
    → (f : FieldRecord) × (slice_get (field_records classes c) i ≡ Some f)
field_at classes c i within = item_there (field_records classes c) i within
