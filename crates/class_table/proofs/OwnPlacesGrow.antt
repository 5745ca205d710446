-- Where the instance fields of a class stand, with one field more.
use Rattle.std.proofs.Common.{◌≡◌, ℕ, suc, ◌+◌, ◌<◌, ◌≤◌, Bool, true, false, not, List, [], ◌∷◌, ◌++◌, length, take, map, filter, Some, slice_get, refl, sym, ap, ◌∙◌, inl, inr, arith, append-nil}
use Rattle.std.specs.List.{enumerate_from}
use Rattle.std.proofs.lemmas.Bool.{cases_Bool}
use Rattle.std.proofs.lemmas.List.{length-map, length_push, take-append-le}
use Rattle.std.proofs.lemmas.List.Elements.{filter-append}
use Rattle.std.proofs.lemmas.List.Sums.{sum_by-append, sum_by-cons}
use Rattle.std.proofs.lemmas.List.FromFn.{length-enumerate_from}
use Rattle.std.proofs.Math.Seq.{take-append_seam}
use Rattle.jk_model.specs.Flags.{has}
use Rattle.jk_model.specs.declared.identifiers.ClassId.{ClassId}
use Rattle.jk_model_classes.specs.declared.records.FieldRecord.{FieldRecord}
use Rattle.jk_model_classes.specs.Layouts.{InstanceField, is_instance_field, type_words, words_of}
use Rattle.class_table.specs.declared.entry.OwnField.{OwnField}
use Rattle.class_table.specs.declared.entry.OwnPlaces.{OwnPlaces}
use Rattle.class_table.specs.Entries.{AreOwnPlaces, IsOwnField}
use Rattle.class_table.specs.OwnFields.{instance_field, own_of}
use Rattle.list_lemmas.proofs.ItemsByPlace.{slice_get-front, slice_get-last, slice_get-push_cases}
use Rattle.list_lemmas.proofs.LastItems.{enumerate_from-push}
use Rattle.list_lemmas.proofs.ItemsThatPass.{filter_short}

map-append : {X Y : Type 0} (f : X → Y) (xs ys : List X) → map f (xs ++ ys) ≡ map f xs ++ map f ys
map-append f [] ys = refl
map-append f (x ∷ xs) ys = ap (λ rest. f x ∷ rest) (map-append f xs ys)

own_of-append_one : (c : ClassId) (front : List FieldRecord) (f : FieldRecord)
    → own_of c (front ++ f ∷ []) ≡ own_of c front ++ map (instance_field c) (filter is_instance_field ((0 + length front, f) ∷ []))
own_of-append_one c front f =
    ap (λ fields. map (instance_field c) (filter is_instance_field fields)) (enumerate_from-push 0 front f)
    ∙ ap (map (instance_field c)) (filter-append is_instance_field (enumerate_from 0 front) ((0 + length front, f) ∷ []))
    ∙ map-append (instance_field c) (filter is_instance_field (enumerate_from 0 front)) (filter is_instance_field ((0 + length front, f) ∷ []))

-- a field of the class itself adds nothing
pub own_of-static : (c : ClassId) (front : List FieldRecord) (f : FieldRecord) → not (has f.flags 8) ≡ false
    → own_of c (front ++ f ∷ []) ≡ own_of c front
own_of-static c front f static = own_of-append_one c front f ∙ rw static (append-nil (own_of c front))

pub own_of-instance : (c : ClassId) (front : List FieldRecord) (f : FieldRecord) → not (has f.flags 8) ≡ true
    → own_of c (front ++ f ∷ []) ≡ own_of c front ++ instance_field c (length front, f) ∷ []
own_of-instance c front f own =
    let e : 0 + length front ≡ length front = omega arith in
    own_of-append_one c front f ∙ rw own (ap (λ k. own_of c front ++ instance_field c (k, f) ∷ []) e)

pub length-own_of : (c : ClassId) (fields : List FieldRecord) → length (own_of c fields) ≤ length fields
length-own_of c fields =
    let kept : List (ℕ × FieldRecord) = filter is_instance_field (enumerate_from 0 fields) in
    omega (arith, length-map kept (instance_field c), filter_short is_instance_field (enumerate_from 0 fields), length-enumerate_from 0 fields)

-- ---- One more rank.

ranks-push : (c : ClassId) (front : List FieldRecord) (f : FieldRecord) (own : OwnPlaces) → AreOwnPlaces c front own
    → (i n : ℕ) → slice_get (own.ranks ++ length own.fields ∷ []) i ≡ Some n → n ≡ length (own_of c (take i (front ++ f ∷ [])))
ranks-push c front f own are i n at = elim (slice_get-push_cases own.ranks (length own.fields) n i at) [
  | inl before ↦
      let within : i ≤ length front = omega (arith, before.0, are.rank_count) in
      rw (take-append-le i front (f ∷ []) within) (are.ranks i n before.1)
  | inr last ↦
      let whole : i ≡ length front = last.0 ∙ are.rank_count in
      sym (last.1) ∙ are.as_many ∙ ap (λ fields. length (own_of c fields)) (sym (ap (λ k. take k (front ++ f ∷ [])) whole ∙ take-append_seam front (f ∷ [])))
]

rank_count-push : (front : List FieldRecord) (f : FieldRecord) (ranks : List ℕ) (n : ℕ) → length ranks ≡ length front
    → length (ranks ++ n ∷ []) ≡ length (front ++ f ∷ [])
rank_count-push front f ranks n e = omega (arith, e, length_push ranks n, length_push front f)

-- ---- A field of the class itself.

pub places-static : (c : ClassId) (front : List FieldRecord) (f : FieldRecord) (own : OwnPlaces) (ranks : List ℕ) (rank : ℕ)
    → AreOwnPlaces c front own → not (has f.flags 8) ≡ false → rank ≡ length own.fields → ranks ≡ own.ranks ++ rank ∷ []
    → AreOwnPlaces c (front ++ f ∷ []) (record own { ranks = ranks })
places-static c front f own ranks rank are static rank_is e =
    rw (e, rank_is) record {
      as_many = rw (own_of-static c front f static) are.as_many;
      each = rw (own_of-static c front f static) are.each;
      words = rw (own_of-static c front f static) are.words;
      rank_count = rank_count-push front f own.ranks (length own.fields) are.rank_count;
      ranks = ranks-push c front f own are;
    }

-- ---- A field of each object.

own_field-front : (c : ClassId) (fields : List InstanceField) (more : InstanceField) (i : ℕ) (o : OwnField) → i < length fields
    → IsOwnField c fields i o → IsOwnField c (fields ++ more ∷ []) i o
own_field-front c fields more i o within is =
    record {
      field = is.field;
      at = slice_get-front fields (more ∷ []) i within ∙ is.at;
      member = is.member;
      words = rw (take-append-le i fields (more ∷ []) (omega arith)) is.words;
      few = is.few;
    }

own_field-last : (c : ClassId) (fields : List InstanceField) (more : InstanceField) (i : ℕ) (o : OwnField) → i ≡ length fields
    → more.member ≡ record { class = c; index = o.place } → words_of fields ≡ length fields + o.longs → o.longs ≤ 65535 → IsOwnField c (fields ++ more ∷ []) i o
own_field-last c fields more i o last member words few =
    rw last record {
      field = more;
      at = slice_get-last fields more;
      member = member;
      words = rw (take-append_seam fields (more ∷ [])) words;
      few = few;
    }

pub places-instance : (c : ClassId) (front : List FieldRecord) (f : FieldRecord) (own : OwnPlaces) (fields : List OwnField) (ranks : List ℕ)
    (longs place rank : ℕ) → own.longs ≤ 65535 → length front ≡ place → AreOwnPlaces c front own → not (has f.flags 8) ≡ true
    → type_words f.kind + own.longs ≡ 1 + longs → fields ≡ own.fields ++ record { place = place; longs = own.longs } ∷ []
    → rank ≡ length own.fields → ranks ≡ own.ranks ++ rank ∷ []
    → AreOwnPlaces c (front ++ f ∷ []) (record { fields = fields; ranks = ranks; longs = longs })
places-instance c front f own fields ranks longs place rank few here are instance words fields_are rank_is ranks_are =
    let before = own_of c front in
    let more = instance_field c (place, f) in
    let o : OwnField = record { place = place; longs = own.longs } in
    let grown : own_of c (front ++ f ∷ []) ≡ before ++ more ∷ [] = rw (← here) (own_of-instance c front f instance) in
    rw (fields_are, ranks_are, rank_is) record {
      as_many = rw grown (omega (arith, are.as_many, length_push own.fields o, length_push before more));
      each = λ i x at. rw grown (elim (slice_get-push_cases own.fields o x i at) [
        | inl early ↦ own_field-front c before more i x (omega (arith, early.0, are.as_many)) (are.each i x early.1)
        | inr last ↦ rw (← (last.1)) (own_field-last c before more i o (last.0 ∙ are.as_many) refl (omega (arith, are.words, are.as_many)) few)
      ]);
      words = rw grown (omega (
        arith,
        are.words,
        words,
        length_push own.fields o,
        sum_by-append (λ (x : InstanceField). x.words) before (more ∷ []),
        sum_by-cons (λ (x : InstanceField). x.words) more [],
      ));
      rank_count = rank_count-push front f own.ranks (length own.fields) are.rank_count;
      ranks = ranks-push c front f own are;
    }
