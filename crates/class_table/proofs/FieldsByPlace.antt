-- The field at a place of a layout is the one that the class declares which holds the place, and the fields before it take the
-- words of those above and of the class's own.
use Rattle.std.proofs.Common.{◌≡◌, ℕ, zero, suc, ◌+◌, ◌-◌, ◌<◌, ◌≤◌, ◌^◌, min, true, not, List, [], ◌∷◌, ◌++◌, length, take, Some, option_map, slice_get, refl, sym, ap, ◌∙◌, inl, inr, arith}
use Rattle.std.proofs.lemmas.Bool.{cases_Bool}
use Rattle.std.proofs.lemmas.List.{take-append-le}
use Rattle.std.proofs.lemmas.List.Sums.{sum_by-append}
use Rattle.std.proofs.lemmas.Option.{same_Some}
use Rattle.std.proofs.Math.Seq.{take-append-add}
use Rattle.jk_model.specs.Flags.{has}
use Rattle.jk_model.specs.declared.identifiers.ClassId.{ClassId}
use Rattle.jk_model.specs.declared.identifiers.MemberId.{MemberId}
use Rattle.jk_model_classes.specs.declared.records.FieldRecord.{FieldRecord}
use Rattle.jk_model_classes.specs.Layouts.{InstanceField, instance_fields, up_to_32_bits, words_of}
use Rattle.class_table.specs.declared.entry.Entry.{Entry}
use Rattle.class_table.specs.declared.entry.OwnField.{OwnField}
use Rattle.class_table.specs.Entries.{IsTable, fields_above, records}
use Rattle.class_table.specs.Holders.{Holds}
use Rattle.class_table.specs.OwnFields.{instance_field, own_from, own_of}
use Rattle.class_table.proofs.EntriesAreRight.{entry-at, fields-at, field_count-at, saturated-twice}
use Rattle.list_lemmas.proofs.ItemsByPlace.{slice_get-front, slice_get-back}
use Rattle.class_table.proofs.LayoutsBegin.{layouts-begin}

module _ (entries : List Entry) (table : IsTable entries) (c : ClassId) (i : ℕ) (d : ClassId) (holds : Holds entries c i d) where
  module _ (e : Entry) (at : slice_get entries d.0 ≡ Some e) where
    same : holds.entry ≡ e
    same = same_Some holds.entry e (sym holds.at ∙ at)

    not_before : e.standing.before ≤ i
    not_before = rw (← same) holds.not_before

    below : i < e.standing.before + length e.own.fields
    below = rw (← same) holds.within

    abbrev above : List InstanceField
    above = fields_above (records entries) d

    abbrev own : List InstanceField
    own = own_of d e.class.fields

    abbrev rank : ℕ
    rank = i - e.standing.before

    placed : i ≡ length above + rank
    placed = omega (arith, (entry-at entries d e at table).standing.before, not_before)

    within : i < length (instance_fields (records entries) d)
    within = omega (arith, below, field_count-at entries d e at table)

    pub held-within : rank < length e.own.fields
    held-within = omega (arith, below, not_before)

    pub held-field : (o : OwnField) → slice_get e.own.fields rank ≡ Some o
        → Some (record { class = d; index = o.place }) ≡ option_map (λ (f : InstanceField). f.member) (slice_get (instance_fields (records entries) c) i)
    held-field o own_at =
        let begins = layouts-begin (records entries) table.ordered c d holds.above in
        let is = (entry-at entries d e at table).own.each rank o own_at in
        let found : slice_get (instance_fields (records entries) c) i ≡ Some is.field
        = ap (λ fields. slice_get fields i) begins.1
        ∙ slice_get-front (instance_fields (records entries) d) begins.0 i within
        ∙ ap (λ fields. slice_get fields i) (fields-at entries d e at table)
        ∙ slice_get-back above own rank i placed
        ∙ is.at in
        rw (found, is.member) refl

    pub held-words : (o : OwnField) → slice_get e.own.fields rank ≡ Some o
        → min (e.standing.words + (rank + o.longs)) (2 ^ 32 - 1) ≡ up_to_32_bits (words_of (take i (instance_fields (records entries) c)))
    held-words o own_at =
        let begins = layouts-begin (records entries) table.ordered c d holds.above in
        let right = entry-at entries d e at table in
        let is = right.own.each rank o own_at in
        let front : take i (instance_fields (records entries) c) ≡ above ++ take rank own
        = ap (take i) begins.1
        ∙ take-append-le i (instance_fields (records entries) d) begins.0 (omega (arith, within))
        ∙ ap (take i) (fields-at entries d e at table)
        ∙ ap (λ k. take k (above ++ own)) placed
        ∙ take-append-add above own rank in
        let sum : words_of (take i (instance_fields (records entries) c)) ≡ words_of above + (rank + o.longs)
        = ap words_of front ∙ sum_by-append (λ (f : InstanceField). f.words) above (take rank own) ∙ ap (λ n. words_of above + n) is.words in
        ap (λ n. min (n + (rank + o.longs)) (2 ^ 32 - 1)) right.standing.words
        ∙ saturated-twice (words_of above) (rank + o.longs) (2 ^ 32 - 1)
        ∙ ap up_to_32_bits (sym sum)

-- ---- The place of a member.

-- where it doesn't stand in front, and where it does
own_from-cons : (c : ClassId) (n : ℕ) (x : FieldRecord) (xs front : List FieldRecord) (k : InstanceField)
    → slice_get (own_from c (n + 1) xs) (length (own_from c (n + 1) front)) ≡ Some k
    → slice_get (own_from c n (x ∷ xs)) (length (own_from c n (x ∷ front))) ≡ Some k
own_from-cons c n x xs front k later = elim (cases_Bool (not (has x.flags 8))) [
  | inl instance ↦ rw instance later
  | inr static ↦ rw static later
]

own_from-at_rank : (c : ClassId) (n : ℕ) (fields : List FieldRecord) (place : ℕ) (f : FieldRecord) → slice_get fields place ≡ Some f
    → not (has f.flags 8) ≡ true → slice_get (own_from c n fields) (length (own_from c n (take place fields))) ≡ Some (instance_field c (n + place, f))
own_from-at_rank c n [] place f at instance = absurd cc
own_from-at_rank c n (x ∷ xs) zero f at instance =
    let same : x ≡ f = same_Some x f at in
    let e : n ≡ n + 0 = omega arith in
    rw (same, instance) (ap (λ k. Some (instance_field c (k, f))) e)
own_from-at_rank c n (x ∷ xs) (suc place) f at instance =
    let e : (n + 1) + place ≡ n + suc place = omega arith in
    own_from-cons c n x xs (take place xs) (instance_field c (n + suc place, f))
    (own_from-at_rank c (n + 1) xs place f at instance ∙ ap (λ k. Some (instance_field c (k, f))) e)

-- the field of the class file at this place is the instance field of its rank
own_of-at_rank : (c : ClassId) (fields : List FieldRecord) (place : ℕ) (f : FieldRecord) → slice_get fields place ≡ Some f
    → not (has f.flags 8) ≡ true → slice_get (own_of c fields) (length (own_of c (take place fields))) ≡ Some (instance_field c (place, f))
own_of-at_rank c fields place f at instance =
    let e : 0 + place ≡ place = omega arith in
    own_from-at_rank c 0 fields place f at instance ∙ ap (λ k. Some (instance_field c (k, f))) e

pub placed-member : (entries : List Entry) (table : IsTable entries) (m : MemberId) (e : Entry) (f : FieldRecord) (rank : ℕ)
    → slice_get entries m.class.0 ≡ Some e → slice_get e.class.fields m.index ≡ Some f → not (has f.flags 8) ≡ true
    → slice_get e.own.ranks m.index ≡ Some rank
    → option_map (λ (f : InstanceField). f.member) (slice_get (instance_fields (records entries) m.class) (e.standing.before + rank)) ≡ Some m
placed-member entries table m e f rank at field instance ranked =
    let c = m.class in
    let right = entry-at entries c e at table in
    let own = own_of c e.class.fields in
    let above = fields_above (records entries) c in
    let found : slice_get (instance_fields (records entries) c) (e.standing.before + rank) ≡ Some (instance_field c (m.index, f))
    = ap (λ fields. slice_get fields (e.standing.before + rank)) (fields-at entries c e at table)
    ∙ slice_get-back above own rank (e.standing.before + rank) (ap (λ n. n + rank) right.standing.before)
    ∙ ap (slice_get own) (right.own.ranks m.index rank ranked)
    ∙ own_of-at_rank c e.class.fields m.index f field instance in
    rw found refl
