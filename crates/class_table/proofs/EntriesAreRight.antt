-- What an entry of a table says of its class, in the words of the records.
use Rattle.std.proofs.Common.{◌≡◌, ℕ, ◌+◌, ◌*◌, ◌-◌, ◌<◌, ◌≤◌, ◌^◌, min, List, [], ◌∷◌, ◌++◌, length, get_or, Option, Some, None, slice_get, refl, sym, ap, ◌∙◌, arith, length-append}
use Rattle.std.specs.Option.{option_map_or}
use Rattle.std.proofs.lemmas.List.{length-map}
use Rattle.std.proofs.lemmas.Option.{slice_get-map, slice_get_within, slice_get-get_or}
use Rattle.std.proofs.lemmas.List.Sums.{sum_by-append}
use Rattle.jk_model.specs.declared.identifiers.ClassId.{ClassId}
use Rattle.jk_model_classes.specs.declared.records.ClassRecord.{ClassRecord}
use Rattle.jk_model_classes.specs.Classes.{record_of, HasClass, parents_of, listed_interfaces, IsSubclass}
use Rattle.jk_model_classes.specs.Layouts.{InstanceField, own_fields, instance_fields, up_to_32_bits, words_of}
use Rattle.class_table.specs.declared.entry.Entry.{Entry}
use Rattle.class_table.specs.Entries.{IsEntry, IsTable, fields_above, records}
use Rattle.class_table.specs.OwnFields.{own_of}
use Rattle.class_table.proofs.HeightsAreEnough.{instance_fields-step}
use Rattle.class_table.proofs.OwnPlacesGrow.{length-own_of}
use Rattle.class_table.proofs.StandingAbove.{superclasses-lower, is-own_superclass, superclasses-of_parent, parent-lower}
use Rattle.list_lemmas.proofs.ItemsOfLists.{Contains-here}

pub record-at : (entries : List Entry) (c : ClassId) (e : Entry) → slice_get entries c.0 ≡ Some e → record_of (records entries) c ≡ Some e.class
record-at entries c e at = rw (slice_get-map (λ (x : Entry). x.class) entries c.0, at) refl

pub length-records : (entries : List Entry) → length (records entries) ≡ length entries
length-records entries = length-map entries (λ (x : Entry). x.class)

pub entry-exists : (entries : List Entry) (c : ClassId) → c.0 < length entries → (e : Entry) × (slice_get entries c.0 ≡ Some e)
entry-exists [] c within = absurd (omega arith)
entry-exists (x ∷ entries) c within = (get_or (x ∷ entries) c.0 x, slice_get-get_or (x ∷ entries) c.0 x within)

pub saturated-twice : (a b m : ℕ) → min (min a m + b) m ≡ min (a + b) m
saturated-twice a b m = omega arith

pub parents-from : (o : Option ClassRecord) (r : ClassRecord) (p : Option ClassId) → o ≡ Some r → r.parent ≡ p
    → option_map_or (λ (r : ClassRecord). option_map_or (λ q. q ∷ []) r.parent []) o [] ≡ option_map_or (λ q. q ∷ []) p []
parents-from o r p e f = rw (e, f) refl

module _ (entries : List Entry) (c : ClassId) (e : Entry) (at : slice_get entries c.0 ≡ Some e) where
  pub parents-at : (p : ClassId) → e.class.parent ≡ Some p → parents_of (records entries) c ≡ p ∷ []
  parents-at p is = parents-from (record_of (records entries) c) e.class (Some p) (record-at entries c e at) is

  pub no_parents-at : e.class.parent ≡ None → parents_of (records entries) c ≡ []
  no_parents-at is = parents-from (record_of (records entries) c) e.class None (record-at entries c e at) is

  pub interfaces-at : listed_interfaces (records entries) c ≡ e.class.interfaces
  interfaces-at = rw (record-at entries c e at) refl

  pub own_fields-at : own_fields (records entries) c ≡ own_of c e.class.fields
  own_fields-at = rw (record-at entries c e at) refl

  pub within-at : c.0 < length entries
  within-at = slice_get_within entries c.0 e at

  pub is_class : HasClass (records entries) c
  is_class = rw (length-records entries) within-at

  module _ (table : IsTable entries) where
    pub entry-at : IsEntry (records entries) c e
    entry-at = table.right c.0 e at

    -- the fields of those above, and then the class's own
    pub fields-at : instance_fields (records entries) c ≡ fields_above (records entries) c ++ own_of c e.class.fields
    fields-at = instance_fields-step (records entries) table.ordered c ∙ ap (λ own. fields_above (records entries) c ++ own) own_fields-at

    pub field_count-at : length (instance_fields (records entries) c) ≡ e.standing.before + length e.own.fields
    field_count-at =
        omega (
          arith,
          ap length fields-at,
          length-append (fields_above (records entries) c) (own_of c e.class.fields),
          entry-at.standing.before,
          entry-at.own.as_many,
        )

    -- what the entry says of words, put together
    pub words-at : min (e.standing.words + (length e.own.fields + e.own.longs)) (2 ^ 32 - 1) ≡ up_to_32_bits (words_of (instance_fields (records entries) c))
    words-at =
        let above = words_of (fields_above (records entries) c) in
        let own = own_of c e.class.fields in
        let all : words_of (instance_fields (records entries) c) ≡ above + words_of own
        = ap words_of fields-at ∙ sum_by-append (λ (f : InstanceField). f.words) (fields_above (records entries) c) own in
        ap (λ n. min (n + (length e.own.fields + e.own.longs)) (2 ^ 32 - 1)) entry-at.standing.words
        ∙ saturated-twice above (length e.own.fields + e.own.longs) (2 ^ 32 - 1)
        ∙ ap (λ n. min (above + n) (2 ^ 32 - 1)) (sym entry-at.own.words)
        ∙ ap up_to_32_bits (sym all)

    pub few_own-at : length e.own.fields ≤ 65535
    few_own-at = omega (arith, entry-at.own.as_many, length-own_of c e.class.fields, entry-at.few_fields)

    pub few_fields-at : e.standing.before + length e.own.fields ≤ 65535 * (c.0 + 1)
    few_fields-at = omega (arith, few_own-at, entry-at.standing.few)

    pub fits-at : e.standing.before + length e.own.fields < 2 ^ 64
    fits-at = omega (arith, few_fields-at, within-at, table.few)

    pub jump_above-at : IsSubclass (records entries) c e.standing.jump
    jump_above-at = entry-at.standing.jump

    pub jump_lower-at : e.standing.jump.0 ≤ c.0
    jump_lower-at = superclasses-lower (records entries) table.ordered c e.standing.jump jump_above-at

    pub jump_within-at : e.standing.jump.0 < length entries
    jump_within-at = omega (arith, jump_lower-at, within-at)

    pub parent_lower-at : (p : ClassId) → e.class.parent ≡ Some p → p.0 < c.0
    parent_lower-at p is = parent-lower (records entries) table.ordered c p (parents-at p is)

    pub parent_above-at : (p : ClassId) → e.class.parent ≡ Some p → IsSubclass (records entries) c p
    parent_above-at p is =
        superclasses-of_parent (records entries) table.ordered c p p (rw (parents-at p is) (Contains-here p []))
        (is-own_superclass (records entries) table.ordered p)
