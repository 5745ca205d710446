-- What stands above a class that is put after the others, and how many fields and words come before its own.
use Rattle.std.proofs.Common.{◌≡◌, ℕ, ◌+◌, ◌-◌, ◌<◌, ◌^◌, min, List, [], ◌∷◌, ◌++◌, length, Contains, Some, None, slice_get, refl, sym, ap, ◌∙◌, append-nil, arith}
use Rattle.jk_model.specs.declared.identifiers.ClassId.{ClassId}
use Rattle.jk_model_classes.specs.declared.records.ClassRecord.{ClassRecord}
use Rattle.jk_model_classes.specs.Classes.{record_of, parents_of, StandsAbove, AreOrdered, superclasses}
use Rattle.jk_model_classes.specs.Layouts.{instance_fields, up_to_32_bits, words_of}
use Rattle.class_table.specs.declared.entry.Entry.{Entry}
use Rattle.class_table.specs.Entries.{IsStanding, IsTable, fields_above, records}
use Rattle.class_table.proofs.EntriesAreRight.{length-records, parents-from, words-at, field_count-at, few_fields-at, within-at}
use Rattle.list_lemmas.proofs.ItemsByPlace.{slice_get-last}
use Rattle.list_lemmas.proofs.ItemsOfLists.{Contains-here}
use Rattle.class_lemmas.proofs.LowerClassesDecide.{superclasses-agree, instance_fields-agree}
use Rattle.class_table.proofs.ClassesThatStay.{agree-push, ordered-push}
use Rattle.class_table.proofs.StandingAbove.{superclasses-of_parent, is-own_superclass, flat_map-one}

abbrev pub next_number : List Entry → ClassId
next_number entries = record { 0 = length entries }

abbrev pub with_new : List Entry → ClassRecord → List ClassRecord
with_new entries r = records entries ++ r ∷ []

pub record-new : (entries : List Entry) (r : ClassRecord) → record_of (with_new entries r) (next_number entries) ≡ Some r
record-new entries r = rw (← (length-records entries)) (slice_get-last (records entries) r)

module _ (entries : List Entry) (table : IsTable entries) (r : ClassRecord) (above : StandsAbove (length entries) r) where
  pub ordered-new : AreOrdered (with_new entries r)
  ordered-new = ordered-push (records entries) r table.ordered (rw (length-records entries) above)

  pub standing-no_parent : (depth : ℕ) → r.parent ≡ None
      → IsStanding (with_new entries r) (next_number entries) (record { before = 0; words = 0; depth = depth; jump = next_number entries })
  standing-no_parent depth parent =
      let none : parents_of (with_new entries r) (next_number entries) ≡ []
      = parents-from (record_of (with_new entries r) (next_number entries)) r None (record-new entries r) parent in
      record {
        before = rw none refl;
        few = omega arith;
        words = rw none refl;
        jump = is-own_superclass (with_new entries r) ordered-new (next_number entries);
      }

  module _ (p : ClassId) (e : Entry) (at : slice_get entries p.0 ≡ Some e) (parent : r.parent ≡ Some p) where
    pub parents-new : parents_of (with_new entries r) (next_number entries) ≡ p ∷ []
    parents-new = parents-from (record_of (with_new entries r) (next_number entries)) r (Some p) (record-new entries r) parent

    low : p.0 < length (records entries)
    low = rw (length-records entries) (within-at entries p e at)

    fields_above-new : fields_above (with_new entries r) (next_number entries) ≡ instance_fields (records entries) p
    fields_above-new =
        flat_map-one (instance_fields (with_new entries r)) (parents_of (with_new entries r) (next_number entries)) p parents-new
        ∙ append-nil (instance_fields (with_new entries r) p)
        ∙ sym (instance_fields-agree (length (records entries)) (records entries) (with_new entries r) table.ordered (agree-push (records entries) r) p low)

    pub standing-parent : (before words depth : ℕ) (jump : ClassId) → before ≡ e.standing.before + length e.own.fields
        → words ≡ min (e.standing.words + (length e.own.fields + e.own.longs)) (2 ^ 32 - 1)
        → Contains (superclasses (records entries) p) jump
        → IsStanding (with_new entries r) (next_number entries) (record { before = before; words = words; depth = depth; jump = jump })
    standing-parent before words depth jump before_is words_is jumps =
        record {
          before = before_is ∙ sym (field_count-at entries p e at table) ∙ ap length (sym fields_above-new);
          few = omega (arith, before_is, few_fields-at entries p e at table, within-at entries p e at);
          words = words_is ∙ words-at entries p e at table ∙ ap (λ fields. up_to_32_bits (words_of fields)) (sym fields_above-new);
          jump =
              superclasses-of_parent (with_new entries r) ordered-new (next_number entries) p jump (rw parents-new (Contains-here p []))
              (rw (← (superclasses-agree (length (records entries)) (records entries) (with_new entries r) table.ordered
              (agree-push (records entries) r) p low)) jumps);
        }
