-- A value that is put into an object: it is of the kind of the value that stands there, and small; and the heap that is left.
use Rattle.std.proofs.Common.{◌≡◌, ℕ, ◌+◌, List, Some, slice_get, sym, ap, subst, ◌∙◌, arith}
use Rattle.std.specs.Prelude.{slice_set}
use Rattle.std.specs.List.{AllByRecursion}
use Rattle.std.proofs.lemmas.Option.{slice_get_within}
use Rattle.list_lemmas.proofs.ItemsByPlace.{item_there, slice_get-set_same}
use Rattle.jk_model.specs.declared.identifiers.ClassId.{ClassId}
use Rattle.jk_model.specs.declared.values.Value.{Value}
use Rattle.jk_model.proofs.EachItem.{all_at, all_back}
use Rattle.jk_model_classes.specs.declared.records.ClassRecord.{ClassRecord}
use Rattle.jk_model_classes.specs.declared.records.TypeRef.{TypeRef}
use Rattle.jk_model_domains.specs.NumberRows.{IsOnTop}
use Rattle.jk_model_domains.specs.Objects.{NamedObject, Object, Array, Plain, object_named}
use Rattle.jk_model_domains.specs.OwnStates.{zero_of}
use Rattle.jk_model_domains.specs.ValueTypes.{HoldsDeclared}
use Rattle.jk_model_heaps.specs.Heaps.{IsAlike, field_records, heap_words, named, with_object}
use Rattle.jk_model_heaps.specs.StoredValues.{stored}
use Rattle.jk_model_heaps.specs.Workings.{GoesOn, Working, with_heap}
use Rattle.object_store.proofs.ObjectsByName.{named_in_place}
use Rattle.object_store.proofs.KindsOfValues.{alike}
use Rattle.jk_model_heap_rows.specs.HeapRows.{HeapRow}
use Rattle.jk_model_sealing.specs.SealedInsides.{IsKnownValue, IsSealedInside, IsSealedObject}
use Rattle.jk_model_sharing.specs.SharedStates.{caps_of}
use Rattle.frame_store.specs.FrameContents.{FrameContent}
use Rattle.heap_laws.proofs.ObjectsAfterChanges.{found_stands, written_words}
use Rattle.row_laws.specs.HeapRowLaws.{HeapRowsKeep}
use Rattle.object_store.specs.HeapContents.{AreOfKind, HeapBecomes, HeapContent, IsHeapContent, IsSmall, WritesObject}
use Rattle.row_laws.proofs.InsidesWritten.{stored_known}
use Rattle.step_contents.specs.Conditions.{around}
use Rattle.heap_laws.proofs.KindsOfTypes.{kind_of_zero}
use Rattle.heap_laws.proofs.LaidOut.{known_small}
use Rattle.step_contents.proofs.InstructionsBegin.{runs_code, runs_well}
use Rattle.heap_ops.specs.declared.here.Here.{Here}
use Rattle.heap_ops.specs.OneInstruction.{place_in}
use Rattle.heap_ops.proofs.DoingHere.{Doing, c, here, i, s, same_heap, w}
use Rattle.heap_ops.proofs.InstructionDone.{heap_words_used}

module _ (heaps : HeapContent) (frames : FrameContent) (h : Here) (k : Doing heaps frames h) where
  abbrev heap : List NamedObject
  heap = (w heaps frames h k).inside.heap

  abbrev classes : List ClassRecord
  classes = h.world.now.classes

  -- what is known of the values on top
  pub top_known : (taken : List Value) → IsOnTop (w heaps frames h k).frame taken → AllByRecursion (IsKnownValue (caps_of k.shared) heap) taken
  top_known taken on_top =
      all_back (IsKnownValue (caps_of k.shared) heap) on_top.0 taken
      (subst (AllByRecursion (IsKnownValue (caps_of k.shared) heap)) on_top.1
      (runs_well k.may k.setting k.is_setting).known.1)

  pub stored_small : IsHeapContent heaps → (t : TypeRef) (v : Value) → IsKnownValue (caps_of k.shared) heap v → IsSmall (stored t v)
  stored_small holds t v known =
      known_small heaps h.domain (caps_of k.shared) (stored t v) holds (λ n given. (k.may.domain.shares.capabilities n given).1)
      (subst (λ (xs : List NamedObject). IsKnownValue (caps_of k.shared) xs (stored t v)) (same_heap heaps frames h k)
      (stored_known (caps_of k.shared) heap t v known))

  -- ---- An object of the heap that a row leaves.

  module _ (keep : HeapRowsKeep) (a : ℕ) (o new : Object) (there : object_named heap a ≡ Some o) (g : Working) (leaves : g.inside ≡ with_heap
      (w heaps frames h k).inside (with_object a new heap))
      (row : HeapRow k.setting (s heaps frames h k) (i heaps frames h k) (w heaps frames h k) g (GoesOn ((w heaps frames h k).frame.head.at + 1))) where
    after_sealed : IsSealedInside (around k.may.domain) k.setting.quota g.inside
    after_sealed =
        (keep (around k.may.domain) k.setting (w heaps frames h k) g (GoesOn ((w heaps frames h k).frame.head.at + 1))
        (runs_well k.may k.setting k.is_setting)
        (runs_code k.may) row).0.inside.sealed

    pub new_sealed : IsSealedObject (around k.may.domain) (with_object a new heap) new
    new_sealed =
        let sealed : IsSealedInside (around k.may.domain) k.setting.quota (with_heap (w heaps frames h k).inside (with_object a new heap)) =
        subst (IsSealedInside (around k.may.domain) k.setting.quota) leaves after_sealed in
        sealed.objects (named a new) (found_stands a new (with_object a new heap) (named_in_place a new o heap there))

  one_type_kind : (before after : List NamedObject) (t : TypeRef) (v u : Value) → HoldsDeclared classes before v t → HoldsDeclared classes after u t
      → AreOfKind v u
  one_type_kind before after t v u first second =
      alike (zero_of t) v u (kind_of_zero classes before t v first) (kind_of_zero classes after t u second)

  -- a field's value is of the kind of the one that takes its place
  pub field_kind_kept : (class : ClassId) (fields : List Value) (place : ℕ) (v u : Value) (new : List NamedObject)
      → IsSealedObject (around k.may.domain) heap (Plain class fields)
      → IsSealedObject (around k.may.domain) new (Plain class (slice_set fields place u)) → slice_get fields place ≡ Some v → AreOfKind v u
  field_kind_kept class fields place v u new before after at =
      let low = slice_get_within fields place v at in
      let record_at = item_there (field_records classes class) place (omega (arith, low, before.5.as_many)) in
      one_type_kind heap new record_at.0.kind v u (before.5.each place v record_at.0 at record_at.1).0
      (after.5.each place u record_at.0 (slice_get-set_same fields place u low) record_at.1).0

  -- and so is an item's
  pub item_kind_kept : (element : TypeRef) (items : List Value) (place : ℕ) (v u : Value) (new : List NamedObject)
      → IsSealedObject (around k.may.domain) heap (Array element items)
      → IsSealedObject (around k.may.domain) new (Array element (slice_set items place u)) → slice_get items place ≡ Some v → AreOfKind v u
  item_kind_kept element items place v u new before after at =
      let low = slice_get_within items place v at in
      let first = all_at _ items place v before.2 at in
      let second = all_at _ (slice_set items place u) place u after.2 (slice_get-set_same items place u low) in
      one_type_kind heap new element v u first.0 second.0

  -- ---- The heap that is left.

  pub written_heap : (new_heaps : HeapContent) (a : ℕ) (o new : Object) → object_named heap a ≡ Some o → IsAlike o new
      → WritesObject heaps new_heaps h.domain a new
      → HeapBecomes heaps new_heaps h.domain (with_object a new heap) (heap_words classes (with_object a new heap))
  written_heap new_heaps a o new there alike writes = record {
    domains = writes.domains;
    becomes = writes.becomes ∙ ap (with_object a new) (sym (same_heap heaps frames h k));
    others = writes.others;
    uses = writes.uses ∙ heap_words_used (c heaps frames h k) (here heaps frames h k) (place_in h) k.may
        ∙ sym (written_words classes a new o heap k.may.sealed.inside.names_differ alike there);
    other_uses = writes.other_uses;
    mark = writes.mark;
  }
