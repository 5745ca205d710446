-- The value of a field that an instruction finds.
use Rattle.std.proofs.Common.{◌≡◌, inl, inr, ℕ, ◌+◌, ◌<◌, ◌^◌, [], ◌∷◌, Some, refl, sym, subst}
use Rattle.std.specs.Prelude.{IsFalse, IsTrue}
use Rattle.jk_model.specs.Flags.{has, STATIC}
use Rattle.jk_model.specs.declared.identifiers.MemberId.{MemberId}
use Rattle.jk_model.specs.declared.opcodes.TheConstants.{GETFIELD}
use Rattle.jk_model.specs.declared.steps.After.TheVariants as Next
use Rattle.jk_model.specs.declared.steps.Raise.TheVariants as Raised
use Rattle.jk_model.specs.declared.values.Value.{Value}
use Rattle.jk_model.specs.declared.values.Value.TheVariants as Held
use Rattle.jk_model_classes.specs.declared.records.FieldRecord.{FieldRecord}
use Rattle.jk_model_classes.specs.Lookups.{FieldIs}
use Rattle.jk_model_domains.specs.Objects.{Object}
use Rattle.jk_model_heaps.specs.SystemClasses.{NULL_POINTER_EXCEPTION}
use Rattle.jk_model_heap_rows.specs.FieldRows.{HasField}
use Rattle.jk_model_heap_rows.specs.HeapRows.{gets_field}
use Rattle.step_contents.specs.Operands.{LeadsToField}
use Rattle.frame_store.specs.FrameContents.{FrameContent}
use Rattle.object_store.specs.HeapContents.{HasItem, HeapContent, IsHeapContent, IsLive, item_of}
use Rattle.row_laws.specs.HeapOperands.{HasFieldOrIsNull}
use Rattle.heap_laws.specs.NamedWell.{uses_object_field}
use Rattle.heap_ops.specs.declared.here.Here.{Here}
use Rattle.heap_ops.specs.HeapValues.{IsOwnPlace}
use Rattle.heap_ops.specs.OneInstruction.{place_in}
use Rattle.heap_ops.specs.TopEntries.{HasEntries, IsNullOrName, PutsFor, StandsBelow}
use Rattle.heap_ops.proofs.ArraysFound.{never_both, null_or_name, null_too}
use Rattle.heap_ops.proofs.DoingHere.{Doing, Done, below, entries, found, i, is_there, put, raised, s, w, went_on}
use Rattle.heap_ops.proofs.FieldsFound.{field_here, is_plain, is_that, item_there, leads, place_small, value_read}
use Rattle.heap_ops.proofs.FoundByOpcode.{GetFieldFound, found_at}

module _ (heaps : HeapContent) (frames : FrameContent) (h : Here) (k : Doing heaps frames h) (op : (place_in h).instr.op ≡ GETFIELD) where
  abbrev here_found : GetFieldFound k.setting (s heaps frames h k) (i heaps frames h k) (w heaps frames h k)
  here_found = found_at k.setting (s heaps frames h k) (i heaps frames h k) (w heaps frames h k) GETFIELD op refl refl (found heaps frames h k)

  by_null : (v : Value) (m : MemberId) → HasFieldOrIsNull k.setting (w heaps frames h k).inside.heap v m → IsNullOrName v
  by_null v m (inl null) = null_too v null
  by_null v m (inr f) = null_or_name v f.name f.refers

  pub object_below : (v : Value) × StandsBelow frames h.segment 0 v × IsNullOrName v
  object_below =
      let f = here_found in (f.receiver, below heaps frames h k [] f.receiver [] f.on_top, by_null f.receiver f.member f.has)

  is_it : (v : Value) → StandsBelow frames h.segment 0 v → here_found.receiver ≡ v
  is_it v at = is_there heaps frames h k [] here_found.receiver v [] here_found.on_top at

  pub one_there : HasEntries frames h.segment 1
  one_there = entries heaps frames h k (here_found.receiver ∷ []) here_found.on_top

  pub null_raises : StandsBelow frames h.segment 0 Held.Null → Done heaps frames h k heaps frames k.own (Next.Raise (Raised.Fresh NULL_POINTER_EXCEPTION))
  null_raises at =
      let f = here_found in
      raised heaps frames h k (Raised.Fresh NULL_POINTER_EXCEPTION)
      (gets_field (record {
        op = op;
        member = f.member;
        field = f.field;
        names = f.names;
        receiver = f.receiver;
        on_top = f.on_top;
        does = inl (is_it Held.Null at, (refl, refl));
      }))

  pub names_one : (m : MemberId) × LeadsToField (place_in h) m
  names_one = let f = here_found in (f.member, leads heaps frames h k f.member f.field f.names)

  module _ (m : MemberId) (to : LeadsToField (place_in h) m) where
    same_member : here_found.member ≡ m
    same_member = is_that heaps frames h k here_found.member here_found.field here_found.names m to

    pub field_there : (field : FieldRecord) × FieldIs h.world.now.classes m field × IsFalse (has field.flags STATIC)
    field_there =
        let f = here_found in (
          f.field,
          subst (λ (n : MemberId). FieldIs h.world.now.classes n f.field) same_member (field_here heaps frames h k f.member f.field f.names),
          is_plain heaps frames h k f.member f.field f.names (subst (λ (n : ℕ). IsTrue (uses_object_field n)) (sym op) refl),
        )

    module _ (a : ℕ) (at : StandsBelow frames h.segment 0 (Held.Obj a)) where
      has_by : (v : Value) (n : MemberId) → HasFieldOrIsNull k.setting (w heaps frames h k).inside.heap v n → v ≡ Held.Obj a
          → HasField k.setting.classes (w heaps frames h k).inside.heap v n
      has_by v n (inl null) is = never_both v a null is
      has_by v n (inr f) is = f

      has_it : HasField k.setting.classes (w heaps frames h k).inside.heap here_found.receiver here_found.member
      has_it = has_by here_found.receiver here_found.member here_found.has (is_it (Held.Obj a) at)

      own_place : (own : ℕ) → IsOwnPlace h.world.now.classes m own → IsOwnPlace h.world.now.classes here_found.member own
      own_place own tells = subst (λ (n : MemberId). IsOwnPlace h.world.now.classes n own) (sym same_member) tells

      pub small : IsHeapContent heaps → (own : ℕ) → IsOwnPlace h.world.now.classes m own → own < 2 ^ 32
      small holds own tells =
          let f = here_found in
          place_small heaps frames h k f.member f.field f.names f.receiver has_it a (is_it (Held.Obj a) at) holds own (own_place own tells)

      pub item : (own : ℕ) → IsOwnPlace h.world.now.classes m own → HasItem heaps h.world.now.classes h.domain a own
      item own tells =
          let f = here_found in
          item_there heaps frames h k f.member f.field f.names f.receiver has_it a (is_it (Held.Obj a) at) own (own_place own tells)

      pub value_pushed : (own : ℕ) (v : Value) (new : FrameContent) → IsOwnPlace h.world.now.classes m own
          → ((o : Object) → IsLive heaps h.domain a o → item_of o own ≡ Some v) → PutsFor frames new h.segment 1 v
          → Done heaps frames h k heaps new k.own (Next.Goto ((place_in h).head.at + 1))
      value_pushed own v new tells reads puts =
          let f = here_found in
          let read = value_read heaps frames h k f.member f.field f.names f.receiver has_it a (is_it (Held.Obj a) at) own v (own_place own tells) reads in
          let puts_it : PutsFor frames new h.segment 1 has_it.value = subst (λ (u : Value). PutsFor frames new h.segment 1 u) (sym read) puts in
          went_on heaps frames h k new (f.receiver ∷ []) (has_it.value ∷ []) f.on_top
          (put heaps frames h k new (f.receiver ∷ []) has_it.value f.on_top puts_it)
          (λ new_w goes. gets_field (record {
            op = op;
            member = f.member;
            field = f.field;
            names = f.names;
            receiver = f.receiver;
            on_top = f.on_top;
            does = inr (has_it, goes);
          }))
