-- A value that an instruction puts into a field.
use Rattle.std.proofs.Common.{◌≡◌, inl, inr, ℕ, ◌+◌, ◌<◌, ◌^◌, List, [], ◌∷◌, ◌++◌, append-nil, refl, sym, ap, subst, ◌∙◌}
use Rattle.std.specs.Prelude.{IsFalse, IsTrue, slice_set}
use Rattle.jk_model.specs.Flags.{has, STATIC}
use Rattle.jk_model.specs.declared.identifiers.MemberId.{MemberId}
use Rattle.jk_model.specs.declared.opcodes.TheConstants.{PUTFIELD}
use Rattle.jk_model.specs.declared.steps.After.TheVariants as Next
use Rattle.jk_model.specs.declared.steps.Raise.TheVariants as Raised
use Rattle.jk_model.specs.declared.values.Value.{Value}
use Rattle.jk_model.specs.declared.values.Value.TheVariants as Held
use Rattle.jk_model_classes.specs.declared.records.TypeRef.{TypeRef}
use Rattle.jk_model_classes.specs.Lookups.{FieldIs}
use Rattle.jk_model_domains.specs.Objects.{NamedObject, Object, Plain, Text}
use Rattle.jk_model_heaps.specs.Heaps.{with_object}
use Rattle.jk_model_heaps.specs.StoredValues.{stored}
use Rattle.jk_model_heaps.specs.SystemClasses.{NULL_POINTER_EXCEPTION}
use Rattle.jk_model_heaps.specs.Workings.{GoesOn, GoesOnWith, Working, with_heap}
use Rattle.jk_model_heap_rows.specs.FieldRows.{HasField}
use Rattle.jk_model_heap_rows.specs.HeapRows.{HeapRow, puts_field}
use Rattle.step_contents.specs.Operands.{LeadsToField}
use Rattle.frame_store.specs.FrameContents.{FrameContent, SetsTop}
use Rattle.object_store.specs.HeapContents.{HeapContent, IsHeapContent, IsLive, IsPut, IsWritten, TakesItem, WritesObject}
use Rattle.row_laws.specs.HeapOperands.{HasFieldOrIsNull}
use Rattle.row_laws.specs.HeapRowLaws.{HeapRowsKeep}
use Rattle.number_laws.proofs.FrameParts.{with_stack}
use Rattle.heap_laws.specs.NamedWell.{uses_object_field}
use Rattle.heap_laws.proofs.LaidOut.{written_alike}
use Rattle.heap_ops.specs.declared.here.Here.{Here}
use Rattle.heap_ops.specs.HeapValues.{IsOwnPlace}
use Rattle.heap_ops.specs.OneInstruction.{place_in}
use Rattle.heap_ops.specs.TopEntries.{HasEntries, IsNullOrName, StandsBelow, TakesOff}
use Rattle.heap_ops.proofs.ArraysFound.{never_both, null_or_name, null_too, same_name}
use Rattle.heap_ops.proofs.DoingHere.{Doing, Done, below, entries, found, i, is_there, raised, s, took, w}
use Rattle.heap_ops.proofs.FieldsFound.{field_here, is_plain, is_that, laid_out, leads, object_live, object_named_so, object_sealed, place_small, place_told}
use Rattle.heap_ops.proofs.FoundByOpcode.{PutFieldFound, found_at}
use Rattle.heap_ops.proofs.InstructionDone.{going}
use Rattle.heap_ops.proofs.ObjectsMade.{went_on_grown}
use Rattle.heap_ops.proofs.ObjectsPut.{field_kind_kept, new_sealed, stored_small, top_known, written_heap}

module _ (heaps : HeapContent) (frames : FrameContent) (h : Here) (k : Doing heaps frames h) (op : (place_in h).instr.op ≡ PUTFIELD) where
  abbrev pub here_found : PutFieldFound k.setting (s heaps frames h k) (i heaps frames h k) (w heaps frames h k)
  here_found = found_at k.setting (s heaps frames h k) (i heaps frames h k) (w heaps frames h k) PUTFIELD op refl refl (found heaps frames h k)

  by_null : (v : Value) (m : MemberId) → HasFieldOrIsNull k.setting (w heaps frames h k).inside.heap v m → IsNullOrName v
  by_null v m (inl null) = null_too v null
  by_null v m (inr f) = null_or_name v f.name f.refers

  pub object_below : (v : Value) × StandsBelow frames h.segment 1 v × IsNullOrName v
  object_below =
      let f = here_found in
      (f.receiver, below heaps frames h k [] f.receiver (f.value ∷ []) f.on_top, by_null f.receiver f.member f.has)

  pub value_below : (v : Value) × StandsBelow frames h.segment 0 v
  value_below = let f = here_found in (f.value, below heaps frames h k (f.receiver ∷ []) f.value [] f.on_top)

  is_it : (v : Value) → StandsBelow frames h.segment 1 v → here_found.receiver ≡ v
  is_it v at = is_there heaps frames h k [] here_found.receiver v (here_found.value ∷ []) here_found.on_top at

  pub two_there : HasEntries frames h.segment 2
  two_there = entries heaps frames h k (here_found.receiver ∷ here_found.value ∷ []) here_found.on_top

  pub null_raises : StandsBelow frames h.segment 1 Held.Null → Done heaps frames h k heaps frames k.own (Next.Raise (Raised.Fresh NULL_POINTER_EXCEPTION))
  null_raises at =
      let f = here_found in
      raised heaps frames h k (Raised.Fresh NULL_POINTER_EXCEPTION)
      (puts_field (record {
        op = op;
        member = f.member;
        field = f.field;
        names = f.names;
        receiver = f.receiver;
        value = f.value;
        on_top = f.on_top;
        does = inl (is_it Held.Null at, (refl, refl));
      }))

  pub names_one : (m : MemberId) × LeadsToField (place_in h) m
  names_one = let f = here_found in (f.member, leads heaps frames h k f.member f.field f.names)

  module _ (m : MemberId) (to : LeadsToField (place_in h) m) where
    same_member : here_found.member ≡ m
    same_member = is_that heaps frames h k here_found.member here_found.field here_found.names m to

    pub field_there : FieldIs h.world.now.classes m here_found.field × IsFalse (has here_found.field.flags STATIC)
    field_there =
        let f = here_found in (
          subst (λ (n : MemberId). FieldIs h.world.now.classes n f.field) same_member (field_here heaps frames h k f.member f.field f.names),
          is_plain heaps frames h k f.member f.field f.names (subst (λ (n : ℕ). IsTrue (uses_object_field n)) (sym op) refl),
        )

    module _ (a : ℕ) (at : StandsBelow frames h.segment 1 (Held.Obj a)) where
      has_by : (v : Value) (n : MemberId) → HasFieldOrIsNull k.setting (w heaps frames h k).inside.heap v n → v ≡ Held.Obj a
          → HasField k.setting.classes (w heaps frames h k).inside.heap v n
      has_by v n (inl null) is = never_both v a null is
      has_by v n (inr f) is = f

      has_it : HasField k.setting.classes (w heaps frames h k).inside.heap here_found.receiver here_found.member
      has_it = has_by here_found.receiver here_found.member here_found.has (is_it (Held.Obj a) at)

      own_place : (own : ℕ) → IsOwnPlace h.world.now.classes m own → IsOwnPlace h.world.now.classes here_found.member own
      own_place own tells = subst (λ (n : MemberId). IsOwnPlace h.world.now.classes n own) (sym same_member) tells

      pub small : IsHeapContent heaps → (own : ℕ) → IsOwnPlace h.world.now.classes m own → own < 2 ^ 32
      small holds own tells =
          let f = here_found in
          place_small heaps frames h k f.member f.field f.names f.receiver has_it a (is_it (Held.Obj a) at) holds own (own_place own tells)

      module _ (keep : HeapRowsKeep) (holds : IsHeapContent heaps) (own : ℕ) (tells : IsOwnPlace h.world.now.classes m own) (t : TypeRef) (v u : Value)
          (kind : t ≡ here_found.field.kind) (stands : StandsBelow frames h.segment 0 v) (is : u ≡ stored t v) where
        abbrev f : PutFieldFound k.setting (s heaps frames h k) (i heaps frames h k) (w heaps frames h k)
        f = here_found

        abbrev x : HasField k.setting.classes (w heaps frames h k).inside.heap f.receiver f.member
        x = has_it

        abbrev old : Object
        old = Plain x.class x.fields

        -- the object with the field's value
        abbrev new : Object
        new = Plain x.class (slice_set x.fields x.place (stored f.field.kind f.value))

        abbrev heap_then : List NamedObject
        heap_then = with_object x.name new (w heaps frames h k).inside.heap

        abbrev going_on : Working
        going_on = record {
          inside = with_heap (w heaps frames h k).inside heap_then;
          frame = with_stack (w heaps frames h k).frame (f.on_top.0 ++ []);
        }

        row_of : (new_w : Working)
            → GoesOnWith (w heaps frames h k) (f.receiver ∷ f.value ∷ []) [] (with_heap (w heaps frames h k).inside heap_then) new_w
            (GoesOn ((w heaps frames h k).frame.head.at + 1))
            → HeapRow k.setting (s heaps frames h k) (i heaps frames h k) (w heaps frames h k) new_w (GoesOn ((w heaps frames h k).frame.head.at + 1))
        row_of new_w goes = puts_field (record {
          op = op;
          member = f.member;
          field = f.field;
          names = f.names;
          receiver = f.receiver;
          value = f.value;
          on_top = f.on_top;
          does = inr (x, goes);
        })

        row : HeapRow k.setting (s heaps frames h k) (i heaps frames h k) (w heaps frames h k) going_on (GoesOn ((w heaps frames h k).frame.head.at + 1))
        row = row_of going_on (going (w heaps frames h k) (f.receiver ∷ f.value ∷ []) [] (with_heap (w heaps frames h k).inside heap_then) f.on_top)

        value : f.value ≡ v
        value = is_there heaps frames h k (f.receiver ∷ []) f.value v [] f.on_top stands

        same_stored : stored f.field.kind f.value ≡ u
        same_stored = ap (stored f.field.kind) value ∙ ap (λ (y : TypeRef). stored y v) (sym kind) ∙ sym is

        placed : x.place ≡ own
        placed = place_told heaps frames h k f.member f.field f.names f.receiver x a (is_it (Held.Obj a) at) own (own_place own tells)

        put_in : IsPut x.fields x.place (stored f.field.kind f.value) (slice_set x.fields x.place (stored f.field.kind f.value))
        put_in = record {
          before = x.value;
          stands = x.is_value;
          kind = field_kind_kept heaps frames h k x.class x.fields x.place x.value (stored f.field.kind f.value) heap_then
              (object_sealed heaps frames h k x.name old x.object)
              (new_sealed heaps frames h k keep x.name old new x.object going_on refl row) x.is_value;
          small = stored_small heaps frames h k holds f.field.kind f.value (top_known heaps frames h k (f.receiver ∷ f.value ∷ []) f.on_top).1.0;
          becomes = refl;
        }

        written : IsWritten old own u new
        written =
            subst (λ (n : ℕ). IsWritten old n u new) placed
            (subst (λ (y : Value). IsWritten old x.place y new) same_stored
            (slice_set x.fields x.place (stored f.field.kind f.value), put_in, refl))

        pub takes : TakesItem heaps h.world.now.classes h.domain a own u
        takes = record {
          object = old;
          live = object_live heaps frames h k f.member f.field f.names f.receiver x a (is_it (Held.Obj a) at);
          laid_out = laid_out heaps frames h k a old (object_named_so heaps frames h k f.member f.field f.names f.receiver x a (is_it (Held.Obj a) at));
          new = new;
          written = written;
        }

        pub value_put : (new_heaps : HeapContent) (new_frames : FrameContent)
            → ((o p : Object) → IsLive heaps h.domain a o → IsWritten o own u p → WritesObject heaps new_heaps h.domain a p)
            → TakesOff frames new_frames h.segment 2 → Done heaps frames h k new_heaps new_frames k.own (Next.Goto ((place_in h).head.at + 1))
        value_put new_heaps new_frames writes taken =
            let named_so : x.name ≡ a = same_name f.receiver x.name a x.refers (is_it (Held.Obj a) at) in
            let wrote : WritesObject heaps new_heaps h.domain x.name new =
            subst (λ (n : ℕ). WritesObject heaps new_heaps h.domain n new) (sym named_so)
            (writes old new (object_live heaps frames h k f.member f.field f.names f.receiver x a (is_it (Held.Obj a) at)) written) in
            let alike = written_alike old new own u (λ units e. no_text units e) written in
            went_on_grown heaps frames h k new_heaps new_frames heap_then (f.receiver ∷ f.value ∷ []) [] f.on_top
            (written_heap heaps frames h k new_heaps x.name old new x.object alike wrote)
            (subst (λ (xs : List Value). SetsTop frames new_frames h.segment (with_stack (w heaps frames h k).frame xs)) (sym (append-nil f.on_top.0))
            (took heaps frames h k new_frames (f.receiver ∷ f.value ∷ []) f.on_top taken))
            row_of
          where
            no_text : (units : List ℕ) → Plain x.class x.fields ≡ Text units → ⊥
            no_text units e = cc
