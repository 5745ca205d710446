-- A value that an instruction stores into an array.
use Rattle.std.proofs.Common.{◌≡◌, inl, inr, ℕ, ℤ, pos, ◌+◌, ◌<◌, List, [], ◌∷◌, ◌++◌, length, Some, slice_get, append-nil, refl, sym, ap, subst, ◌∙◌, arith}
use Rattle.std.specs.Prelude.{IsTrue, slice_set}
use Rattle.list_lemmas.proofs.ItemsByPlace.{item_there}
use Rattle.jk_model.specs.declared.opcodes.TheConstants.{AASTORE}
use Rattle.jk_model.specs.declared.steps.After.TheVariants as Next
use Rattle.jk_model.specs.declared.steps.Raise.TheVariants as Raised
use Rattle.jk_model.specs.declared.values.Value.{Value}
use Rattle.jk_model.specs.declared.values.Value.TheVariants as Held
use Rattle.jk_model_classes.specs.declared.records.ClassRecord.{ClassRecord}
use Rattle.jk_model_classes.specs.declared.records.TypeRef.{TypeRef}
use Rattle.jk_model_domains.specs.Objects.{NamedObject, Object, Array, Text}
use Rattle.jk_model_heaps.specs.Heaps.{with_object}
use Rattle.jk_model_heaps.specs.References.{IsHeapArray, IsNullOrInstance}
use Rattle.jk_model_heaps.specs.StoredValues.{stored}
use Rattle.jk_model_heaps.specs.SystemClasses.{ARRAY_INDEX_EXCEPTION, ARRAY_STORE_EXCEPTION, NULL_POINTER_EXCEPTION}
use Rattle.jk_model_heaps.specs.Workings.{GoesOn, GoesOnWith, Working, with_heap}
use Rattle.jk_model_heap_rows.specs.ElementRows.{is_element_store, place_at}
use Rattle.jk_model_heap_rows.specs.HeapRows.{HeapRow, stores_element}
use Rattle.frame_store.specs.FrameContents.{FrameContent, SetsTop}
use Rattle.object_store.specs.HeapContents.{HeapContent, IsHeapContent, IsLive, IsPut, IsWritten, TakesItem, WritesObject}
use Rattle.row_laws.specs.HeapRowLaws.{HeapRowsKeep}
use Rattle.number_laws.proofs.FrameParts.{with_stack}
use Rattle.heap_laws.proofs.LaidOut.{written_alike}
use Rattle.heap_ops.specs.declared.here.Here.{Here}
use Rattle.heap_ops.specs.HeapValues.{HasNoPlace, IsArrayAt}
use Rattle.heap_ops.specs.OneInstruction.{place_in}
use Rattle.heap_ops.specs.TopEntries.{HasEntries, IsNullOrName, StandsBelow, TakesOff}
use Rattle.heap_ops.proofs.ArraysFound.{array_live, array_or_null, array_there, as_long, is_heap_array, no_place, place_meant, same_name}
use Rattle.heap_ops.proofs.DoingHere.{Doing, Done, below, entries, found, i, is_there, raised, s, took, w}
use Rattle.heap_ops.proofs.FieldsFound.{object_sealed}
use Rattle.heap_ops.proofs.FoundByOpcode.{StoreFound, store_found}
use Rattle.heap_ops.proofs.InstructionDone.{going}
use Rattle.heap_ops.proofs.ObjectsMade.{went_on_grown}
use Rattle.heap_ops.proofs.ObjectsPut.{item_kind_kept, new_sealed, stored_small, top_known, written_heap}

module _ (heaps : HeapContent) (frames : FrameContent) (h : Here) (k : Doing heaps frames h) (op : IsTrue (is_element_store (place_in h).instr.op)) where
  abbrev pub here_found : StoreFound (w heaps frames h k)
  here_found = store_found k.setting (s heaps frames h k) (i heaps frames h k) (w heaps frames h k) op (found heaps frames h k)

  abbrev on_stack : List Value
  on_stack = here_found.array ∷ Held.Int here_found.index ∷ here_found.value ∷ []

  pub array_below : (v : Value) × StandsBelow frames h.segment 2 v × IsNullOrName v
  array_below =
      let f = here_found in
      (f.array, below heaps frames h k [] f.array (Held.Int f.index ∷ f.value ∷ []) f.on_top, array_or_null _ f.array f.is_array)

  pub index_below : (n : ℤ) × StandsBelow frames h.segment 1 (Held.Int n)
  index_below = let f = here_found in (f.index, below heaps frames h k (f.array ∷ []) (Held.Int f.index) (f.value ∷ []) f.on_top)

  pub value_below : (v : Value) × StandsBelow frames h.segment 0 v
  value_below = let f = here_found in (f.value, below heaps frames h k (f.array ∷ Held.Int f.index ∷ []) f.value [] f.on_top)

  pub is_it : (v : Value) → StandsBelow frames h.segment 2 v → here_found.array ≡ v
  is_it v at = is_there heaps frames h k [] here_found.array v (Held.Int here_found.index ∷ here_found.value ∷ []) here_found.on_top at

  is_index : (n : ℤ) → StandsBelow frames h.segment 1 (Held.Int n) → here_found.index ≡ n
  is_index n at =
      one_int (is_there heaps frames h k (here_found.array ∷ []) (Held.Int here_found.index) (Held.Int n) (here_found.value ∷ []) here_found.on_top at)
    where
      one_int : {m n : ℤ} → Held.Int m ≡ Held.Int n → m ≡ n
      one_int e = cc

  pub is_value : (v : Value) → StandsBelow frames h.segment 0 v → here_found.value ≡ v
  is_value v at = is_there heaps frames h k (here_found.array ∷ Held.Int here_found.index ∷ []) here_found.value v [] here_found.on_top at

  pub is_array_at : (a : ℕ) → StandsBelow frames h.segment 2 (Held.Obj a)
      → (element : TypeRef) × (count : ℕ) × IsArrayAt heaps h.domain a element count
  is_array_at a at = array_there heaps frames h k here_found.array a here_found.is_array (is_it (Held.Obj a) at)

  pub three_there : HasEntries frames h.segment 3
  three_there = entries heaps frames h k on_stack here_found.on_top

  pub null_raises : StandsBelow frames h.segment 2 Held.Null → Done heaps frames h k heaps frames k.own (Next.Raise (Raised.Fresh NULL_POINTER_EXCEPTION))
  null_raises at =
      let f = here_found in
      raised heaps frames h k (Raised.Fresh NULL_POINTER_EXCEPTION)
      (stores_element (record {
        op = op;
        array = f.array;
        index = f.index;
        value = f.value;
        on_top = f.on_top;
        does = inl (is_it Held.Null at, (refl, refl));
      }))

  module _ (a : ℕ) (element : TypeRef) (count : ℕ) (at : StandsBelow frames h.segment 2 (Held.Obj a)) (is : IsArrayAt heaps h.domain a element count)
      (n : ℤ) (index_at : StandsBelow frames h.segment 1 (Held.Int n)) where
    abbrev pub array_here : IsHeapArray (w heaps frames h k).inside.heap here_found.array
    array_here = is_heap_array _ here_found.array a here_found.is_array (is_it (Held.Obj a) at)

    long : length array_here.items ≡ count
    long = (as_long heaps frames h k here_found.array a element count array_here (is_it (Held.Obj a) at) is).1

    pub same_element : array_here.element ≡ element
    same_element = (as_long heaps frames h k here_found.array a element count array_here (is_it (Held.Obj a) at) is).0

    pub index_raises : HasNoPlace n count → Done heaps frames h k heaps frames k.own (Next.Raise (Raised.Fresh ARRAY_INDEX_EXCEPTION))
    index_raises none =
        let f = here_found in
        let nothing = ap (place_at array_here.items) (is_index n index_at) ∙ no_place array_here.items n count long none in
        raised heaps frames h k (Raised.Fresh ARRAY_INDEX_EXCEPTION)
        (stores_element (record {
          op = op;
          array = f.array;
          index = f.index;
          value = f.value;
          on_top = f.on_top;
          does = inr (inl (array_here, (nothing, (refl, refl))));
        }))

    module _ (place : ℕ) (meant : n ≡ pos place) (low : place < count) where
      place_is : place_at array_here.items here_found.index ≡ Some place
      place_is = place_meant array_here.items here_found.index count place long (is_index n index_at ∙ meant) low

      pub type_raises : (place_in h).instr.op ≡ AASTORE
          → (IsNullOrInstance k.setting (w heaps frames h k).inside.heap here_found.value array_here.element → ⊥)
          → Done heaps frames h k heaps frames k.own (Next.Raise (Raised.Fresh ARRAY_STORE_EXCEPTION))
      type_raises references never =
          let f = here_found in
          raised heaps frames h k (Raised.Fresh ARRAY_STORE_EXCEPTION)
          (stores_element (record {
            op = op;
            array = f.array;
            index = f.index;
            value = f.value;
            on_top = f.on_top;
            does = inr (inr (inl (array_here, place, place_is, references, never, (refl, refl))));
          }))

      module _ (keep : HeapRowsKeep) (holds : IsHeapContent heaps)
          (suits : (place_in h).instr.op ≡ AASTORE → IsNullOrInstance k.setting (w heaps frames h k).inside.heap here_found.value array_here.element)
          (v u : Value) (stands : StandsBelow frames h.segment 0 v) (left : u ≡ stored element v) where
        abbrev f : StoreFound (w heaps frames h k)
        f = here_found

        abbrev x : IsHeapArray (w heaps frames h k).inside.heap f.array
        x = array_here

        abbrev old : Object
        old = Array x.element x.items

        -- the array with the item
        abbrev new : Object
        new = Array x.element (slice_set x.items place (stored x.element f.value))

        abbrev heap_then : List NamedObject
        heap_then = with_object x.name new (w heaps frames h k).inside.heap

        abbrev going_on : Working
        going_on = record {
          inside = with_heap (w heaps frames h k).inside heap_then;
          frame = with_stack (w heaps frames h k).frame (f.on_top.0 ++ []);
        }

        row_of : (new_w : Working)
            → GoesOnWith (w heaps frames h k) on_stack [] (with_heap (w heaps frames h k).inside heap_then) new_w
            (GoesOn ((w heaps frames h k).frame.head.at + 1))
            → HeapRow k.setting (s heaps frames h k) (i heaps frames h k) (w heaps frames h k) new_w (GoesOn ((w heaps frames h k).frame.head.at + 1))
        row_of new_w goes = stores_element (record {
          op = op;
          array = f.array;
          index = f.index;
          value = f.value;
          on_top = f.on_top;
          does = inr (inr (inr (x, place, place_is, suits, goes)));
        })

        row : HeapRow k.setting (s heaps frames h k) (i heaps frames h k) (w heaps frames h k) going_on (GoesOn ((w heaps frames h k).frame.head.at + 1))
        row = row_of going_on (going (w heaps frames h k) on_stack [] (with_heap (w heaps frames h k).inside heap_then) f.on_top)

        same_stored : stored x.element f.value ≡ u
        same_stored = ap (stored x.element) (is_value v stands) ∙ ap (λ (t : TypeRef). stored t v) same_element ∙ sym left

        here_live : IsLive heaps h.domain a old
        here_live = array_live heaps frames h k f.array a x (is_it (Held.Obj a) at)

        abbrev item : (y : Value) × (slice_get x.items place ≡ Some y)
        item = item_there x.items place (omega (arith, long, low))

        put_in : IsPut x.items place (stored x.element f.value) (slice_set x.items place (stored x.element f.value))
        put_in = record {
          before = item.0;
          stands = item.1;
          kind = item_kind_kept heaps frames h k x.element x.items place item.0 (stored x.element f.value) heap_then
              (object_sealed heaps frames h k x.name old x.object)
              (new_sealed heaps frames h k keep x.name old new x.object going_on refl row) item.1;
          small = stored_small heaps frames h k holds x.element f.value (top_known heaps frames h k on_stack f.on_top).1.1.0;
          becomes = refl;
        }

        written : IsWritten old place u new
        written =
            subst (λ (y : Value). IsWritten old place y new) same_stored
            (slice_set x.items place (stored x.element f.value), put_in, refl)

        pub takes : (classes : List ClassRecord) → TakesItem heaps classes h.domain a place u
        takes classes = record { object = old; live = here_live; laid_out = tt; new = new; written = written }

        pub element_put : (new_heaps : HeapContent) (new_frames : FrameContent)
            → ((o p : Object) → IsLive heaps h.domain a o → IsWritten o place u p → WritesObject heaps new_heaps h.domain a p)
            → TakesOff frames new_frames h.segment 3 → Done heaps frames h k new_heaps new_frames k.own (Next.Goto ((place_in h).head.at + 1))
        element_put new_heaps new_frames writes taken =
            let named_so : x.name ≡ a = same_name f.array x.name a x.refers (is_it (Held.Obj a) at) in
            let wrote : WritesObject heaps new_heaps h.domain x.name new =
            subst (λ (m : ℕ). WritesObject heaps new_heaps h.domain m new) (sym named_so) (writes old new here_live written) in
            let alike = written_alike old new place u (λ units e. no_text units e) written in
            went_on_grown heaps frames h k new_heaps new_frames heap_then on_stack [] f.on_top
            (written_heap heaps frames h k new_heaps x.name old new x.object alike wrote)
            (subst (λ (xs : List Value). SetsTop frames new_frames h.segment (with_stack (w heaps frames h k).frame xs)) (sym (append-nil f.on_top.0))
            (took heaps frames h k new_frames on_stack f.on_top taken))
            row_of
          where
            no_text : (units : List ℕ) → Array x.element x.items ≡ Text units → ⊥
            no_text units e = cc
