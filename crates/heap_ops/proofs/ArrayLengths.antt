-- The length of an array that an instruction finds.
use Rattle.std.proofs.Common.{◌≡◌, inl, inr, ℕ, pos, ◌+◌, [], ◌∷◌, length, refl, sym, subst}
use Rattle.jk_model.specs.declared.opcodes.TheConstants.{ARRAYLENGTH}
use Rattle.jk_model.specs.declared.steps.After.TheVariants as Next
use Rattle.jk_model.specs.declared.steps.Raise.TheVariants as Raised
use Rattle.jk_model.specs.declared.values.Value.{Value}
use Rattle.jk_model.specs.declared.values.Value.TheVariants as Held
use Rattle.jk_model_classes.specs.declared.records.TypeRef.{TypeRef}
use Rattle.jk_model_heaps.specs.SystemClasses.{NULL_POINTER_EXCEPTION}
use Rattle.jk_model_heap_rows.specs.HeapRows.{array_length}
use Rattle.frame_store.specs.FrameContents.{FrameContent}
use Rattle.object_store.specs.HeapContents.{HeapContent}
use Rattle.heap_ops.specs.declared.here.Here.{Here}
use Rattle.heap_ops.specs.HeapValues.{IsArrayAt}
use Rattle.heap_ops.specs.OneInstruction.{place_in}
use Rattle.heap_ops.specs.TopEntries.{HasEntries, IsNullOrName, PutsFor, StandsBelow}
use Rattle.heap_ops.proofs.ArraysFound.{array_or_null, array_there, as_long, is_heap_array}
use Rattle.heap_ops.proofs.DoingHere.{Doing, Done, below, entries, found, i, is_there, put, raised, s, w, went_on}
use Rattle.heap_ops.proofs.FoundByOpcode.{LengthFound, found_at}

module _ (heaps : HeapContent) (frames : FrameContent) (h : Here) (k : Doing heaps frames h) (op : (place_in h).instr.op ≡ ARRAYLENGTH) where
  abbrev here_found : LengthFound (w heaps frames h k)
  here_found =
      found_at k.setting (s heaps frames h k) (i heaps frames h k) (w heaps frames h k) ARRAYLENGTH op refl refl (found heaps frames h k)

  pub array_below : (v : Value) × StandsBelow frames h.segment 0 v × IsNullOrName v
  array_below =
      let f = here_found in
      (f.array, below heaps frames h k [] f.array [] f.on_top, array_or_null _ f.array f.is_array)

  is_it : (v : Value) → StandsBelow frames h.segment 0 v → (here_found).array ≡ v
  is_it v at = is_there heaps frames h k [] (here_found).array v [] (here_found).on_top at

  pub is_array_at : (a : ℕ) → StandsBelow frames h.segment 0 (Held.Obj a)
      → (element : TypeRef) × (count : ℕ) × IsArrayAt heaps h.domain a element count
  is_array_at a at = array_there heaps frames h k (here_found).array a (here_found).is_array (is_it (Held.Obj a) at)

  pub one_there : HasEntries frames h.segment 1
  one_there = entries heaps frames h k ((here_found).array ∷ []) (here_found).on_top

  pub null_raises : StandsBelow frames h.segment 0 Held.Null → Done heaps frames h k heaps frames k.own (Next.Raise (Raised.Fresh NULL_POINTER_EXCEPTION))
  null_raises at =
      let f = here_found in
      raised heaps frames h k (Raised.Fresh NULL_POINTER_EXCEPTION)
      (array_length (record { op = op; array = f.array; on_top = f.on_top; does = inl (is_it Held.Null at, (refl, refl)) }))

  pub length_pushed : (new : FrameContent) (a : ℕ) (element : TypeRef) (count : ℕ) → StandsBelow frames h.segment 0 (Held.Obj a)
      → IsArrayAt heaps h.domain a element count → PutsFor frames new h.segment 1 (Held.Int (pos count))
      → Done heaps frames h k heaps new k.own (Next.Goto ((place_in h).head.at + 1))
  length_pushed new a element count at is puts =
      let f = here_found in
      let array = is_heap_array _ f.array a f.is_array (is_it (Held.Obj a) at) in
      let long = (as_long heaps frames h k f.array a element count array (is_it (Held.Obj a) at) is).1 in
      let count_is : count ≡ length array.items = sym long in
      let puts_it : PutsFor frames new h.segment 1 (Held.Int (pos (length array.items))) =
      subst (λ (n : ℕ). PutsFor frames new h.segment 1 (Held.Int (pos n))) count_is puts in
      went_on heaps frames h k new (f.array ∷ []) (Held.Int (pos (length array.items)) ∷ []) f.on_top
      (put heaps frames h k new (f.array ∷ []) (Held.Int (pos (length array.items))) f.on_top puts_it)
      (λ new_w goes. array_length (record { op = op; array = f.array; on_top = f.on_top; does = inr (array, goes) }))
