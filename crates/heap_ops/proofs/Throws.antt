-- The object that athrow finds.
use Rattle.std.proofs.Common.{◌≡◌, inl, inr, ℕ, [], refl}
use Rattle.jk_model.specs.declared.opcodes.TheConstants.{ATHROW}
use Rattle.jk_model.specs.declared.steps.After.TheVariants as Next
use Rattle.jk_model.specs.declared.steps.Raise.TheVariants as Raised
use Rattle.jk_model.specs.declared.values.Value.{Value}
use Rattle.jk_model.specs.declared.values.Value.TheVariants as Held
use Rattle.jk_model_heaps.specs.SystemClasses.{NULL_POINTER_EXCEPTION}
use Rattle.jk_model_heap_rows.specs.HeapRows.{raises_object}
use Rattle.frame_store.specs.FrameContents.{FrameContent}
use Rattle.object_store.specs.HeapContents.{HeapContent}
use Rattle.heap_ops.specs.declared.here.Here.{Here}
use Rattle.heap_ops.specs.OneInstruction.{place_in}
use Rattle.heap_ops.specs.TopEntries.{IsNullOrName, StandsBelow}
use Rattle.heap_ops.proofs.ArraysFound.{object_or_null}
use Rattle.heap_ops.proofs.DoingHere.{Doing, Done, below, found, i, is_there, raised, s, w}
use Rattle.heap_ops.proofs.FoundByOpcode.{ThrowFound, found_at}

module _ (heaps : HeapContent) (frames : FrameContent) (h : Here) (k : Doing heaps frames h) (op : (place_in h).instr.op ≡ ATHROW) where
  abbrev here_found : ThrowFound (w heaps frames h k)
  here_found = found_at k.setting (s heaps frames h k) (i heaps frames h k) (w heaps frames h k) ATHROW op refl refl (found heaps frames h k)

  pub object_below : (v : Value) × StandsBelow frames h.segment 0 v × IsNullOrName v
  object_below =
      let f = here_found in (f.value, below heaps frames h k [] f.value [] f.on_top, object_or_null _ f.value f.is_object)

  is_it : (v : Value) → StandsBelow frames h.segment 0 v → here_found.value ≡ v
  is_it v at = is_there heaps frames h k [] here_found.value v [] here_found.on_top at

  pub null_raises : StandsBelow frames h.segment 0 Held.Null → Done heaps frames h k heaps frames k.own (Next.Raise (Raised.Fresh NULL_POINTER_EXCEPTION))
  null_raises at =
      let f = here_found in
      raised heaps frames h k (Raised.Fresh NULL_POINTER_EXCEPTION)
      (raises_object (record { op = op; value = f.value; on_top = f.on_top; does = inl (is_it Held.Null at, (refl, refl)) }))

  pub object_raises : (a : ℕ) → StandsBelow frames h.segment 0 (Held.Obj a) → Done heaps frames h k heaps frames k.own (Next.Raise (Raised.Object a))
  object_raises a at =
      let f = here_found in
      raised heaps frames h k (Raised.Object a)
      (raises_object (record { op = op; value = f.value; on_top = f.on_top; does = inr (a, is_it (Held.Obj a) at, (refl, refl)) }))
