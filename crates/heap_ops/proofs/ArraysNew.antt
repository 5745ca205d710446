-- A new array of so many elements of a type.
use Rattle.std.proofs.Common.{◌≡◌, inl, inr, ℕ, ℤ, pos, ◌+◌, ◌<◌, ◌≤◌, List, [], ◌∷◌, Some, None, refl, ap, subst, ◌∙◌, arith}
use Rattle.jk_model.specs.declared.identifiers.SegmentNo.{SegmentNo}
use Rattle.jk_model.specs.declared.opcodes.TheConstants.{ANEWARRAY, NEWARRAY}
use Rattle.jk_model.specs.declared.steps.After.TheVariants as Next
use Rattle.jk_model.specs.declared.steps.Raise.TheVariants as Raised
use Rattle.jk_model.specs.declared.steps.Standing.TheVariants as Stands
use Rattle.jk_model.specs.declared.values.Value.TheVariants as Held
use Rattle.jk_model_classes.specs.declared.records.BaseRef.{BaseRef}
use Rattle.jk_model_classes.specs.declared.records.BaseRef.TheVariants as Base
use Rattle.jk_model_classes.specs.declared.records.ClassRecord.{ClassRecord}
use Rattle.jk_model_classes.specs.declared.records.TypeRef.{TypeRef}
use Rattle.jk_model_typing.specs.FrameTypes.{array_type}
use Rattle.jk_model_typing.specs.Rows.{IsCodeOf}
use Rattle.jk_model_heaps.specs.declared.shapes.Shape.TheVariants as Of
use Rattle.jk_model_heaps.specs.Heaps.{zero_object}
use Rattle.jk_model_heaps.specs.SystemClasses.{NEGATIVE_ARRAY_SIZE_EXCEPTION}
use Rattle.jk_model_heap_rows.specs.HeapRows.{makes_array}
use Rattle.jk_model_heap_rows.specs.NewObjectRows.{MakesArrayOf, count_of}
use Rattle.step_contents.specs.Operands.{LeadsToType}
use Rattle.frame_store.specs.FrameContents.{FrameContent}
use Rattle.object_store.specs.HeapContents.{HasBase, HeapContent, IsHeapContent, IsSame, MakesObject, shape_words, words_left}
use Rattle.row_laws.proofs.ClassesToMake.{type_known}
use Rattle.heap_laws.proofs.LaidOut.{shape_has_classes}
use Rattle.step_contents.specs.Conditions.{around}
use Rattle.step_contents.proofs.InstructionsBegin.{runs_code, runs_well}
use Rattle.heap_ops.specs.declared.here.Here.{Here}
use Rattle.heap_ops.specs.OneInstruction.{place_in}
use Rattle.heap_ops.specs.TopEntries.{HasEntries, PutsFor, StandsBelow}
use Rattle.heap_ops.proofs.DoingHere.{Doing, Done, below, c, entries, found, i, is_there, put, raised, s, w}
use Rattle.heap_ops.proofs.FoundByOpcode.{NewArrayFound, found_at}
use Rattle.heap_ops.proofs.ObjectsMade.{fails_new, pushed_new}
use Rattle.heap_ops.proofs.RoomOnStack.{shape_at}

-- ---- Counts.

pub is_count : (c : FrameContent) (s : SegmentNo) (above : ℕ) (n : ℤ) (m : ℕ) → n ≡ pos m → StandsBelow c s above (Held.Int n)
    → StandsBelow c s above (Held.Int (pos m))
is_count c s above n m is at = subst (λ (k : ℤ). StandsBelow c s above (Held.Int k)) is at

one_int : {m n : ℤ} → Held.Int m ≡ Held.Int n → m ≡ n
one_int e = cc

-- ---- Element types.

pub code_base : (classes : List ClassRecord) (base : BaseRef) (n : ℕ) → IsCodeOf base n → HasBase classes base
code_base classes (Base.Class c) n is = absurd is
code_base classes Base.Bool n is = tt
code_base classes Base.Char n is = tt
code_base classes Base.Byte n is = tt
code_base classes Base.Short n is = tt
code_base classes Base.Int n is = tt
code_base classes Base.Long n is = tt

module _ (heaps : HeapContent) (frames : FrameContent) (h : Here) (k : Doing heaps frames h) where
  -- what the operand leads to is there
  pub base_there : (t : TypeRef) → LeadsToType (place_in h) t → HasBase h.world.now.classes t.base
  base_there t to =
      shape_has_classes (around k.may.domain) (Of.Array (array_type 0 t.base) 0) k.may.domain.table (
        type_known (around k.may.domain) k.setting (w heaps frames h k)
            (runs_well k.may k.setting k.is_setting)
            (runs_code k.may) t to,
        omega arith,
      )

  pub has_code : (place_in h).instr.op ≡ NEWARRAY → (n : ℕ) × (base : BaseRef) × ((place_in h).instr.a ≡ pos n) × IsCodeOf base n
  has_code op = let is = shape_at heaps frames h k NEWARRAY op in (is.0, is.1, is.2, is.3)

  pub names_element : (place_in h).instr.op ≡ ANEWARRAY → (t : TypeRef) × LeadsToType (place_in h) t
  names_element op = let is = shape_at heaps frames h k ANEWARRAY op in (is.0, is.1)

  pub of_code : (place_in h).instr.op ≡ NEWARRAY → (base : BaseRef) (n : ℕ) → (place_in h).instr.a ≡ pos n → IsCodeOf base n
      → MakesArrayOf (s heaps frames h k) (i heaps frames h k) (array_type 0 base)
  of_code op base n is code = inl (op, (n, base, is, code, refl))

  module _ (element : TypeRef) (of : MakesArrayOf (s heaps frames h k) (i heaps frames h k) element) where
    count_found : NewArrayFound (s heaps frames h k) (i heaps frames h k) (w heaps frames h k)
    count_found = elim of [
      | inl numbers ↦
          found_at k.setting (s heaps frames h k) (i heaps frames h k) (w heaps frames h k) NEWARRAY numbers.0 refl refl (found heaps frames h k)
      | inr named ↦
          found_at k.setting (s heaps frames h k) (i heaps frames h k) (w heaps frames h k) ANEWARRAY named.0 refl refl (found heaps frames h k)
    ]

    pub count_below : (n : ℤ) × StandsBelow frames h.segment 0 (Held.Int n)
    count_below = (count_found.count, below heaps frames h k [] (Held.Int count_found.count) [] count_found.on_top)

    pub one_there : HasEntries frames h.segment 1
    one_there = entries heaps frames h k (Held.Int count_found.count ∷ []) count_found.on_top

    is_it : (n : ℤ) → StandsBelow frames h.segment 0 (Held.Int n) → count_found.count ≡ n
    is_it n at = one_int (is_there heaps frames h k [] (Held.Int count_found.count) (Held.Int n) [] count_found.on_top at)

    pub negative_raises : (n : ℤ) → StandsBelow frames h.segment 0 (Held.Int n) → count_of n ≡ None
        → Done heaps frames h k heaps frames k.own (Next.Raise (Raised.Fresh NEGATIVE_ARRAY_SIZE_EXCEPTION))
    negative_raises n at none =
        let f = count_found in
        raised heaps frames h k (Raised.Fresh NEGATIVE_ARRAY_SIZE_EXCEPTION)
        (makes_array (record {
          element = element;
          of_elements = of;
          count = f.count;
          on_top = f.on_top;
          does = inl (ap count_of (is_it n at) ∙ none, (refl, refl));
        }))

    module _ (m : ℕ) (at : StandsBelow frames h.segment 0 (Held.Int (pos m))) where
      is_some : count_of count_found.count ≡ Some m
      is_some = ap count_of (is_it (pos m) at)

      pub array_pushed : IsHeapContent heaps → (new_heaps : HeapContent) (new_frames : FrameContent) (a : ℕ)
          → MakesObject heaps new_heaps h.world.now.classes h.domain a (zero_object h.world.now.classes (Of.Array element m))
          → shape_words h.world.now.classes (Of.Array element m) ≤ words_left heaps h.domain
          → PutsFor frames new_frames h.segment 1 (Held.Obj a)
          → Done heaps frames h k new_heaps new_frames k.own (Next.Goto ((place_in h).head.at + 1))
      array_pushed holds new_heaps new_frames a makes low puts =
          let f = count_found in
          pushed_new heaps frames h k (Held.Int f.count ∷ []) f.on_top (Of.Array element m) holds new_heaps new_frames a makes low
          (put heaps frames h k new_frames (Held.Int f.count ∷ []) (Held.Obj a) f.on_top puts)
          (λ new_w does. makes_array (record {
            element = element;
            of_elements = of;
            count = f.count;
            on_top = f.on_top;
            does = inr (m, is_some, does);
          }))

      pub array_fails : (new_heaps : HeapContent) → IsSame heaps new_heaps
          → words_left heaps h.domain < shape_words h.world.now.classes (Of.Array element m)
          → Done heaps frames h k new_heaps frames k.own (Next.Raise (Raised.Standing Stands.OutOfMemoryError))
      array_fails new_heaps same low =
          let f = count_found in
          fails_new heaps frames h k (Held.Int f.count ∷ []) f.on_top (Of.Array element m) new_heaps same low
          (λ does. makes_array (record {
            element = element;
            of_elements = of;
            count = f.count;
            on_top = f.on_top;
            does = inr (m, is_some, does);
          }))
