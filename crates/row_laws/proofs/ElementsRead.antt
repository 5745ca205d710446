-- What a load of an element pushes is of the array's element type, null and a wrong index are refused, and an array has a length: these rows
-- keep what is kept.
use Rattle.std.proofs.Common.{inl, inr, ◌≡◌, ℕ, IsTrue, not, ℤ, pos, List, [], ◌∷◌, length, Some, slice_get, refl, sym, ap, subst, arith}
use Rattle.jk_model.specs.declared.values.Value.{Value}
use Rattle.jk_model.specs.declared.values.Value.TheVariants as Held
use Rattle.jk_model_classes.specs.declared.records.BaseRef.{BaseRef}
use Rattle.jk_model_classes.specs.declared.records.BaseRef.TheVariants as Base
use Rattle.jk_model_classes.specs.declared.records.ClassRecord.{ClassRecord}
use Rattle.jk_model_typing.specs.declared.frames.Demand.{Demand}
use Rattle.jk_model_typing.specs.declared.frames.Demand.TheVariants.{Array, Fitting, FittingEither}
use Rattle.jk_model_typing.specs.declared.frames.VType.{VType}
use Rattle.jk_model_typing.specs.declared.frames.VType.TheVariants.{Int, Ref}
use Rattle.jk_model_typing.specs.FrameTypes.{array_type, value_of}
use Rattle.jk_model_typing.specs.Groups.{Takes}
use Rattle.jk_model_typing.specs.Rows.{IsClass}
use Rattle.jk_model_typing.specs.Typing.{leaves_line}
use Rattle.jk_model_domains.specs.ValueTypes.{HoldsDeclared, ValueFits}
use Rattle.jk_model_heaps.specs.References.{IsHeapArray}
use Rattle.jk_model_heaps.specs.RunningCode.{RunsCode}
use Rattle.jk_model_heaps.specs.Workings.{GoesOnWith, Outcome, Setting, Working}
use Rattle.jk_model_heap_rows.specs.ElementRows.{ArrayLength, LoadsElement}
use Rattle.jk_model_sealing.specs.SealedInsides.{Surroundings}
use Rattle.heap_laws.specs.FittingOutcomes.{IsOfType}
use Rattle.heap_laws.specs.RunningFrames.{RunsWell}
use Rattle.heap_laws.specs.SoundCodes.{AreSoundCodes}
use Rattle.row_laws.specs.Operands.{ValueMeets}
use Rattle.row_laws.proofs.ElementsOfArrays.{elements_fit}
use Rattle.row_laws.proofs.ArraysByType.{bytes_fit, item_held, load_by, numbers_fit}
use Rattle.row_laws.proofs.HeapFramesLeft.{Keeps, declared_fits, fresh_raised, in_line, met, same_inside, shape_at, took_only, typed, went_on}

module _ (around : Surroundings) (x : Setting) (w new : Working) (outcome : Outcome) (runs : RunsWell around x w)
    (code : RunsCode around.classes w.frame) where
  sound_here : AreSoundCodes code.scope.classes
  sound_here = subst AreSoundCodes (sym code.is_scope.all) runs.setting.codes

  -- ---- An item is pushed.

  module _ (v : Value) (index : ℤ) (a : IsHeapArray w.inside.heap v) (place : ℕ) (item : Value) (at : slice_get a.items place ≡ Some item)
      (goes : GoesOnWith w (v ∷ Held.Int index ∷ []) (item ∷ []) w.inside new outcome) where
    held : IsOfType around w.inside.heap a.element item
    held = item_held around x.quota w.inside runs.inside v a place item at

    -- of a type that the array's type tells
    told_loaded : (op : ℕ) → code.instr.op ≡ op → IsTrue (not (leaves_line op)) → (d : Demand) (u : VType)
        → (typed around x w runs code).typed.row.shape ≡ Takes (d ∷ Fitting Int ∷ []) (u ∷ [])
        → (ValueMeets code.scope w.inside.heap d v → value_of code.scope.classes a.element ≡ u) → Keeps around x w runs code new outcome
    told_loaded op is stays d u takes tells =
        let meet = met around x w runs code (d ∷ Fitting Int ∷ []) (u ∷ []) takes (v ∷ Held.Int index ∷ [])
        (goes.replaced.below, goes.replaced.before) refl in
        let fits = subst (ValueFits code.scope w.inside.heap item) (tells meet.0)
        (declared_fits around x w runs code w.inside.heap item a.element held.0) in
        took_only around x w runs code (d ∷ Fitting Int ∷ []) (u ∷ []) takes (v ∷ Held.Int index ∷ []) (item ∷ []) new outcome goes
        (in_line code.instr op is stays) refl (held.1, tt) (fits, tt)

    numbers_loaded : (op : ℕ) → code.instr.op ≡ op → IsTrue (not (leaves_line op)) → (base : BaseRef) → (IsClass base → ⊥)
        → (typed around x w runs code).typed.row.shape
        ≡ Takes (Fitting (Ref (array_type 1 base)) ∷ Fitting Int ∷ []) (value_of code.scope.classes (array_type 0 base) ∷ [])
        → Keeps around x w runs code new outcome
    numbers_loaded op is stays base none takes =
        told_loaded op is stays (Fitting (Ref (array_type 1 base))) (value_of code.scope.classes (array_type 0 base)) takes
        (λ meet. ap (value_of code.scope.classes) (numbers_fit code.scope w.inside.heap sound_here.ordered v a base none meet))

    bytes_loaded : code.instr.op ≡ 0x33 → Keeps around x w runs code new outcome
    bytes_loaded is =
        told_loaded 0x33 is refl (FittingEither (Ref (array_type 1 Base.Byte)) (Ref (array_type 1 Base.Bool))) Int
        (shape_at around x w runs code 0x33 is)
        (λ meet. elim (bytes_fit code.scope w.inside.heap sound_here.ordered v a meet) [
          | inl byte ↦ ap (value_of code.scope.classes) byte
          | inr bool ↦ ap (value_of code.scope.classes) bool
        ])

    references_loaded : code.instr.op ≡ 0x32 → Keeps around x w runs code new outcome
    references_loaded is =
        let t = typed around x w runs code in
        let here = subst (λ (classes : List ClassRecord). HoldsDeclared classes w.inside.heap item a.element) (sym code.is_scope.all) held.0 in
        went_on around x w runs code (v ∷ Held.Int index ∷ []) (item ∷ []) w.inside new outcome goes (in_line code.instr 0x32 is refl)
        (same_inside around x w runs code) (λ c. refl) (held.1, tt)
        (elements_fit code.scope w.inside.heap w.frame.head.at code.instr w.frame new.frame t.before t.after v item index sound_here t.erased
        t.typed (shape_at around x w runs code 0x32 is) a here goes.replaced)

  -- ---- The rows.

  pub load_keeps : LoadsElement code.instr w new outcome → Keeps around x w runs code new outcome
  load_keeps h = elim h.does [
    | inl (null, raises) ↦ fresh_raised around x w runs code 26 9 new outcome (omega arith) refl raises
    | inr (inl (a, (none, raises))) ↦ fresh_raised around x w runs code 30 9 new outcome (omega arith) refl raises
    | inr (inr (a, place, item, is, at, goes)) ↦
        load_by (Keeps around x w runs code new outcome) code.instr.op h.op
        (λ op. numbers_loaded h.array h.index a place item at goes 0x2e op refl Base.Int (λ c. c) (shape_at around x w runs code 0x2e op))
        (λ op. numbers_loaded h.array h.index a place item at goes 0x2f op refl Base.Long (λ c. c) (shape_at around x w runs code 0x2f op))
        (references_loaded h.array h.index a place item at goes)
        (bytes_loaded h.array h.index a place item at goes)
        (λ op. numbers_loaded h.array h.index a place item at goes 0x34 op refl Base.Char (λ c. c) (shape_at around x w runs code 0x34 op))
        (λ op. numbers_loaded h.array h.index a place item at goes 0x35 op refl Base.Short (λ c. c) (shape_at around x w runs code 0x35 op))
  ]

  pub length_keeps : ArrayLength code.instr w new outcome → Keeps around x w runs code new outcome
  length_keeps h = elim h.does [
    | inl (null, raises) ↦ fresh_raised around x w runs code 26 9 new outcome (omega arith) refl raises
    | inr (a, goes) ↦
        took_only around x w runs code (Array ∷ []) (Int ∷ []) (shape_at around x w runs code 0xbe h.op) (h.array ∷ [])
        (Held.Int (pos (length a.items)) ∷ []) new outcome goes (in_line code.instr 0xbe h.op refl) refl (tt, tt) (tt, tt)
  ]
