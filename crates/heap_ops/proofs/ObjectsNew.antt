-- A new object of the class that an instruction names.
use Rattle.std.proofs.Common.{◌≡◌, ℕ, ◌+◌, ◌<◌, ◌≤◌, List, [], ◌∷◌, ◌++◌, Some, refl, sym, ap, subst, ◌∙◌, append-nil}
use Rattle.std.proofs.lemmas.Option.{slice_get_within}
use Rattle.jk_model.specs.declared.identifiers.ClassId.{ClassId}
use Rattle.jk_model.specs.declared.opcodes.TheConstants.{NEW}
use Rattle.jk_model.specs.declared.steps.After.TheVariants as Next
use Rattle.jk_model.specs.declared.steps.Raise.TheVariants as Raised
use Rattle.jk_model.specs.declared.steps.Standing.TheVariants as Stands
use Rattle.jk_model.specs.declared.values.Value.TheVariants as Held
use Rattle.jk_model_classes.specs.declared.records.BaseRef.TheVariants as Base
use Rattle.jk_model_classes.specs.declared.records.Link.TheVariants as To
use Rattle.jk_model_classes.specs.declared.records.TypeRef.{TypeRef}
use Rattle.jk_model_classes.specs.declared.records.ClassRecord.{ClassRecord}
use Rattle.jk_model_classes.specs.Classes.{HasClass, record_of}
use Rattle.jk_model_typing.specs.FrameTypes.{array_type}
use Rattle.jk_model_typing.specs.Scopes.{NamesClass}
use Rattle.jk_model_domains.specs.NumberRows.{IsOnTop}
use Rattle.jk_model_heaps.specs.declared.shapes.Shape.TheVariants as Of
use Rattle.jk_model_heaps.specs.Heaps.{zero_object}
use Rattle.jk_model_heap_rows.specs.HeapRows.{makes_object}
use Rattle.step_contents.specs.Operands.{LeadsToType}
use Rattle.frame_store.specs.FrameContents.{FrameContent, SetsTop, TopFrame}
use Rattle.object_store.specs.HeapContents.{HeapContent, IsHeapContent, IsSame, MakesObject, shape_words, words_left}
use Rattle.number_laws.proofs.FrameParts.{with_stack}
use Rattle.jk_model_frames.specs.Frames.{FrameState}
use Rattle.typing_lemmas.proofs.OneScope.{one_link}
use Rattle.heap_ops.specs.declared.here.Here.{Here}
use Rattle.heap_ops.specs.OneInstruction.{place_in}
use Rattle.heap_ops.proofs.DoingHere.{Doing, Done, found, i, s, top, w}
use Rattle.heap_ops.proofs.FieldsFound.{code_classes, names_well}
use Rattle.heap_ops.proofs.FoundByOpcode.{NewFound, found_at}
use Rattle.heap_ops.proofs.ObjectsMade.{fails_new, pushed_new}

module _ (heaps : HeapContent) (frames : FrameContent) (h : Here) (k : Doing heaps frames h) where
  -- nothing is taken
  abbrev pub nothing_taken : IsOnTop (w heaps frames h k).frame []
  nothing_taken = ((w heaps frames h k).frame.stack, sym (append-nil (w heaps frames h k).frame.stack))

  -- the operand leads to one type
  pub one_type : (t u : TypeRef) → LeadsToType (place_in h) t → LeadsToType (place_in h) u → t ≡ u
  one_type t u a b = kind (one_link (s heaps frames h k) (i heaps frames h k) (To.Class t) (To.Class u) a b)
    where
      kind : {x y : TypeRef} → To.Class x ≡ To.Class y → x ≡ y
      kind e = cc

module _ (heaps : HeapContent) (frames : FrameContent) (h : Here) (k : Doing heaps frames h) (op : (place_in h).instr.op ≡ NEW) where
  abbrev pub here_found : NewFound (s heaps frames h k) (i heaps frames h k)
  here_found = found_at k.setting (s heaps frames h k) (i heaps frames h k) (w heaps frames h k) NEW op refl refl (found heaps frames h k)

  pub names_type : (t : TypeRef) × LeadsToType (place_in h) t
  names_type = (array_type 0 (Base.Class here_found.class), here_found.names)

  pub no_other : (t : TypeRef) → LeadsToType (place_in h) t → t ≡ array_type 0 (Base.Class here_found.class)
  no_other t to = one_type heaps frames h k t (array_type 0 (Base.Class here_found.class)) to here_found.names

  pub is_class : (t : TypeRef) → LeadsToType (place_in h) t → t.base ≡ Base.Class here_found.class
  is_class t to = ap (λ (x : TypeRef). x.base) (no_other t to)

  module _ (t : TypeRef) (c : ClassId) (to : LeadsToType (place_in h) t) (is : t.base ≡ Base.Class c) where
    same_class : c ≡ here_found.class
    same_class = class (sym is ∙ ap (λ (x : TypeRef). x.base) (no_other t to))
      where
        class : {a b : ClassId} → Base.Class a ≡ Base.Class b → a ≡ b
        class e = cc

    pub class_there : HasClass h.world.now.classes c
    class_there =
        let made = (names_well heaps frames h k).new_object here_found.class op here_found.names in
        let there : HasClass h.world.now.classes here_found.class =
        slice_get_within h.world.now.classes here_found.class.0 made.class
        (subst (λ (classes : List ClassRecord). record_of classes here_found.class ≡ Some made.class) (code_classes heaps frames h k) made.is_class) in
        subst (HasClass h.world.now.classes) (sym same_class) there

    names_it : NamesClass (s heaps frames h k) (i heaps frames h k) c
    names_it = subst (NamesClass (s heaps frames h k) (i heaps frames h k)) (sym same_class) here_found.names

    pub object_pushed : IsHeapContent heaps → (new_heaps : HeapContent) (new_frames : FrameContent) (a : ℕ)
        → MakesObject heaps new_heaps h.world.now.classes h.domain a (zero_object h.world.now.classes (Of.Plain c))
        → shape_words h.world.now.classes (Of.Plain c) ≤ words_left heaps h.domain
        → ((f : FrameState) → TopFrame frames h.segment f → SetsTop frames new_frames h.segment (with_stack f (f.stack ++ Held.Obj a ∷ [])))
        → Done heaps frames h k new_heaps new_frames k.own (Next.Goto ((place_in h).head.at + 1))
    object_pushed holds new_heaps new_frames a makes low sets =
        pushed_new heaps frames h k [] (nothing_taken heaps frames h k) (Of.Plain c) holds new_heaps new_frames a makes low
        (sets (w heaps frames h k).frame (top heaps frames h k))
        (λ new_w does. makes_object (record { op = op; class = c; names = names_it; does = does }))

    pub object_fails : (new_heaps : HeapContent) → IsSame heaps new_heaps
        → words_left heaps h.domain < shape_words h.world.now.classes (Of.Plain c)
        → Done heaps frames h k new_heaps frames k.own (Next.Raise (Raised.Standing Stands.OutOfMemoryError))
    object_fails new_heaps same low =
        fails_new heaps frames h k [] (nothing_taken heaps frames h k) (Of.Plain c) new_heaps same low
        (λ does. makes_object (record { op = op; class = c; names = names_it; does = does }))
