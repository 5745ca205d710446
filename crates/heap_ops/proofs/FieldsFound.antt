-- Fields that instructions name, and objects that have them, as the store has these.
use Rattle.std.proofs.Common.{◌≡◌, ℕ, ◌<◌, ◌^◌, List, Some, slice_get, IsTrue, sym, subst, ◌∙◌, arith}
use Rattle.std.specs.Prelude.{IsFalse}
use Rattle.std.proofs.lemmas.Option.{same_Some, slice_get_within}
use Rattle.list_lemmas.proofs.ItemsOfLists.{Contains-at}
use Rattle.jk_model.specs.Flags.{has, STATIC}
use Rattle.jk_model.specs.declared.identifiers.ClassId.{ClassId}
use Rattle.jk_model.specs.declared.identifiers.MemberId.{MemberId}
use Rattle.jk_model.specs.declared.values.Value.{Value}
use Rattle.jk_model.specs.declared.values.Value.TheVariants as Held
use Rattle.jk_model_classes.specs.declared.records.ClassRecord.{ClassRecord}
use Rattle.jk_model_classes.specs.declared.records.FieldRecord.{FieldRecord}
use Rattle.jk_model_classes.specs.declared.records.Link.TheVariants as To
use Rattle.jk_model_classes.specs.Lookups.{FieldIs}
use Rattle.jk_model_domains.specs.Objects.{Object, Plain, object_named}
use Rattle.jk_model_heaps.specs.Heaps.{named}
use Rattle.jk_model_heaps.specs.RunningCode.{NamesField}
use Rattle.jk_model_heap_rows.specs.FieldRows.{HasField, field_place}
use Rattle.jk_model_sealing.specs.SealedInsides.{IsSealedObject}
use Rattle.step_contents.specs.Operands.{LeadsToField}
use Rattle.frame_store.specs.FrameContents.{FrameContent}
use Rattle.heap_laws.proofs.ObjectsAfterChanges.{found_stands}
use Rattle.object_store.specs.HeapContents.{HasItem, HeapContent, IsHeapContent, IsLaidOut, IsLive, item_of}
use Rattle.object_store.proofs.ObjectsWritten.{is_short}
use Rattle.heap_laws.specs.NamedWell.{NamesWell, uses_object_field}
use Rattle.step_contents.specs.Conditions.{around}
use Rattle.heap_laws.proofs.LaidOut.{sealed_laid_out}
use Rattle.typing_lemmas.proofs.OneScope.{one_link}
use Rattle.heap_ops.specs.declared.here.Here.{Here}
use Rattle.heap_ops.specs.HeapValues.{IsOwnPlace}
use Rattle.heap_ops.specs.OneInstruction.{place_in}
use Rattle.heap_ops.proofs.ArraysFound.{same_name}
use Rattle.heap_ops.proofs.DoingHere.{Doing, i, live, s, same_classes, w}
use Rattle.heap_ops.proofs.FieldPlaces.{place_is_own}

module _ (heaps : HeapContent) (frames : FrameContent) (h : Here) (k : Doing heaps frames h) where
  -- the classes of the code are those of the world
  pub code_classes : (s heaps frames h k).classes ≡ h.world.now.classes
  code_classes = k.may.place.is_scope.all

  pub names_well : NamesWell (s heaps frames h k) (i heaps frames h k)
  names_well =
      k.may.domain.codes.names k.may.place.method (s heaps frames h k) (i heaps frames h k) k.may.place.is_scope
      (Contains-at (s heaps frames h k).code.instrs (place_in h).head.at (i heaps frames h k) k.may.place.stands)

  -- what holds of an object of the heap
  pub object_sealed : (a : ℕ) (o : Object) → object_named (w heaps frames h k).inside.heap a ≡ Some o
      → IsSealedObject (around k.may.domain) (w heaps frames h k).inside.heap o
  object_sealed a o is = k.may.sealed.inside.objects (named a o) (found_stands a o (w heaps frames h k).inside.heap is)

  pub laid_out : (a : ℕ) (o : Object) → object_named (w heaps frames h k).inside.heap a ≡ Some o → IsLaidOut h.world.now.classes o
  laid_out a o is = sealed_laid_out (around k.may.domain) (w heaps frames h k).inside.heap o (object_sealed a o is)

  module _ (m : MemberId) (field : FieldRecord) (names : NamesField (s heaps frames h k) (i heaps frames h k) m field) where
    pub leads : LeadsToField (place_in h) m
    leads = (names.0, names.1)

    pub is_that : (n : MemberId) → LeadsToField (place_in h) n → m ≡ n
    is_that n (c, to) = member (one_link (s heaps frames h k) (i heaps frames h k) (To.Field names.0 m) (To.Field c n) names.1 to)
      where
        member : {a b : ClassId} {x y : MemberId} → To.Field a x ≡ To.Field b y → x ≡ y
        member e = cc

    pub field_here : FieldIs h.world.now.classes m field
    field_here = subst (λ (classes : List ClassRecord). FieldIs classes m field) code_classes names.2

    pub is_plain : IsTrue (uses_object_field (place_in h).instr.op) → IsFalse (has field.flags STATIC)
    is_plain uses = names_well.object_field m field uses names

    module _ (v : Value) (f : HasField k.setting.classes (w heaps frames h k).inside.heap v m) (a : ℕ) (is : v ≡ Held.Obj a) where
      abbrev pub object : Object
      object = Plain f.class f.fields

      pub object_named_so : object_named (w heaps frames h k).inside.heap a ≡ Some object
      object_named_so =
          subst (λ (n : ℕ). object_named (w heaps frames h k).inside.heap n ≡ Some object) (same_name v f.name a f.refers is) f.object

      pub object_live : IsLive heaps h.domain a object
      object_live = live heaps frames h k a object object_named_so

      pub place_told : (own : ℕ) → IsOwnPlace h.world.now.classes m own → f.place ≡ own
      place_told own tells =
          place_is_own h.world.now.classes k.may.domain.codes.ordered f.class m f.place own
          (subst (λ (classes : List ClassRecord). field_place classes f.class m ≡ Some f.place) (same_classes heaps frames h k) f.is_place) tells

      pub place_small : IsHeapContent heaps → (own : ℕ) → IsOwnPlace h.world.now.classes m own → own < 2 ^ 32
      place_small holds own tells =
          let low = slice_get_within f.fields f.place f.value f.is_value in
          let short = is_short heaps h.domain a object holds object_live in
          omega (arith, low, short, place_told own tells)

      -- the field's value is one of the store's
      pub value_there : (own : ℕ) → IsOwnPlace h.world.now.classes m own → slice_get f.fields own ≡ Some f.value
      value_there own tells = subst (λ (n : ℕ). slice_get f.fields n ≡ Some f.value) (place_told own tells) f.is_value

      pub item_there : (own : ℕ) → IsOwnPlace h.world.now.classes m own → HasItem heaps h.world.now.classes h.domain a own
      item_there own tells = record {
        object = object;
        live = object_live;
        laid_out = laid_out a object object_named_so;
        value = f.value;
        stands = value_there own tells;
      }

      pub value_read : (own : ℕ) (u : Value) → IsOwnPlace h.world.now.classes m own
          → ((o : Object) → IsLive heaps h.domain a o → item_of o own ≡ Some u) → f.value ≡ u
      value_read own u tells reads = same_Some f.value u (sym (value_there own tells) ∙ reads object object_live)
