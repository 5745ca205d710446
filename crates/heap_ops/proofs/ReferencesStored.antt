-- A reference that an instruction stores into an array of references.
use Rattle.std.proofs.Common.{◌≡◌, ◌⊎◌, inl, inr, ℕ, List, [], ◌∷◌, ◌++◌, refl, sym, subst, ◌∙◌}
use Rattle.std.specs.Prelude.{IsTrue}
use Rattle.list_lemmas.proofs.EndsOfLists.{one_split}
use Rattle.jk_model.specs.declared.identifiers.CapId.{CapId}
use Rattle.jk_model.specs.declared.opcodes.TheConstants.{AASTORE}
use Rattle.jk_model.specs.declared.values.Value.{Value}
use Rattle.jk_model.specs.declared.values.Value.TheVariants as Held
use Rattle.jk_model_classes.specs.declared.records.ClassRecord.{ClassRecord}
use Rattle.jk_model_classes.specs.declared.records.TypeRef.{TypeRef}
use Rattle.jk_model_typing.specs.declared.frames.Demand.TheVariants.{Fitting, Reference, ReferenceArray}
use Rattle.jk_model_typing.specs.declared.frames.VType.TheVariants.{Int}
use Rattle.jk_model_domains.specs.Objects.{NamedObject}
use Rattle.jk_model_heaps.specs.Capabilities.{CapRange, IsGivenOut, KnownCapabilities}
use Rattle.jk_model_heaps.specs.Instances.{IsInstance}
use Rattle.jk_model_heaps.specs.References.{IsNullOrInstance}
use Rattle.jk_model_heap_rows.specs.ElementRows.{is_element_store}
use Rattle.jk_model_sealing.specs.SealedInsides.{IsKnownValue}
use Rattle.jk_model_sharing.specs.SharedStates.{caps_of}
use Rattle.frame_store.specs.FrameContents.{FrameContent}
use Rattle.object_store.specs.HeapContents.{HeapContent, IsReference}
use Rattle.row_laws.specs.HeapOperands.{IsObjectOrNull, IsReferenceOrNull}
use Rattle.row_laws.proofs.ValuesMet.{reference_met, three_taken}
use Rattle.step_contents.specs.Settings.{AreKnown}
use Rattle.row_laws.specs.Operands.{ValueMeets}
use Rattle.row_laws.proofs.OperandsOnTop.{taken_meet}
use Rattle.heap_ops.specs.declared.here.Here.{Here}
use Rattle.heap_ops.specs.OneInstruction.{place_in}
use Rattle.heap_ops.specs.TopEntries.{StandsBelow}
use Rattle.heap_ops.proofs.DoingHere.{Doing, i, s, same_classes, same_heap, w}
use Rattle.heap_ops.proofs.ElementStores.{here_found, is_value}
use Rattle.heap_ops.proofs.InstancesTold.{instance_too}
use Rattle.heap_ops.proofs.ObjectsPut.{top_known}
use Rattle.heap_ops.proofs.RoomOnStack.{shape_at, typed}

third : {a b c d e f : Value} → a ∷ b ∷ c ∷ [] ≡ d ∷ e ∷ f ∷ [] → c ≡ f
third e = cc

module _ (heaps : HeapContent) (frames : FrameContent) (h : Here) (k : Doing heaps frames h) (op : (place_in h).instr.op ≡ AASTORE) where
  abbrev heap : List NamedObject
  heap = (w heaps frames h k).inside.heap

  pub is_store : IsTrue (is_element_store (place_in h).instr.op)
  is_store = subst (λ (n : ℕ). IsTrue (is_element_store n)) (sym op) refl

  abbrev value : Value
  value = (here_found heaps frames h k is_store).value

  refers : IsReferenceOrNull k.setting heap value
  refers =
      let t = typed heaps frames h k in
      let three = three_taken (s heaps frames h k) heap (w heaps frames h k).frame ReferenceArray (Fitting Int) Reference
      (taken_meet (s heaps frames h k) heap (w heaps frames h k).frame.head.at (i heaps frames h k) (w heaps frames h k).frame t.before t.after
      (ReferenceArray ∷ Fitting Int ∷ Reference ∷ []) [] t.typed (shape_at heaps frames h k AASTORE op)) in
      let f = here_found heaps frames h k is_store in
      let stack = f.array ∷ Held.Int f.index ∷ f.value ∷ [] in
      let other = three.0 ∷ three.1 ∷ three.2 ∷ [] in
      let lists : f.on_top.0 ++ stack ≡ three.3.0 ++ other = sym f.on_top.1 ∙ three.3.1 in
      let same : three.2 ≡ f.value = sym (third (one_split f.on_top.0 three.3.0 stack other lists refl).1) in
      let known = (top_known heaps frames h k stack f.on_top).1.1.0 in
      let met = reference_met (s heaps frames h k) heap (caps_of k.shared) f.value known
      (subst (λ (v : Value). ValueMeets (s heaps frames h k) heap Reference v) same three.6) in
      subst (λ (ranges : List CapRange). IsObjectOrNull heap f.value ⊎ ((n : CapId) × (f.value ≡ Held.Cap n) × IsGivenOut ranges n))
      (sym k.is_setting.caps.ranges) met

  module _ (caps : KnownCapabilities) (known : AreKnown h.world.now.classes k.shared caps) (v : Value) (at : StandsBelow frames h.segment 0 v) where
    same_value : value ≡ v
    same_value = is_value heaps frames h k is_store v at

    reference_by : (u : Value) → IsReferenceOrNull k.setting heap u → IsReference u
    reference_by u (inl (inl null)) = subst IsReference (sym null) tt
    reference_by u (inl (inr (a, o, is, there))) = subst IsReference (sym is) tt
    reference_by u (inr (n, is, given)) = subst IsReference (sym is) tt

    pub reference : IsReference v
    reference = subst IsReference same_value (reference_by value refers)

    pub is_known : IsKnownValue caps.ranges (heaps.heap h.domain) v
    is_known =
        let f = here_found heaps frames h k is_store in
        subst (IsKnownValue caps.ranges (heaps.heap h.domain)) same_value
        (subst (λ (xs : List NamedObject). IsKnownValue caps.ranges xs value) (same_heap heaps frames h k)
        (subst (λ (ranges : List CapRange). IsKnownValue ranges heap value) (sym known.ranges)
        (top_known heaps frames h k (f.array ∷ Held.Int f.index ∷ f.value ∷ []) f.on_top).1.1.0))

    module _ (t u : TypeRef) (same_type : t ≡ u) where
      pub asked : (v ≡ Held.Null) ⊎ IsInstance h.world.now.classes caps (heaps.heap h.domain) v u → IsNullOrInstance k.setting heap value t
      asked (inl null) = inl (same_value ∙ null)
      asked (inr told) =
          let first = instance_too h.world.now.classes k.shared caps k.setting.caps known k.is_setting.caps (heaps.heap h.domain) v u told in
          inr (subst (λ (classes : List ClassRecord). IsInstance classes k.setting.caps heap value t) (sym (same_classes heaps frames h k))
          (subst (λ (xs : List NamedObject). IsInstance h.world.now.classes k.setting.caps xs value t) (sym (same_heap heaps frames h k))
          (subst (λ (y : Value). IsInstance h.world.now.classes k.setting.caps (heaps.heap h.domain) y t) (sym same_value)
          (subst (λ (y : TypeRef). IsInstance h.world.now.classes k.setting.caps (heaps.heap h.domain) v y) (sym same_type) first))))

      pub told : IsNullOrInstance k.setting heap value t → (v ≡ Held.Null) ⊎ IsInstance h.world.now.classes caps (heaps.heap h.domain) v u
      told (inl null) = inl (sym same_value ∙ null)
      told (inr is) =
          inr (instance_too h.world.now.classes k.shared k.setting.caps caps k.is_setting.caps known (heaps.heap h.domain) v u
          (subst (λ (y : TypeRef). IsInstance h.world.now.classes k.setting.caps (heaps.heap h.domain) v y) same_type
          (subst (λ (y : Value). IsInstance h.world.now.classes k.setting.caps (heaps.heap h.domain) y t) same_value
          (subst (λ (xs : List NamedObject). IsInstance h.world.now.classes k.setting.caps xs value t) (same_heap heaps frames h k)
          (subst (λ (classes : List ClassRecord). IsInstance classes k.setting.caps heap value t) (same_classes heaps frames h k) is)))))
