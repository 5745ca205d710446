-- What is known of capabilities where domains share this tells the same instances, however stand-ins are listed; and what an instruction
-- finds of a reference.
use Rattle.std.proofs.Common.{◌≡◌, ◌⊎◌, inl, inr, ◌+◌, pos, List, [], ◌∷◌, ◌++◌, Some, None, refl, sym, ap, subst, ◌∙◌}
use Rattle.jk_model.specs.declared.identifiers.CapId.{CapId}
use Rattle.jk_model.specs.declared.identifiers.ClassId.{ClassId}
use Rattle.jk_model.specs.declared.opcodes.TheConstants.{CHECKCAST, INSTANCEOF}
use Rattle.jk_model.specs.declared.steps.After.TheVariants as Next
use Rattle.jk_model.specs.declared.steps.Raise.TheVariants as Raised
use Rattle.jk_model.specs.declared.values.Value.{Value}
use Rattle.jk_model.specs.declared.values.Value.TheVariants as Held
use Rattle.jk_model_classes.specs.declared.records.ClassRecord.{ClassRecord}
use Rattle.jk_model_classes.specs.declared.records.TypeRef.{TypeRef}
use Rattle.jk_model_classes.specs.Classes.{OBJECT, record_of}
use Rattle.jk_model_domains.specs.Objects.{NamedObject, CAPABILITY}
use Rattle.jk_model_heaps.specs.Capabilities.{CapRange, Capability, CapabilityIsA, KnownCapabilities, OwnedCapability, ShowsInterface, StandsInFor, capability_numbered}
use Rattle.jk_model_heaps.specs.Instances.{IsInstance}
use Rattle.jk_model_heaps.specs.References.{IsNullOrInstance}
use Rattle.jk_model_heaps.specs.SystemClasses.{CLASS_CAST_EXCEPTION, REMOTE}
use Rattle.jk_model_heap_rows.specs.HeapRows.{casts, tests}
use Rattle.jk_model_sealing.specs.SealedInsides.{IsKnownValue}
use Rattle.jk_model_sharing.specs.SharedStates.{SharedState}
use Rattle.step_contents.specs.Operands.{LeadsToType}
use Rattle.frame_store.specs.FrameContents.{FrameContent, SetsTop}
use Rattle.object_store.specs.HeapContents.{HeapContent, IsReference}
use Rattle.row_laws.specs.HeapOperands.{IsReferenceOrNull}
use Rattle.number_laws.proofs.FrameParts.{with_stack}
use Rattle.step_contents.specs.Settings.{AreKnown}
use Rattle.heap_ops.specs.declared.here.Here.{Here}
use Rattle.heap_ops.specs.OneInstruction.{place_in}
use Rattle.heap_ops.specs.TopEntries.{HasEntries, PutsFor, StandsBelow}
use Rattle.heap_ops.proofs.DoingHere.{Doing, Done, below, c, entries, found, here, i, is_there, put, raised, s, same_classes, same_heap, w, went_on}
use Rattle.heap_ops.proofs.FoundByOpcode.{ReferenceFound, found_at}
use Rattle.heap_ops.proofs.InstructionDone.{frame_stays}
use Rattle.heap_ops.proofs.ObjectsNew.{one_type}

-- ---- One shared state tells one thing.

module _ (classes : List ClassRecord) (shared : SharedState) (a b : KnownCapabilities) (first : AreKnown classes shared a)
    (second : AreKnown classes shared b) where
  stands_too : (k : Capability) (j : ClassId) → StandsInFor classes a.stand_ins k j → StandsInFor classes b.stand_ins k j
  stands_too k j (none, (stub, has, same, shows)) =
      let not_there : record_of classes stub.class ≡ None = ap (record_of classes) same ∙ none in
      (none, (stub, (second.stand_ins stub not_there).0 ((first.stand_ins stub not_there).1 has), same, shows))

  capability_too : (k : CapId) (t : TypeRef) → CapabilityIsA classes a k t → CapabilityIsA classes b k t
  capability_too k t is = record { class = is.class; no_array = is.no_array; above = above_too is.class is.above }
    where
      above_too : (class : ClassId)
          → (class ≡ OBJECT) ⊎ (class ≡ CAPABILITY) ⊎ (class ≡ REMOTE)
          ⊎ ((c : OwnedCapability) × (capability_numbered a.ranges k ≡ Some c)
          × (ShowsInterface classes c.capability class ⊎ StandsInFor classes a.stand_ins c.capability class))
          → (class ≡ OBJECT) ⊎ (class ≡ CAPABILITY) ⊎ (class ≡ REMOTE)
          ⊎ ((c : OwnedCapability) × (capability_numbered b.ranges k ≡ Some c)
          × (ShowsInterface classes c.capability class ⊎ StandsInFor classes b.stand_ins c.capability class))
      above_too class (inl h) = inl h
      above_too class (inr (inl h)) = inr (inl h)
      above_too class (inr (inr (inl h))) = inr (inr (inl h))
      above_too class (inr (inr (inr (c, numbered, inl shows)))) =
          inr (inr (inr (
            c,
            subst (λ (ranges : List CapRange). capability_numbered ranges k ≡ Some c) (first.ranges ∙ sym second.ranges) numbered,
            inl
                shows,
          )))
      above_too class (inr (inr (inr (c, numbered, inr stands)))) =
          inr (inr (inr (
            c,
            subst (λ (ranges : List CapRange). capability_numbered ranges k ≡ Some c) (first.ranges ∙ sym second.ranges) numbered,
            inr (stands_too c.capability class stands),
          )))

  pub instance_too : (heap : List NamedObject) (v : Value) (t : TypeRef) → IsInstance classes a heap v t → IsInstance classes b heap v t
  instance_too heap (Held.Obj n) t is = is
  instance_too heap (Held.Cap k) t is = capability_too k t is
  instance_too heap (Held.Int n) t is = absurd is
  instance_too heap (Held.Long n) t is = absurd is
  instance_too heap Held.Null t is = absurd is
  instance_too heap Held.Unset t is = absurd is

-- ---- What is found.

module _ (heaps : HeapContent) (frames : FrameContent) (h : Here) (k : Doing heaps frames h) (caps : KnownCapabilities)
    (known : AreKnown h.world.now.classes k.shared caps) (f : ReferenceFound k.setting (s heaps frames h k) (i heaps frames h k) (w heaps frames h k)) where
  pub value_below : (v : Value) × StandsBelow frames h.segment 0 v
  value_below = (f.value, below heaps frames h k [] f.value [] f.on_top)

  pub one_there : HasEntries frames h.segment 1
  one_there = entries heaps frames h k (f.value ∷ []) f.on_top

  pub names_type : (t : TypeRef) × LeadsToType (place_in h) t
  names_type = (f.kind, f.leads)

  module _ (v : Value) (at : StandsBelow frames h.segment 0 v) where
    is_it : f.value ≡ v
    is_it = is_there heaps frames h k [] f.value v [] f.on_top at

    reference_by : (u : Value) → IsReferenceOrNull k.setting (w heaps frames h k).inside.heap u → IsReference u
    reference_by u (inl (inl null)) = subst IsReference (sym null) tt
    reference_by u (inl (inr (a, o, is, there))) = subst IsReference (sym is) tt
    reference_by u (inr (n, is, given)) = subst IsReference (sym is) tt

    pub reference : IsReference v
    reference = subst IsReference is_it (reference_by f.value f.reference)

    known_by : (u : Value) → IsReferenceOrNull k.setting (w heaps frames h k).inside.heap u
        → IsKnownValue k.setting.caps.ranges (w heaps frames h k).inside.heap u
    known_by u (inl (inl null)) = subst (IsKnownValue k.setting.caps.ranges (w heaps frames h k).inside.heap) (sym null) tt
    known_by u (inl (inr (a, o, is, there))) =
        subst (IsKnownValue k.setting.caps.ranges (w heaps frames h k).inside.heap) (sym is) (o, there)
    known_by u (inr (n, is, given)) = subst (IsKnownValue k.setting.caps.ranges (w heaps frames h k).inside.heap) (sym is) given

    pub is_known : IsKnownValue caps.ranges (heaps.heap h.domain) v
    is_known =
        subst (IsKnownValue caps.ranges (heaps.heap h.domain)) is_it
        (subst (λ (heap : List NamedObject). IsKnownValue caps.ranges heap f.value) (same_heap heaps frames h k)
        (subst (λ (ranges : List CapRange). IsKnownValue ranges (w heaps frames h k).inside.heap f.value)
        (k.is_setting.caps.ranges ∙ sym known.ranges) (known_by f.value f.reference)))

    module _ (t : TypeRef) (to : LeadsToType (place_in h) t) where
      same_type : f.kind ≡ t
      same_type = one_type heaps frames h k f.kind t f.leads to

      abbrev Told : Type 0
      Told = IsInstance h.world.now.classes caps (heaps.heap h.domain) v t

      abbrev Asked : Type 0
      Asked = IsInstance k.setting.classes k.setting.caps (w heaps frames h k).inside.heap f.value f.kind

      pub asked : Told → Asked
      asked told =
          let first = instance_too h.world.now.classes k.shared caps k.setting.caps known k.is_setting.caps (heaps.heap h.domain) v t told in
          subst (λ (classes : List ClassRecord). IsInstance classes k.setting.caps (w heaps frames h k).inside.heap f.value f.kind)
          (sym (same_classes heaps frames h k))
          (subst (λ (heap : List NamedObject). IsInstance h.world.now.classes k.setting.caps heap f.value f.kind) (sym (same_heap heaps frames h k))
          (subst (λ (u : Value). IsInstance h.world.now.classes k.setting.caps (heaps.heap h.domain) u f.kind) (sym is_it)
          (subst (λ (u : TypeRef). IsInstance h.world.now.classes k.setting.caps (heaps.heap h.domain) v u) (sym same_type) first)))

      pub told : Asked → Told
      told is =
          let there : IsInstance h.world.now.classes k.setting.caps (heaps.heap h.domain) v t =
          subst (λ (u : TypeRef). IsInstance h.world.now.classes k.setting.caps (heaps.heap h.domain) v u) same_type
          (subst (λ (u : Value). IsInstance h.world.now.classes k.setting.caps (heaps.heap h.domain) u f.kind) is_it
          (subst (λ (heap : List NamedObject). IsInstance h.world.now.classes k.setting.caps heap f.value f.kind) (same_heap heaps frames h k)
          (subst (λ (classes : List ClassRecord). IsInstance classes k.setting.caps (w heaps frames h k).inside.heap f.value f.kind)
          (same_classes heaps frames h k) is))) in
          instance_too h.world.now.classes k.shared k.setting.caps caps k.is_setting.caps known (heaps.heap h.domain) v t there

-- ---- Casts.

module _ (heaps : HeapContent) (frames : FrameContent) (h : Here) (k : Doing heaps frames h) (caps : KnownCapabilities)
    (known : AreKnown h.world.now.classes k.shared caps) where
  module _ (op : (place_in h).instr.op ≡ CHECKCAST) where
    abbrev pub cast_found : ReferenceFound k.setting (s heaps frames h k) (i heaps frames h k) (w heaps frames h k)
    cast_found =
        found_at k.setting (s heaps frames h k) (i heaps frames h k) (w heaps frames h k) CHECKCAST op refl refl (found heaps frames h k)

    module _ (v : Value) (at : StandsBelow frames h.segment 0 v) (t : TypeRef) (to : LeadsToType (place_in h) t) where
      null_or_asked : (v ≡ Held.Null) ⊎ IsInstance h.world.now.classes caps (heaps.heap h.domain) v t
          → IsNullOrInstance k.setting (w heaps frames h k).inside.heap cast_found.value cast_found.kind
      null_or_asked (inl null) = inl (is_it heaps frames h k caps known cast_found v at ∙ null)
      null_or_asked (inr is) = inr (asked heaps frames h k caps known cast_found v at t to is)

      pub cast_done : (v ≡ Held.Null) ⊎ IsInstance h.world.now.classes caps (heaps.heap h.domain) v t
          → Done heaps frames h k heaps frames k.own (Next.Goto ((place_in h).head.at + 1))
      cast_done is =
          let f = cast_found in
          let stays : SetsTop frames frames h.segment (with_stack (w heaps frames h k).frame (f.on_top.0 ++ f.value ∷ [])) =
          subst (λ (xs : List Value). SetsTop frames frames h.segment (with_stack (w heaps frames h k).frame xs)) f.on_top.1
          (frame_stays (c heaps frames h k) (here heaps frames h k) (place_in h) k.may) in
          went_on heaps frames h k frames (f.value ∷ []) (f.value ∷ []) f.on_top stays
          (λ new_w goes. casts (record {
            op = op;
            kind = f.kind;
            names = f.leads;
            value = f.value;
            on_top = f.on_top;
            does = inl (null_or_asked is, goes);
          }))

      pub cast_fails : ((v ≡ Held.Null) ⊎ IsInstance h.world.now.classes caps (heaps.heap h.domain) v t → ⊥)
          → Done heaps frames h k heaps frames k.own (Next.Raise (Raised.Fresh CLASS_CAST_EXCEPTION))
      cast_fails never =
          let f = cast_found in
          raised heaps frames h k (Raised.Fresh CLASS_CAST_EXCEPTION)
          (casts (record {
            op = op;
            kind = f.kind;
            names = f.leads;
            value = f.value;
            on_top = f.on_top;
            does = inr (neither, (refl, refl));
          }))
        where
          neither : IsNullOrInstance k.setting (w heaps frames h k).inside.heap cast_found.value cast_found.kind → ⊥
          neither (inl null) = never (inl (sym (is_it heaps frames h k caps known cast_found v at) ∙ null))
          neither (inr is) = never (inr (told heaps frames h k caps known cast_found v at t to is))

  -- ---- Tests.

  module _ (op : (place_in h).instr.op ≡ INSTANCEOF) where
    abbrev pub test_found : ReferenceFound k.setting (s heaps frames h k) (i heaps frames h k) (w heaps frames h k)
    test_found =
        found_at k.setting (s heaps frames h k) (i heaps frames h k) (w heaps frames h k) INSTANCEOF op refl refl (found heaps frames h k)

    module _ (v : Value) (at : StandsBelow frames h.segment 0 v) (t : TypeRef) (to : LeadsToType (place_in h) t) (new : FrameContent) where
      pub test_holds : IsInstance h.world.now.classes caps (heaps.heap h.domain) v t → PutsFor frames new h.segment 1 (Held.Int (pos 1))
          → Done heaps frames h k heaps new k.own (Next.Goto ((place_in h).head.at + 1))
      test_holds is puts =
          let f = test_found in
          went_on heaps frames h k new (f.value ∷ []) (Held.Int (pos 1) ∷ []) f.on_top
          (put heaps frames h k new (f.value ∷ []) (Held.Int (pos 1)) f.on_top puts)
          (λ new_w goes. tests (record {
            op = op;
            kind = f.kind;
            names = f.leads;
            value = f.value;
            on_top = f.on_top;
            does = inl (asked heaps frames h k caps known f v at t to is, goes);
          }))

      pub test_fails : (IsInstance h.world.now.classes caps (heaps.heap h.domain) v t → ⊥) → PutsFor frames new h.segment 1 (Held.Int (pos 0))
          → Done heaps frames h k heaps new k.own (Next.Goto ((place_in h).head.at + 1))
      test_fails never puts =
          let f = test_found in
          went_on heaps frames h k new (f.value ∷ []) (Held.Int (pos 0) ∷ []) f.on_top
          (put heaps frames h k new (f.value ∷ []) (Held.Int (pos 0)) f.on_top puts)
          (λ new_w goes. tests (record {
            op = op;
            kind = f.kind;
            names = f.leads;
            value = f.value;
            on_top = f.on_top;
            does = inr ((λ is. never (told heaps frames h k caps known f v at t to is)), goes);
          }))
