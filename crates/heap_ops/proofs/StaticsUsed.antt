-- Static fields that instructions name.
use Rattle.std.proofs.Common.{◌≡◌, inl, inr, ◌+◌, Bool, true, false, List, [], ◌∷◌, ◌++◌, append-nil, Some, refl, sym, ap, subst, ◌∙◌}
use Rattle.std.proofs.lemmas.Option.{same_Some}
use Rattle.jk_model.specs.declared.identifiers.MemberId.{MemberId}
use Rattle.jk_model.specs.declared.opcodes.TheConstants.{GETSTATIC, PUTSTATIC}
use Rattle.jk_model.specs.declared.steps.After.TheVariants as Next
use Rattle.jk_model.specs.declared.values.Value.{Value}
use Rattle.jk_model.specs.declared.values.Value.TheVariants as Held
use Rattle.jk_model_classes.specs.declared.records.ClassRecord.{ClassRecord}
use Rattle.jk_model_classes.specs.declared.records.TypeRef.{TypeRef}
use Rattle.jk_model_classes.specs.Lookups.{FieldIs}
use Rattle.jk_model_frames.specs.Frames.{FrameState}
use Rattle.jk_model_domains.specs.OwnStates.{HasStatic, OwnState, static_of, with_static}
use Rattle.jk_model_heaps.specs.Heaps.{heap_words}
use Rattle.jk_model_heaps.specs.StoredValues.{stored}
use Rattle.jk_model_heaps.specs.Workings.{with_own}
use Rattle.jk_model_heap_rows.specs.FieldRows.{IsStaticValue, IsSystemOut}
use Rattle.jk_model_heap_rows.specs.HeapRows.{gets_static, puts_static}
use Rattle.class_init.specs.KeptStates.{KeptState}
use Rattle.step_contents.specs.Operands.{LeadsToField}
use Rattle.frame_store.specs.FrameContents.{FrameContent, SetsTop, TopFrame}
use Rattle.object_store.specs.HeapContents.{HeapBecomes, HeapContent}
use Rattle.number_laws.proofs.FrameParts.{with_stack}
use Rattle.step_contents.specs.Contents.{InsideBecomes, contents_of}
use Rattle.heap_ops.specs.declared.here.Here.{Here}
use Rattle.heap_ops.specs.OneInstruction.{place_in}
use Rattle.heap_ops.specs.TopEntries.{HasEntries, StandsBelow, TakesOff}
use Rattle.heap_ops.proofs.DoingHere.{Doing, Done, below, c, entries, found, here, i, is_there, s, same_classes, top, took, w, went_on}
use Rattle.heap_ops.proofs.DoingHere.{same_heap as heap_is}
use Rattle.heap_ops.proofs.FieldsFound.{field_here, is_that, leads}
use Rattle.heap_ops.proofs.FoundByOpcode.{GetStaticFound, PutStaticFound, found_at}
use Rattle.heap_ops.proofs.InstructionDone.{going, goes_on, heap_words_used, is_same, same_heap}
use Rattle.heap_ops.proofs.ObjectsMade.{inside_now, own_is}
use Rattle.heap_ops.proofs.ObjectsNew.{nothing_taken}

pub never_true : (b : Bool) → b ≡ false → b ≡ true → ⊥
never_true true e f = absurd cc
never_true false e f = absurd cc

-- ---- A value that is got.

module _ (heaps : HeapContent) (frames : FrameContent) (h : Here) (k : Doing heaps frames h) (op : (place_in h).instr.op ≡ GETSTATIC) where
  abbrev pub got : GetStaticFound k.setting (s heaps frames h k) (i heaps frames h k) (w heaps frames h k)
  got = found_at k.setting (s heaps frames h k) (i heaps frames h k) (w heaps frames h k) GETSTATIC op refl refl (found heaps frames h k)

  pub got_leads : (m : MemberId) × LeadsToField (place_in h) m
  got_leads = let f = got in (f.member, leads heaps frames h k f.member f.field f.names)

  module _ (m : MemberId) (to : LeadsToField (place_in h) m) where
    got_member : got.member ≡ m
    got_member = is_that heaps frames h k got.member got.field got.names m to

    -- what the field's value is in the store
    is_value : IsStaticValue h.world.now.classes k.own.state m got.value
    is_value =
        subst (λ (classes : List ClassRecord). IsStaticValue classes k.own.state m got.value) (same_classes heaps frames h k)
        (subst (λ (own : OwnState). IsStaticValue k.setting.classes own m got.value) (sym (own_is heaps frames h k))
        (subst (λ (n : MemberId). IsStaticValue k.setting.classes (w heaps frames h k).inside.own n got.value) got_member got.is_value))

    by_value : (v : Value) → IsStaticValue h.world.now.classes k.own.state m v → (IsSystemOut h.world.now.classes m → ⊥)
        → static_of k.own.state m ≡ Some v
    by_value v (inl out) never = absurd (never out.0)
    by_value v (inr static) never = static.1

    pub static_there : (IsSystemOut h.world.now.classes m → ⊥) → HasStatic k.own.state m
    static_there never = (got.value, by_value got.value is_value never)

    pub static_is : (v : Value) → (IsSystemOut h.world.now.classes m → ⊥) → static_of k.own.state m ≡ Some v → got.value ≡ v
    static_is v never is = same_Some got.value v (sym (by_value got.value is_value never) ∙ is)

    pub out_is : IsSystemOut h.world.now.classes m → got.value ≡ Held.Obj k.own.state.out
    out_is out = by_out got.value is_value
      where
        by_out : (v : Value) → IsStaticValue h.world.now.classes k.own.state m v → v ≡ Held.Obj k.own.state.out
        by_out v (inl is) = is.1
        by_out v (inr static) = absurd (static.0 out)

    pub value_got : (new : FrameContent) (v : Value) → got.value ≡ v
        → ((f : FrameState) → TopFrame frames h.segment f → SetsTop frames new h.segment (with_stack f (f.stack ++ v ∷ [])))
        → Done heaps frames h k heaps new k.own (Next.Goto ((place_in h).head.at + 1))
    value_got new v is sets =
        let f = got in
        let set : SetsTop frames new h.segment (with_stack (w heaps frames h k).frame ((w heaps frames h k).frame.stack ++ f.value ∷ [])) =
        subst (λ (u : Value). SetsTop frames new h.segment (with_stack (w heaps frames h k).frame ((w heaps frames h k).frame.stack ++ u ∷ [])))
        (sym is) (sets (w heaps frames h k).frame (top heaps frames h k)) in
        went_on heaps frames h k new [] (f.value ∷ []) (nothing_taken heaps frames h k) set
        (λ new_w goes. gets_static (record {
          op = op;
          member = f.member;
          field = f.field;
          names = f.names;
          value = f.value;
          value_is = f.is_value;
          does = goes;
        }))

-- ---- A value that is put.

module _ (heaps : HeapContent) (frames : FrameContent) (h : Here) (k : Doing heaps frames h) (op : (place_in h).instr.op ≡ PUTSTATIC) where
  abbrev pub put : PutStaticFound (s heaps frames h k) (i heaps frames h k) (w heaps frames h k)
  put = found_at k.setting (s heaps frames h k) (i heaps frames h k) (w heaps frames h k) PUTSTATIC op refl refl (found heaps frames h k)

  pub put_leads : (m : MemberId) × LeadsToField (place_in h) m
  put_leads = let f = put in (f.member, leads heaps frames h k f.member f.field f.names)

  pub one_there : HasEntries frames h.segment 1
  one_there = entries heaps frames h k (put.value ∷ []) put.on_top

  pub value_below : (v : Value) × StandsBelow frames h.segment 0 v
  value_below = (put.value, below heaps frames h k [] put.value [] put.on_top)

  module _ (m : MemberId) (to : LeadsToField (place_in h) m) where
    put_member : put.member ≡ m
    put_member = is_that heaps frames h k put.member put.field put.names m to

    pub put_field : FieldIs h.world.now.classes m put.field
    put_field =
        subst (λ (n : MemberId). FieldIs h.world.now.classes n put.field) put_member (field_here heaps frames h k put.member put.field put.names)

    pub put_there : HasStatic k.own.state m
    put_there =
        subst (λ (own : OwnState). HasStatic own m) (sym (own_is heaps frames h k))
        (subst (HasStatic (w heaps frames h k).inside.own) put_member put.there)

    pub value_put : (new : FrameContent) (t : TypeRef) (v stood : Value) → t ≡ put.field.kind → StandsBelow frames h.segment 0 v
        → stood ≡ stored t v → TakesOff frames new h.segment 1
        → Done heaps frames h k heaps new (let o : KeptState = record k.own { state = with_static k.own.state m stood } in o)
        (Next.Goto ((place_in h).head.at + 1))
    value_put new t v stood kind at stands takes =
        let f = put in
        let value : f.value ≡ v = is_there heaps frames h k [] f.value v [] f.on_top at in
        let own : OwnState = with_static (w heaps frames h k).inside.own f.member (stored f.field.kind f.value) in
        let same : own ≡ with_static k.own.state m stood =
        ap (λ (x : OwnState). with_static x f.member (stored f.field.kind f.value)) (sym (own_is heaps frames h k))
        ∙ ap (λ (n : MemberId). with_static k.own.state n (stored f.field.kind f.value)) put_member
        ∙ ap (with_static k.own.state m)
        (ap (λ (u : Value). stored f.field.kind u) value ∙ ap (λ (x : TypeRef). stored x v) (sym kind) ∙ sym stands) in
        let g = with_stack (w heaps frames h k).frame (f.on_top.0 ++ []) in
        let inside = with_own (w heaps frames h k).inside own in
        let sets : SetsTop frames new h.segment g =
        subst (λ (xs : List Value). SetsTop frames new h.segment (with_stack (w heaps frames h k).frame xs)) (sym (append-nil f.on_top.0))
        (took heaps frames h k new (f.value ∷ []) f.on_top takes) in
        let row = puts_static (record {
          op = op;
          member = f.member;
          field = f.field;
          names = f.names;
          is_there = f.there;
          value = f.value;
          does = going (w heaps frames h k) (f.value ∷ []) [] inside f.on_top;
        }) in
        let becomes : HeapBecomes heaps heaps h.domain (w heaps frames h k).inside.heap
        (heap_words h.world.now.classes (w heaps frames h k).inside.heap) =
        same_heap heaps heaps h.domain (w heaps frames h k).inside.heap (heap_words h.world.now.classes (w heaps frames h k).inside.heap)
        (is_same heaps) (heap_is heaps frames h k) (heap_words_used (c heaps frames h k) (here heaps frames h k) (place_in h) k.may) in
        goes_on (c heaps frames h k) (contents_of heaps new (let o : KeptState = record k.own { state = with_static k.own.state m stood } in o))
        (here heaps frames h k) (place_in h) k.may k.setting inside g row refl sets
        (subst (λ (x : OwnState). InsideBecomes (c heaps frames h k) (contents_of heaps new (let o : KeptState = record k.own { state = x } in o))
        (here heaps frames h k) inside) same
        (inside_now heaps frames h k heaps new (w heaps frames h k).inside.heap own g becomes sets))
