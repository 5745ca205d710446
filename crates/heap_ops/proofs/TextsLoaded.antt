-- The object of the text that an instruction loads.
use Rattle.std.proofs.Common.{◌≡◌, inl, inr, ℕ, ◌+◌, ◌-◌, ◌<◌, ◌≤◌, List, [], ◌∷◌, ◌++◌, length, Contains, Option, Some, None, refl, sym, ap, subst, ◌∙◌, arith}
use Rattle.std.specs.Option.{option_map_or}
use Rattle.list_lemmas.proofs.ItemsOfLists.{Contains-at}
use Rattle.jk_model.specs.declared.frames.FrameHead.{FrameHead}
use Rattle.jk_model.specs.declared.identifiers.DomainId.{DomainId}
use Rattle.jk_model.specs.declared.opcodes.TheConstants.{LDC_W}
use Rattle.jk_model.specs.declared.steps.After.TheVariants as Next
use Rattle.jk_model.specs.declared.steps.Raise.TheVariants as Raised
use Rattle.jk_model.specs.declared.steps.Standing.TheVariants as Stands
use Rattle.jk_model.specs.declared.values.Value.TheVariants as Held
use Rattle.jk_model_classes.specs.declared.records.Link.{Link}
use Rattle.jk_model_classes.specs.declared.records.Link.TheVariants as To
use Rattle.jk_model_frames.specs.Frames.{FrameState}
use Rattle.jk_model_domains.specs.Objects.{NamedObject, Text, object_words}
use Rattle.jk_model_domains.specs.OwnStates.{IsLiteralOf, Literal, OwnState, literal_named}
use Rattle.jk_model_heaps.specs.Heaps.{named}
use Rattle.jk_model_heaps.specs.Workings.{with_heap}
use Rattle.jk_model_heap_rows.specs.HeapRows.{loads_text}
use Rattle.jk_model_heap_rows.specs.NewObjectRows.{LacksWords, with_literal}
use Rattle.jk_model_sealing.specs.SealedRuns.{KnowsClassOf}
use Rattle.class_init.specs.KeptStates.{KeptState}
use Rattle.step_contents.specs.Operands.{LeadsToText}
use Rattle.frame_store.specs.FrameContents.{FrameContent, SetsTop, TopFrame}
use Rattle.object_store.specs.HeapContents.{HeapContent, IsHeapContent, IsSame, MakesObject, words_left}
use Rattle.number_laws.proofs.FrameParts.{with_stack}
use Rattle.step_contents.specs.Contents.{InsideBecomes, contents_of}
use Rattle.step_contents.proofs.InstructionsBegin.{runs_well}
use Rattle.heap_ops.specs.declared.here.Here.{Here}
use Rattle.heap_ops.specs.LiteralObjects.{HasObject, LacksObject, LiteralCall, with_text}
use Rattle.heap_ops.specs.OneInstruction.{place_in}
use Rattle.heap_ops.proofs.DoingHere.{Doing, Done, c, found, here, i, s, top, w}
use Rattle.heap_ops.proofs.FoundByOpcode.{TextFound, found_at}
use Rattle.heap_ops.proofs.InstructionDone.{frame_stays, going, goes_on, inside_stays, raises}
use Rattle.heap_ops.proofs.ObjectsMade.{inside_now, lacks, one_made, own_is}
use Rattle.heap_ops.proofs.ObjectsNew.{nothing_taken}

module _ (heaps : HeapContent) (frames : FrameContent) (h : Here) (k : Doing heaps frames h) (op : (place_in h).instr.op ≡ LDC_W) where
  abbrev pub here_found : TextFound (s heaps frames h k) (i heaps frames h k)
  here_found = found_at k.setting (s heaps frames h k) (i heaps frames h k) (w heaps frames h k) LDC_W op refl refl (found heaps frames h k)

  pub leads_somewhere : LeadsToText (place_in h) None → ⊥
  leads_somewhere none = none here_found.text here_found.leads

  module _ (text : List ℕ) (to : LeadsToText (place_in h) (Some text)) where
    -- the text is one of the domain's, and has a room
    pub has_room : Contains k.own.rooms text
    has_room =
        let code = k.may.place in
        let home : KnowsClassOf k.may.domain.names.table (Some code.method) =
        subst (KnowsClassOf k.may.domain.names.table) (ap (λ (x : FrameHead). x.method) (sym k.may.head) ∙ code.is_method)
        (runs_well k.may k.setting k.is_setting).at_home.0 in
        let listed : Contains code.is_scope.class.links (To.Text text) =
        subst (λ (links : List Link). Contains links (To.Text text)) code.is_scope.links
        (Contains-at (s heaps frames h k).links to.0 (To.Text text) to.2) in
        let literal : IsLiteralOf h.world.now.classes k.may.domain.names.table text =
        (code.method.class, code.is_scope.class, home, code.is_scope.class_is, inl listed) in
        k.may.domain.rooms.texts text literal

    named_here : (o : Option ℕ) → literal_named k.own.state text ≡ o → literal_named (w heaps frames h k).inside.own text ≡ o
    named_here o is = ap (λ (x : OwnState). literal_named x text) (sym (own_is heaps frames h k)) ∙ is

    -- the object was there
    pub had : (new_heaps : HeapContent) (new_frames : FrameContent) (new_own : KeptState) (a : ℕ) → literal_named k.own.state text ≡ Some a
        → IsSame heaps new_heaps → new_own ≡ k.own
        → SetsTop frames new_frames h.segment (with_stack (w heaps frames h k).frame ((w heaps frames h k).frame.stack ++ Held.Obj a ∷ []))
        → Done heaps frames h k new_heaps new_frames new_own (Next.Goto ((place_in h).head.at + 1))
    had new_heaps new_frames new_own a is same kept sets =
        let on_top = nothing_taken heaps frames h k in
        let g = with_stack (w heaps frames h k).frame ((w heaps frames h k).frame.stack ++ Held.Obj a ∷ []) in
        let inside = (w heaps frames h k).inside in
        let row = loads_text (record {
          op = op;
          text = text;
          names = to;
          does = inl (a, named_here (Some a) is, going (w heaps frames h k) [] (Held.Obj a ∷ []) inside on_top);
        }) in
        goes_on (c heaps frames h k) (contents_of new_heaps new_frames new_own) (here heaps frames h k) (place_in h) k.may k.setting inside g row refl sets
        (inside_stays (c heaps frames h k) (here heaps frames h k) (place_in h) k.may (contents_of new_heaps new_frames new_own) same kept
        (sets.2.domains.first_page h.domain))

    -- the object is new
    pub made : IsHeapContent heaps → (new_heaps : HeapContent) (new_frames : FrameContent) (new_own : KeptState) (a : ℕ)
        → literal_named k.own.state text ≡ None → MakesObject heaps new_heaps h.world.now.classes h.domain a (Text text)
        → 4 + length text ≤ words_left heaps h.domain → new_own ≡ with_text k.own text a
        → SetsTop frames new_frames h.segment (with_stack (w heaps frames h k).frame ((w heaps frames h k).frame.stack ++ Held.Obj a ∷ []))
        → Done heaps frames h k new_heaps new_frames new_own (Next.Goto ((place_in h).head.at + 1))
    made holds new_heaps new_frames new_own a none makes low kept sets =
        let on_top = nothing_taken heaps frames h k in
        let g = with_stack (w heaps frames h k).frame ((w heaps frames h k).frame.stack ++ Held.Obj a ∷ []) in
        let l : Literal = record { text = text; name = a } in
        let new = one_made heaps frames h k holds new_heaps a (Text text) makes low in
        let heap : List NamedObject = (w heaps frames h k).inside.heap ++ named a (Text text) ∷ [] in
        let inside = with_heap (with_literal (w heaps frames h k).inside l) heap in
        let own : OwnState = inside.own in
        let same : (let o : KeptState = record k.own { state = own } in o) ≡ new_own =
        ap (λ (x : OwnState). let y : OwnState = record x { literals = x.literals ++ l ∷ [] } in let o : KeptState = record k.own { state = y } in o)
        (sym (own_is heaps frames h k)) ∙ sym kept in
        let row = loads_text (record {
          op = op;
          text = text;
          names = to;
          does = inr (inl (a, heap, named_here None none, new.0, going (w heaps frames h k) [] (Held.Obj a ∷ []) inside on_top));
        }) in
        goes_on (c heaps frames h k) (contents_of new_heaps new_frames new_own) (here heaps frames h k) (place_in h) k.may k.setting inside g row refl sets
        (subst (λ (o : KeptState). InsideBecomes (c heaps frames h k) (contents_of new_heaps new_frames o) (here heaps frames h k) inside) same
        (inside_now heaps frames h k new_heaps new_frames heap own g new.1 sets))

    pub pushed : IsHeapContent heaps → (new_heaps : HeapContent) (new_frames : FrameContent) (new_own : KeptState) (a : ℕ)
        → (let x : LiteralCall = record { heaps = heaps; new_heaps = new_heaps; own = k.own; new_own = new_own; domain = h.domain; text = text } in
        HasObject x h.world.now.classes a)
        → ((f : FrameState) → TopFrame frames h.segment f → SetsTop frames new_frames h.segment (with_stack f (f.stack ++ Held.Obj a ∷ [])))
        → Done heaps frames h k new_heaps new_frames new_own (Next.Goto ((place_in h).head.at + 1))
    pushed holds new_heaps new_frames new_own a (inl (is, same, kept)) sets =
        had new_heaps new_frames new_own a is same kept (sets (w heaps frames h k).frame (top heaps frames h k))
    pushed holds new_heaps new_frames new_own a (inr (none, makes, low, kept)) sets =
        made holds new_heaps new_frames new_own a none makes low kept (sets (w heaps frames h k).frame (top heaps frames h k))

    pub fails : (new_heaps : HeapContent) (new_own : KeptState)
        → (let x : LiteralCall = record { heaps = heaps; new_heaps = new_heaps; own = k.own; new_own = new_own; domain = h.domain; text = text } in
        LacksObject x) → Done heaps frames h k new_heaps frames new_own (Next.Raise (Raised.Standing Stands.OutOfMemoryError))
    fails new_heaps new_own (none, same, kept, low) =
        let lacking : LacksWords k.setting (w heaps frames h k) (object_words k.setting.classes (Text text)) =
        lacks heaps frames h k (4 + length text) low in
        let row = loads_text (record { op = op; text = text; names = to; does = inr (inr (named_here None none, (lacking, (refl, refl)))) }) in
        raises (c heaps frames h k) (contents_of new_heaps frames new_own) (here heaps frames h k) (place_in h) k.may k.setting
        (Raised.Standing Stands.OutOfMemoryError) row (frame_stays (c heaps frames h k) (here heaps frames h k) (place_in h) k.may)
        (inside_stays (c heaps frames h k) (here heaps frames h k) (place_in h) k.may (contents_of new_heaps frames new_own) same kept refl)

-- ---- A text that is longer than any heap.

pub left_most : (used : ℕ) (q : Option ℕ) → ((n : ℕ) → q ≡ Some n → n ≤ 16777216) → option_map_or (λ (m : ℕ). m - used) q 0 ≤ 16777216
left_most used None most = omega arith
left_most used (Some n) most = let few = most n refl in omega (arith, few)

pub too_long : (heaps : HeapContent) (d : DomainId) (n : ℕ) → IsHeapContent heaps → 16777216 < n → words_left heaps d < 4 + n
too_long heaps d n holds long =
    let most = left_most (heaps.used d) (heaps.quota d) (λ q is. (holds.within d q is).2) in
    omega (arith, most, long)
