-- The top frame of a segment catches an object where none above it had to be left: what is asked of it, and where it goes on.
use Rattle.std.proofs.Common.{inl, inr, ◌≡◌, ℕ, ◌<◌, ◌≤◌, List, [], ◌∷◌, length, Option, Some, None, option_map, slice_get, refl, sym, ap, subst, ◌∙◌, arith}
use Rattle.std.proofs.lemmas.List.{length-append}
use Rattle.std.proofs.lemmas.Option.{none-some, same_Some, slice_get_within}
use Rattle.list_lemmas.proofs.ItemsByPlace.{item_there}
use Rattle.list_lemmas.proofs.ItemsOfLists.{Contains-at}
use Rattle.jk_model.specs.declared.frames.FrameHead.{FrameHead}
use Rattle.jk_model.specs.declared.identifiers.ClassId.{ClassId}
use Rattle.jk_model.specs.declared.identifiers.DomainId.{DomainId}
use Rattle.jk_model.specs.declared.identifiers.MemberId.{MemberId}
use Rattle.jk_model.specs.declared.identifiers.SegmentNo.{SegmentNo}
use Rattle.jk_model.specs.declared.instructions.Instr.{Instr}
use Rattle.jk_model.specs.declared.values.Value.TheVariants as Held
use Rattle.jk_model_classes.specs.declared.records.Caught.{Caught}
use Rattle.jk_model_classes.specs.declared.records.ClassRecord.{ClassRecord}
use Rattle.jk_model_classes.specs.Worlds.{WorldRecord}
use Rattle.jk_model_typing.specs.Scopes.{CodeScope, IsScopeOf}
use Rattle.typing_lemmas.proofs.OneScope.{one-scope}
use Rattle.jk_model_frames.specs.Frames.{FrameState}
use Rattle.jk_model_domains.specs.Objects.{NamedObject}
use Rattle.jk_model_heaps.specs.declared.shapes.Unwound.TheVariants as Ended
use Rattle.jk_model_heaps.specs.Workings.{Setting}
use Rattle.jk_model_sealing.specs.FittingFrames.{HasTyping}
use Rattle.jk_model_sharing.specs.SharedStates.{SharedState}
use Rattle.jk_model_unwinding.specs.Unwinding.{Catches}
use Rattle.class_init.specs.KeptStates.{KeptState}
use Rattle.frame_store.specs.FrameContents.{FrameContent, SetsTop, StoredSegment, TopFrame}
use Rattle.number_ops.proofs.TopFrames.{same_top, top_after}
use Rattle.object_store.specs.HeapContents.{HeapContent, IsName}
use Rattle.heap_laws.specs.RaisableObjects.{IsThrowable}
use Rattle.step_contents.specs.Conditions.{MayRaise}
use Rattle.step_contents.specs.Contents.{Contents, Here, contents_of, here_at}
use Rattle.step_contents.specs.Settings.{IsSetting}
use Rattle.exception_unwind.specs.declared.catching.CodePlace.{CodePlace}
use Rattle.exception_unwind.specs.CaughtHere.{StandsAtHandler}
use Rattle.exception_unwind.specs.Trials.{CatchesAt, IsCaughtBy, IsTried}
use Rattle.exception_unwind.specs.UnwoundFrames.{IsUnwound}
use Rattle.exception_unwind.proofs.KnownDomains.{some_setting}
use Rattle.exception_unwind.proofs.Midway.{HasNext, Midway, has_place, is_top, typed}
use Rattle.exception_unwind.proofs.UnwindingTurns.{SoFar, caught_turn, name_there, next_there, nothing_yet, room_there}

-- there is an instruction where a handler begins that catches
handler_there : (x : Setting) (heap : List NamedObject) (f : FrameState) (a : ℕ) (h : Caught) → HasTyping x.classes f → (c : Catches x heap f a h)
    → (i : Instr) × (slice_get c.code.scope.code.instrs h.handler ≡ Some i)
handler_there x heap f a h t c =
    let typing = t.is_least.typing in
    let method : t.method ≡ c.code.method = same_Some t.method c.code.method (sym t.is_method ∙ c.code.is_method) in
    let scope : typing.scope ≡ c.code.scope =
    one-scope x.classes c.code.method typing.scope c.code.scope (subst (λ (m : MemberId). IsScopeOf x.classes m typing.scope) method typing.scope_is)
    c.code.is_scope in
    let stands : slice_get typing.scope.code.instrs f.head.at ≡ Some c.code.instr =
    subst (λ (s : CodeScope). slice_get s.code.instrs f.head.at ≡ Some c.code.instr) (sym scope) c.code.stands in
    let listed : slice_get typing.scope.code.handlers c.place ≡ Some h =
    subst (λ (s : CodeScope). slice_get s.code.handlers c.place ≡ Some h) (sym scope) c.listed in
    let to = (typing.each f.head.at c.code.instr t.type stands t.stands).caught h (Contains-at typing.scope.code.handlers c.place h listed) c.covers in
    let low = slice_get_within t.frames h.handler (Some to.0) to.1 in
    let long : length typing.scope.code.instrs ≡ length c.code.scope.code.instrs = ap (λ (s : CodeScope). length s.code.instrs) scope in
    item_there c.code.scope.code.instrs h.handler (omega (arith, low, typing.as_many, long))

module _ (heaps : HeapContent) (frames : FrameContent) (w : WorldRecord) (d : DomainId) (s : SegmentNo) (a : ℕ)
    (throws : IsThrowable w.classes (heaps.heap d) a) (f : FrameState) (top : TopFrame frames s f) (head : FrameHead) (is : head ≡ f.head) where
  abbrev nowhere : CodePlace
  nowhere = record { method = None; at = 0 }

  abbrev old : KeptState → Contents
  old own = contents_of heaps frames own

  far : (own : KeptState) → SoFar (old own) (old own) w d s a 0 a nowhere
  far own = nothing_yet (old own) w d s a throws nowhere refl

  abbrev depth : ℕ
  depth = length top.segment.frames

  deep : Some depth ≡ option_map (λ (g : StoredSegment). length g.frames) (frames.segment s)
  deep = sym (ap (option_map (λ (g : StoredSegment). length g.frames)) top.is_there)

  more : 0 < depth
  more = omega (arith, ap length top.frames, length-append top.lower (f ∷ []))

  is_head : (g : FrameState) → TopFrame frames s g → head ≡ g.head
  is_head g there = is ∙ ap (λ (k : FrameState). k.head) (same_top frames s f g top there)

  -- ---- What is asked.

  pub tried_nowhere : KeptState → IsTried w.classes (heaps.heap d) nowhere a
  tried_nowhere own = (far own).tried

  module _ (own : KeptState) (shared : SharedState) (may : MayRaise (old own) (here_at w shared d s)) where
    pub is_name_there : IsName heaps d a
    is_name_there = name_there (old own) w d s a throws (old own) 0 a depth nowhere (far own) deep shared may

    pub has_room_there : (n : ℕ) → IsCaughtBy w.classes (heaps.heap d) head a n → (g : FrameState) × TopFrame frames s g × (1 ≤ g.head.max_stack)
    has_room_there n caught =
        room_there (old own) w d s a throws (old own) 0 a depth nowhere (far own) deep shared may more head is_head n caught

  -- ---- What comes of it.

  module _ (new : FrameContent) (n : ℕ) (caught : IsCaughtBy w.classes (heaps.heap d) head a n)
      (sets : (g : FrameState) → TopFrame frames s g
      → SetsTop frames new s (record g { head = record g.head { at = n; need = None }; stack = Held.Obj a ∷ [] })) where
    pub is_caught_here : (own : KeptState) (shared : SharedState)
        → IsUnwound (old own) (contents_of heaps new own) (here_at w shared d s) a Ended.Caught
    is_caught_here own shared =
        caught_turn (old own) w d s a throws (old own) 0 a depth nowhere (far own) deep more head is_head (contents_of heaps new own) n refl refl caught
        sets shared

    module _ (own : KeptState) (shared : SharedState) (may : MayRaise (old own) (here_at w shared d s)) where
      abbrev here : Here
      here = here_at w shared d s

      abbrev x : Setting
      x = (some_setting (old own) here may.domain).0

      abbrev set : IsSetting (old own) here x
      set = (some_setting (old own) here may.domain).1

      abbrev mid : Midway (old own) (old own) here x may.run a 0 a
      mid = (far own).midway shared x may set

      abbrev k : HasNext (old own) (old own) here x may set a 0 a throws mid
      k = next_there (old own) w d s a throws (old own) 0 a depth nowhere (far own) deep shared may more

      on_top : TopFrame frames s k.frame
      on_top = is_top (old own) (old own) here x may set a 0 a throws mid k

      same_head : k.frame.head ≡ head
      same_head = sym (is_head k.frame on_top)

      by : (k.frame.head.need ≡ None) × CatchesAt x (heaps.heap d) k.frame a n
      by = caught x k.frame set.classes same_head (has_place (old own) (old own) here x may set a 0 a throws mid k)

      c : Catches x (heaps.heap d) k.frame a by.1.0
      c = by.1.1

      typing : HasTyping x.classes k.frame
      typing = elim (typed (old own) (old own) here x may set a 0 a throws mid k) [
        | inl none ↦ absurd (none-some c.code.method (sym none ∙ c.code.is_method))
        | inr t ↦ t
      ]

      pub stands_at_handler : StandsAtHandler new w.classes s head n
      stands_at_handler = λ at is_at place.
          let there = handler_there x (heaps.heap d) k.frame a by.1.0 typing c in
          let one_head : at.head ≡ k.frame.head = is_at ∙ sym same_head in
          let method : c.code.method ≡ place.method =
          same_Some c.code.method place.method (sym c.code.is_method ∙ ap (λ (h : FrameHead). h.method) (sym one_head) ∙ place.is_method) in
          let scope : c.code.scope ≡ at.scope =
          one-scope w.classes place.method c.code.scope at.scope
          (subst (λ (m : MemberId). IsScopeOf w.classes m c.code.scope) method
          (subst (λ (l : List ClassRecord). IsScopeOf l c.code.method c.code.scope) set.classes c.code.is_scope)) place.is_scope in
          let found : slice_get at.scope.code.instrs n ≡ Some there.0 =
          subst (λ (p : ℕ). slice_get at.scope.code.instrs p ≡ Some there.0) by.1.2
          (subst (λ (y : CodeScope). slice_get y.code.instrs by.1.0.handler ≡ Some there.0) scope there.1) in
          let need : f.head.need ≡ None = ap (λ (h : FrameHead). h.need) (sym is ∙ sym same_head) ∙ by.0 in
          let caught_head : FrameHead = record f.head { at = n; need = None } in
          record {
            instr = there.0;
            there = found;
            stands = record {
              frame = record f { head = caught_head; stack = Held.Obj a ∷ [] };
              top = top_after frames new s (record f { head = caught_head; stack = Held.Obj a ∷ [] }) (sets f top);
              head = ap (λ (h : FrameHead). let g : FrameHead = record h { at = n } in g) (is_at ∙ is)
                  ∙ ap (λ (o : Option ClassId). let g : FrameHead = record f.head { at = n; need = o } in g) need;
              no_need = ap (λ (h : FrameHead). h.need) one_head ∙ by.0;
              place = record { method = place.method; is_method = place.is_method; is_scope = place.is_scope; stands = found };
            };
          }
