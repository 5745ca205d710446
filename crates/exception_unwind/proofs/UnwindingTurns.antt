-- The turns of unwinding: what is known before each, what the calls of one ask, and what is known after it and at the end.
use Rattle.std.proofs.Common.{inl, inr, ◌≡◌, ℕ, ◌+◌, ◌<◌, ◌≤◌, ◌&&◌, List, [], ◌∷◌, length, Option, Some, None, option_map, is_some, not, refl, sym, ap, subst, ◌∙◌, arith}
use Rattle.std.specs.Prelude.{if◌then◌else◌}
use Rattle.std.proofs.lemmas.Option.{none-some, same_Some}
use Rattle.jk_model.specs.declared.frames.FrameHead.{FrameHead}
use Rattle.jk_model.specs.declared.identifiers.ClassId.{ClassId}
use Rattle.jk_model.specs.declared.identifiers.DomainId.{DomainId}
use Rattle.jk_model.specs.declared.identifiers.SegmentNo.{SegmentNo}
use Rattle.jk_model.specs.declared.values.Value.TheVariants as Held
use Rattle.jk_model_classes.specs.Worlds.{WorldRecord}
use Rattle.jk_model_frames.specs.Frames.{FrameState}
use Rattle.jk_model_domains.specs.Objects.{NamedObject}
use Rattle.jk_model_domains.specs.OwnStates.{HasState}
use Rattle.jk_model_heaps.specs.declared.shapes.Unwound.TheVariants as Ended
use Rattle.jk_model_heaps.specs.Workings.{Inside, Setting}
use Rattle.jk_model_sharing.specs.SharedStates.{SharedState}
use Rattle.frame_store.specs.FrameContents.{HasTop, IsContent, IsThere, Pops, SetsTop, StoredSegment, TopFrame}
use Rattle.object_store.specs.HeapContents.{IsName}
use Rattle.heap_laws.specs.RaisableObjects.{IsThrowable}
use Rattle.step_contents.specs.Conditions.{MayChange, MayRaise}
use Rattle.step_contents.specs.Contents.{Contents, Here, contents_of, here_at}
use Rattle.step_contents.specs.Settings.{IsSetting}
use Rattle.exception_unwind.specs.declared.catching.CodePlace.{CodePlace}
use Rattle.exception_unwind.specs.LeftFrames.{FrameIsLeft}
use Rattle.exception_unwind.specs.Trials.{CatchesNowhere, IsCaughtBy, IsTried, place_afterwards, place_of}
use Rattle.exception_unwind.specs.UnwoundFrames.{IsUnwound}
use Rattle.exception_unwind.proofs.KnownDomains.{some_setting}
use Rattle.exception_unwind.proofs.Midway.{HasNext, Midway, begins, goes_on, has_place, has_room, has_state, is_caught, is_name, is_set, is_thrown, is_top, is_uncaught, may_change, next}
use Rattle.exception_unwind.proofs.PlacesTried.{no_method}

-- So many frames are left, and this object goes on, which no frame that stands at that place catches.
pub record SoFar (old now : Contents) (w : WorldRecord) (d : DomainId) (s : SegmentNo) (a gone thrown : ℕ) (place : CodePlace) : Type 0 where
  pub midway : (shared : SharedState) (x : Setting) (may : MayRaise old (here_at w shared d s)) → IsSetting old (here_at w shared d s) x
      → Midway old now (here_at w shared d s) x may.run a gone thrown
  pub tried : IsTried w.classes (now.heaps.heap d) place thrown

abbrev afterwards : Option ClassId → Option ClassId → CodePlace → CodePlace
afterwards o p place = if not (is_some o) && not (is_some p) then place else record { method = None; at = 0 }

module _ (old : Contents) (w : WorldRecord) (d : DomainId) (s : SegmentNo) (a : ℕ)
    (throws : IsThrowable w.classes (old.heaps.heap d) a) where
  pub nothing_yet : (tried : CodePlace) → tried.method ≡ None → SoFar old old w d s a 0 a tried
  nothing_yet tried none = record {
    midway = λ shared x may set. begins old (here_at w shared d s) x may a;
    tried = no_method w.classes (old.heaps.heap d) tried a none;
  }

  pub segment_there : (shared : SharedState) → MayRaise old (here_at w shared d s) → IsThere old.frames s
  segment_there shared may = ap (λ (o : Option StoredSegment). is_some o) may.holds.frames

  depth_is : (shared : SharedState) (may : MayRaise old (here_at w shared d s)) (n : ℕ)
      → Some n ≡ option_map (λ (g : StoredSegment). length g.frames) (old.frames.segment s) → n ≡ length may.run.frames
  depth_is shared may n is =
      same_Some n (length may.run.frames) (is ∙ ap (option_map (λ (g : StoredSegment). length g.frames)) may.holds.frames)

  module _ (now : Contents) (gone thrown depth : ℕ) (tried : CodePlace) (far : SoFar old now w d s a gone thrown tried)
      (deep : Some depth ≡ option_map (λ (g : StoredSegment). length g.frames) (old.frames.segment s)) where
    -- ---- What the calls ask, by some way in which something may be raised.

    module _ (shared : SharedState) (may : MayRaise old (here_at w shared d s)) where
      abbrev here : Here
      here = here_at w shared d s

      abbrev x : Setting
      x = (some_setting old here may.domain).0

      abbrev set : IsSetting old here x
      set = (some_setting old here may.domain).1

      abbrev m : Midway old now here x may.run a gone thrown
      m = far.midway shared x may set

      pub name_there : IsName now.heaps d thrown
      name_there = is_name old now here x may set a gone thrown throws m

      pub thrown_there : IsThrowable w.classes (now.heaps.heap d) thrown
      thrown_there = is_thrown old now here x may set a gone thrown throws m

      pub inside_may_change : MayChange (contents_of now.heaps old.frames now.own) here
      inside_may_change = may_change old now here x may set a gone thrown throws m

      pub next_there : gone < depth → HasNext old now here x may set a gone thrown throws m
      next_there more =
          next old now here x may set a gone thrown throws m (omega (arith, more, depth_is shared may depth deep))

      pub top_there : gone < depth → HasTop now.frames s
      top_there more =
          let n = next_there more in
          (n.frame, is_top old now here x may set a gone thrown throws m n)

      module _ (more : gone < depth) (head : FrameHead) (is : (f : FrameState) → TopFrame now.frames s f → head ≡ f.head) where
        abbrev n : HasNext old now here x may set a gone thrown throws m
        n = next_there more

        same_head : n.frame.head ≡ head
        same_head = sym (is n.frame (is_top old now here x may set a gone thrown throws m n))

        pub state_there : (c : ClassId) → head.initialises ≡ Some c → HasState now.own.state c
        state_there c init =
            has_state old now here x may set a gone thrown throws m n c (ap (λ (h : FrameHead). h.initialises) same_head ∙ init)

        pub room_there : (handler : ℕ) → IsCaughtBy w.classes (now.heaps.heap d) head thrown handler
            → (f : FrameState) × TopFrame now.frames s f × (1 ≤ f.head.max_stack)
        room_there handler caught =
            let by = caught x n.frame set.classes same_head (has_place old now here x may set a gone thrown throws m n) in (
              n.frame,
              is_top old now here x may set a gone thrown throws m n,
              has_room old now here x may set a gone thrown throws m n (now.heaps.heap d) by.1.0 by.1.1,
            )

    -- ---- What comes of a turn.

    module _ (more : gone < depth) (head : FrameHead) (is : (f : FrameState) → TopFrame now.frames s f → head ≡ f.head) where
      head_of : (shared : SharedState) (y : Setting) (may : MayRaise old (here_at w shared d s)) (set : IsSetting old (here_at w shared d s) y)
          → HasNext old now (here_at w shared d s) y may set a gone thrown throws (far.midway shared y may set)
      head_of shared y may set =
          next old now (here_at w shared d s) y may set a gone thrown throws (far.midway shared y may set)
          (omega (arith, more, depth_is shared may depth deep))

      head_is : (shared : SharedState) (y : Setting) (may : MayRaise old (here_at w shared d s)) (set : IsSetting old (here_at w shared d s) y)
          → (head_of shared y may set).frame.head ≡ head
      head_is shared y may set =
          sym (is (head_of shared y may set).frame
          (is_top old now (here_at w shared d s) y may set a gone thrown throws (far.midway shared y may set) (head_of shared y may set)))

      pub next_turn : (new : Contents) (b : ℕ) → IsContent now.frames → CatchesNowhere w.classes (now.heaps.heap d) head thrown
          → ((shared : SharedState) → FrameIsLeft (contents_of now.heaps old.frames now.own) (contents_of new.heaps old.frames new.own)
          (here_at w shared d s) head thrown b) → Pops now.frames new.frames s → (shared : SharedState) (y : Setting)
          (may : MayRaise old (here_at w shared d s)) → IsSetting old (here_at w shared d s) y
          → Midway old new (here_at w shared d s) y may.run a (gone + 1) b
      next_turn new b holds not leaves pops shared y may set =
          let k = head_of shared y may set in
          let same = head_is shared y may set in
          goes_on old now (here_at w shared d s) y may set a gone thrown throws (far.midway shared y may set) k new b holds
          (not y k.frame set.classes same)
          (subst (λ (h : FrameHead). FrameIsLeft (contents_of now.heaps old.frames now.own) (contents_of new.heaps old.frames new.own)
          (here_at w shared d s) h thrown b) (sym same) (leaves shared))
          pops

      -- a frame catches it, and stands at its handler
      pub caught_turn : (new : Contents) (handler : ℕ) → new.heaps ≡ now.heaps → new.own ≡ now.own
          → IsCaughtBy w.classes (now.heaps.heap d) head thrown handler
          → ((f : FrameState) → TopFrame now.frames s f → SetsTop now.frames new.frames s
          (record f { head = record f.head { at = handler; need = None }; stack = Held.Obj thrown ∷ [] }))
          → (shared : SharedState) → IsUnwound old new (here_at w shared d s) a Ended.Caught
      caught_turn new handler same_heaps same_own caught sets shared = λ y may set.
          let here = here_at w shared d s in
          let mid = far.midway shared y may set in
          let k = head_of shared y may set in
          let by = caught y k.frame set.classes (head_is shared y may set) (has_place old now here y may set a gone thrown throws mid k) in
          let place = by.1.2 in
          let need : None ≡ k.frame.head.need = sym by.0 in
          let one = sets k.frame (is_top old now here y may set a gone thrown throws mid k) in
          let two = subst (λ (p : ℕ). SetsTop now.frames new.frames s
          (let f : FrameState = record k.frame { head = record k.frame.head { at = p; need = None }; stack = Held.Obj thrown ∷ [] } in f))
          (sym place) one in
          let three = subst (λ (o : Option ClassId). SetsTop now.frames new.frames s
          (let f : FrameState = record k.frame { head = record k.frame.head { at = by.1.0.handler; need = o }; stack = Held.Obj thrown ∷ [] } in f))
          need two in
          is_caught old now here y may set a gone thrown throws mid k new by.1.0 same_heaps same_own by.1.1 three

      -- ---- Where the object that goes on was tried.

      plain_stays : (new : Contents) (b : ℕ) (shared : SharedState) → MayRaise old (here_at w shared d s) → head.initialises ≡ None
          → FrameIsLeft (contents_of now.heaps old.frames now.own) (contents_of new.heaps old.frames new.own) (here_at w shared d s) head thrown b
          → (now.heaps.heap d ≡ new.heaps.heap d) × (thrown ≡ b)
      plain_stays new b shared may plain leaves =
          let here = here_at w shared d s in
          let y = x shared may in
          let mid = m shared may in
          let k = next_there shared may more in
          let done = leaves y k.frame (inside_may_change shared may)
          (is_set old now here y may (set shared may) a gone thrown throws mid) (same_head shared may more head is) in
          elim done.1 [
            | inl (none, same, one) ↦ (ap (λ (i : Inside). i.heap) (sym same ∙ done.2.is_inside), sym one)
            | inr (c, init, has, left) ↦
                absurd (none-some c (sym plain ∙ ap (λ (h : FrameHead). h.initialises) (sym (same_head shared may more head is)) ∙ init))
          ]

      afterwards_by : (new : Contents) (b : ℕ) (shared : SharedState) → MayRaise old (here_at w shared d s)
          → FrameIsLeft (contents_of now.heaps old.frames now.own) (contents_of new.heaps old.frames new.own) (here_at w shared d s) head thrown b
          → (head.need ≡ None → IsTried w.classes (now.heaps.heap d) (place_of head) thrown) → (o p : Option ClassId) → head.need ≡ o
          → head.initialises ≡ p
          → IsTried w.classes (new.heaps.heap d) (afterwards o p (place_of head)) b
      afterwards_by new b shared may leaves tried_now None None no_need plain =
          let same = plain_stays new b shared may plain leaves in
          subst (λ (heap : List NamedObject). IsTried w.classes heap (place_of head) b) same.0
          (subst (λ (c : ℕ). IsTried w.classes (now.heaps.heap d) (place_of head) c) same.1 (tried_now no_need))
      afterwards_by new b shared may leaves tried_now (Some c) p need init = no_method w.classes (new.heaps.heap d) (record { method = None; at = 0 }) b refl
      afterwards_by new b shared may leaves tried_now None (Some c) need init = no_method w.classes (new.heaps.heap d) (record { method = None; at = 0 }) b refl

      pub tried_turn : (new : Contents) (b : ℕ) (shared : SharedState) → MayRaise old (here_at w shared d s)
          → FrameIsLeft (contents_of now.heaps old.frames now.own) (contents_of new.heaps old.frames new.own) (here_at w shared d s) head thrown b
          → (head.need ≡ None → IsTried w.classes (now.heaps.heap d) (place_of head) thrown)
          → IsTried w.classes (new.heaps.heap d) (place_afterwards head) b
      tried_turn new b shared may leaves tried_now = afterwards_by new b shared may leaves tried_now head.need head.initialises refl refl

    -- ---- The end.

    pub uncaught_all : gone ≡ depth → (shared : SharedState) → IsUnwound old now (here_at w shared d s) a (Ended.Uncaught thrown)
    uncaught_all all shared = λ y may set.
        is_uncaught old now (here_at w shared d s) y may set a gone thrown throws (far.midway shared y may set)
        (omega (arith, all, depth_is shared may depth deep))
