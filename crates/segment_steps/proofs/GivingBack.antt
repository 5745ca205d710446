-- A frame that returned is taken off, and what is left goes on.
use Rattle.std.proofs.Common.{◌≡◌, ◌≢◌, ℕ, ◌+◌, ◌-◌, ◌≤◌, List, [], ◌∷◌, ◌++◌, length, Option, Some, None, append_assoc, length-append, option_map, refl, sym, ap, subst, ◌∙◌, arith}
use Rattle.std.proofs.lemmas.List.Sums.{sum_by_push}
use Rattle.std.proofs.lemmas.Option.{same_Some}
use Rattle.list_lemmas.proofs.LastItems.{last_of}
use Rattle.jk_model.specs.declared.identifiers.ClassId.{ClassId}
use Rattle.jk_model.specs.declared.identifiers.DomainId.{DomainId}
use Rattle.jk_model.specs.declared.identifiers.SegmentNo.{SegmentNo}
use Rattle.jk_model.specs.declared.values.Value.{Value}
use Rattle.jk_model_domains.specs.declared.states.ClassState.TheVariants as State
use Rattle.jk_model_domains.specs.OwnStates.{OwnState, with_state}
use Rattle.jk_model_frames.specs.Frames.{FrameState, frames_chunks, head_chunks}
use Rattle.jk_model_heaps.specs.CalledFrames.{as_entries, resumed}
use Rattle.jk_model_heaps.specs.Workings.{Inside, Run, Setting, Working}
use Rattle.jk_model_running.specs.LocalSteps.{ends, ends_initialiser, returns, with_class}
use Rattle.jk_model_running.specs.Ways.{Ended, GoesOn}
use Rattle.class_init.specs.KeptStates.{KeptState}
use Rattle.frame_store.specs.FrameContents.{Changes, FrameContent, GivesBack, MayGiveBack, Pops, StoredSegment, TopFrame, given_back, gone_on}
use Rattle.object_store.specs.HeapContents.{HeapContent}
use Rattle.step_contents.specs.Contents.{Becomes, Contents, FramesBecome, Here, InsideBecomes, contents_of, with_frame}
use Rattle.exception_unwind.proofs.FramesChanged.{pops_it, segment_of}
use Rattle.segment_steps.specs.Returning.{HasReturned, MayReturn, PaysFrames}
use Rattle.segment_steps.specs.declared.went.Went.TheVariants as Goes
use Rattle.segment_steps.proofs.ChangesInTurn.{inside_kept, stored_top}

-- ---- What is given back, as the store of frames says it.

same_entries : (v : Option Value) → given_back v ≡ as_entries v
same_entries None = refl
same_entries (Some v) = refl

gone_resumed : (v : Option Value) (f : FrameState) → f.head.need ≡ None → gone_on v f ≡ resumed v f
gone_resumed v f none =
    ap (λ (o : Option ClassId). let g : FrameState = record f {
      head = record f.head { at = f.head.at + 1; need = o };
      stack = f.stack ++ given_back v;
    } in g) (sym none)
    ∙ ap (λ (stack : List Value). let g : FrameState = record f { head = record f.head { at = f.head.at + 1 }; stack = f.stack ++ stack } in g)
    (same_entries v)

-- the segment has so many frames
abbrev pub HasDepth : FrameContent → SegmentNo → ℕ → Type 0
HasDepth c s n = Some n ≡ option_map (λ (g : StoredSegment). length g.frames) (c.segment s)

-- ---- A frame that returned is gone.

module _ (heaps : HeapContent) (frames : FrameContent) (own : KeptState) (here : Here) (callers : List FrameState) (w : Working)
    (v : Option Value) (may : MayReturn (contents_of heaps frames own) here callers w v) where
  abbrev old : Contents
  old = contents_of heaps frames own

  abbrev before : Run
  before = with_frame callers w.frame w.inside

  abbrev d : DomainId
  d = here.domain

  pub top_there : TopFrame frames here.segment w.frame
  top_there = stored_top old here before callers w.frame may.holds refl

  -- what the frames cost
  cost_before : frames_chunks (callers ++ w.frame ∷ []) ≡ frames_chunks callers + head_chunks w.frame.head
  cost_before = sum_by_push (λ (x : FrameState). head_chunks x.head) callers w.frame

  -- with any own state, where the domain's frames begin where they began
  inside_with : (new : FrameContent) → new.first_page here.domain ≡ frames.first_page here.domain → (state : OwnState)
      → (let kept : KeptState = record own { state = state } in
      InsideBecomes old (contents_of heaps new kept) here (record w.inside { own = state }))
  inside_with new page state =
      let kept : KeptState = record own { state = state } in
      let is : w.inside ≡ (let i : Inside = record {
        own = own.state;
        heap = heaps.heap here.domain;
        heap_at = heaps.first_page here.domain;
        stack_at = frames.first_page here.domain;
      } in i) = may.holds.inside in
      inside_kept old heaps frames new kept here (record w.inside { own = state }) page
      (record {
        is_inside = ap (λ (i : Inside). let j : Inside = record i { own = state } in j) is;
        heaps = record {
          domains = record { pages = refl; took_all = refl; quota = λ d. refl; first_page = λ d. refl };
          becomes = ap (λ (i : Inside). i.heap) (sym is);
          others = λ e differ. refl;
          uses = may.used;
          other_uses = λ e differ. refl;
          mark = λ e a. refl;
        };
        rooms = refl;
      })

  own_is : w.inside.own ≡ own.state
  own_is = ap (λ (i : Inside). i.own) may.holds.inside

  inside_still : (new : FrameContent) → new.first_page here.domain ≡ frames.first_page here.domain
      → InsideBecomes old (contents_of heaps new own) here w.inside
  inside_still new page =
      subst (λ (state : OwnState). InsideBecomes old (contents_of heaps new own) here
      (let inside : Inside = record w.inside { own = state } in inside)) (sym own_is) (inside_with new page own.state)

  -- ---- It is popped.

  module _ (paid : PaysFrames frames here.segment) (popped : FrameContent) (pops : Pops frames popped here.segment) where
    changed : Changes frames popped here.segment here.domain (Some (segment_of here.domain callers)) (frames.used here.domain - head_chunks w.frame.head)
    changed = pops_it frames here.segment here.domain callers w.frame may.holds.frames popped pops

    frames_left : (kept : KeptState) → FramesBecome old (contents_of heaps popped kept) here before.frames callers
    frames_left kept =
        let all = paid (segment_of here.domain (callers ++ w.frame ∷ [])) may.holds.frames in
        record {
          used = frames.used here.domain - head_chunks w.frame.head;
          chunks = omega (arith, all, cost_before);
          changes = changed;
        }

    module _ (x : Setting) where
      -- the initialiser of a class ended
      pub class_ended : (c : ClassId) → w.frame.head.initialises ≡ Some c → (now : KeptState)
          → now ≡ record own { state = with_state own.state c State.Done }
          → HasReturned x old (contents_of heaps popped now) here callers w v Goes.GoesOn
      class_ended c is now same =
          let there = may.class c is in
          let page = changed.domains.first_page here.domain in
          let ended : (state : OwnState) → (let kept : KeptState = record own { state = state } in
          Becomes old (contents_of heaps popped kept) here before
          (let run : Run = record { inside = record w.inside { own = state }; frames = callers } in run)) =
          λ state. record { inside = inside_with popped page state; frames = frames_left (let kept : KeptState = record own { state = state } in kept) } in
          record {
            run = record { inside = with_class c State.Done w.inside; frames = callers };
            way = GoesOn;
            continues = ends_initialiser v c is there.0 there.1;
            is_went = refl;
            becomes =
                subst (λ (k : KeptState). Becomes old (contents_of heaps popped k) here before
                (let run : Run = record { inside = with_class c State.Done w.inside; frames = callers } in run)) (sym same)
                (subst (λ (state : OwnState). Becomes old
                (contents_of heaps popped (let k : KeptState = record own { state = with_state own.state c State.Done } in k)) here before
                (let run : Run = record { inside = record w.inside { own = with_state state c State.Done }; frames = callers } in run)) (sym own_is)
                (ended (with_state own.state c State.Done)));
          }

      -- no frame is left
      pub all_ended : w.frame.head.initialises ≡ None → callers ≡ []
          → HasReturned x old (contents_of heaps popped own) here callers w v (Goes.Returned v)
      all_ended none empty = record {
        run = record { inside = w.inside; frames = [] };
        way = Ended v;
        continues = ends v none empty;
        is_went = refl;
        becomes =
            subst (λ (fs : List FrameState). Becomes old (contents_of heaps popped own) here before
            (let run : Run = record { inside = w.inside; frames = fs } in run)) empty
            (record { inside = inside_still popped (changed.domains.first_page here.domain); frames = frames_left own });
      }

  -- ---- The frame below goes on.

  module _ (lower : List FrameState) (below : FrameState) (none : w.frame.head.initialises ≡ None) (are : callers ≡ lower ++ below ∷ []) where
    split : callers ++ w.frame ∷ [] ≡ lower ++ below ∷ w.frame ∷ []
    split = ap (λ (fs : List FrameState). fs ++ w.frame ∷ []) are ∙ append_assoc lower (below ∷ []) (w.frame ∷ [])

    pub may_give_back : MayGiveBack frames here.segment v
    may_give_back =
        let resume = may.resumes lower below none are in (
          segment_of here.domain (callers ++ w.frame ∷ []),
          may.holds.frames,
          record {
            lower = lower;
            below = below;
            top = w.frame;
            are = split;
            place = resume.place;
            room = subst (λ (vs : List Value). length below.stack + length vs ≤ below.head.max_stack) (sym (same_entries v)) resume.room;
          },
        )

    module _ (paid : PaysFrames frames here.segment) (new : FrameContent) (gives : GivesBack frames new here.segment v) where
      changes_there : Changes frames new here.segment here.domain (Some (segment_of here.domain (lower ++ resumed v below ∷ [])))
          (frames.used here.domain - head_chunks w.frame.head)
      changes_there =
          subst (λ (f : FrameState). Changes frames new here.segment here.domain (Some (segment_of here.domain (lower ++ f ∷ [])))
          (frames.used here.domain - head_chunks w.frame.head)) (gone_resumed v below (may.resumes lower below none are).no_need)
          (gives (segment_of here.domain (callers ++ w.frame ∷ [])) may.holds.frames lower below w.frame split)

      -- it is on top then, and has no need
      pub below_on_top : (f : FrameState) × TopFrame new here.segment f × (f.head.need ≡ None)
      below_on_top = (
        resumed v below,
        record {
          segment = segment_of here.domain (lower ++ resumed v below ∷ []);
          is_there = changes_there.becomes;
          lower = lower;
          frames = refl;
        },
        (may.resumes lower below none are).no_need,
      )

      pub below_goes_on : (x : Setting) → HasReturned x old (contents_of heaps new own) here callers w v Goes.GoesOn
      below_goes_on x =
          let cost : FrameState → ℕ = λ (f : FrameState). head_chunks f.head in
          let all = paid (segment_of here.domain (callers ++ w.frame ∷ [])) may.holds.frames in
          let was : frames_chunks callers ≡ frames_chunks (lower ++ below ∷ []) = ap frames_chunks are in
          let one = sum_by_push cost lower below in
          let two = sum_by_push cost lower (resumed v below) in
          let same : head_chunks (resumed v below).head ≡ head_chunks below.head = refl in
          record {
            run = with_frame lower (resumed v below) w.inside;
            way = GoesOn;
            continues = returns v lower below none are;
            is_went = refl;
            becomes = record {
              inside = inside_still new (changes_there.domains.first_page here.domain);
              frames = record {
                used = frames.used here.domain - head_chunks w.frame.head;
                chunks = omega (arith, all, cost_before, was, one, two, same);
                changes = changes_there;
              };
            };
          }

  -- ---- How many frames there are.

  many : (n : ℕ) → HasDepth frames here.segment n → n ≡ length callers + 1
  many n is =
      same_Some n (length (callers ++ w.frame ∷ [])) (is ∙ ap (option_map (λ (g : StoredSegment). length g.frames)) may.holds.frames)
      ∙ length-append callers (w.frame ∷ [])

  pub no_callers : (n : ℕ) → HasDepth frames here.segment n → n ≡ 1 → callers ≡ []
  no_callers n is one = empty callers (omega (arith, many n is, one))
    where
      empty : (fs : List FrameState) → length fs ≡ 0 → fs ≡ []
      empty [] e = refl
      empty (f ∷ fs) e = absurd (omega (arith, e))

  pub record HasBelow : Type 0 where
    pub lower : List FrameState
    pub below : FrameState
    pub are : callers ≡ lower ++ below ∷ []

  pub some_below : callers ≢ [] → HasBelow
  some_below some = by callers refl
    where
      by : (fs : List FrameState) → callers ≡ fs → HasBelow
      by [] e = absurd (some e)
      by (f ∷ fs) e = let last = last_of f fs in record { lower = last.0; below = last.1; are = e ∙ last.2 }

  pub has_below : (n : ℕ) → HasDepth frames here.segment n → n ≢ 1 → HasBelow
  has_below n is some = some_below (λ none. some (many n is ∙ ap (λ (l : List FrameState). length l + 1) none))
