-- The need falls of a frame that initialises a class: its constant texts are set, and the frame goes on or is gone; or they don't fit together.
use Rattle.std.proofs.Common.{inl, inr, ◌≡◌, ◌≢◌, ℕ, List, [], ◌∷◌, ◌++◌, Contains, Option, Some, None, refl, sym, ap, subst, ◌∙◌}
use Rattle.std.proofs.lemmas.List.Elements.{Contains-append_right}
use Rattle.std.proofs.lemmas.Option.{none-some}
use Rattle.list_lemmas.proofs.ItemsOfLists.{Contains-here}
use Rattle.jk_model.specs.declared.frames.FrameHead.{FrameHead}
use Rattle.jk_model.specs.declared.identifiers.ClassId.{ClassId}
use Rattle.jk_model.specs.declared.identifiers.MemberId.{MemberId}
use Rattle.jk_model.specs.declared.steps.Raise.TheVariants as Raised
use Rattle.jk_model.specs.declared.steps.Standing.TheVariants as Stands
use Rattle.jk_model_classes.specs.declared.records.ClassRecord.{ClassRecord}
use Rattle.jk_model_classes.specs.Classes.{record_of}
use Rattle.jk_model_classes.specs.Worlds.{WorldRecord}
use Rattle.jk_model_domains.specs.declared.states.ClassState.TheVariants as State
use Rattle.jk_model_domains.specs.Objects.{NamedObject}
use Rattle.jk_model_domains.specs.OwnStates.{HasPart, HasState, with_state}
use Rattle.jk_model_frames.specs.Frames.{FrameState}
use Rattle.jk_model_heaps.specs.Heaps.{heap_words}
use Rattle.jk_model_heaps.specs.Workings.{Inside, Run, Setting}
use Rattle.jk_model_heap_rows.specs.Constants.{LacksConstants, SetsConstants}
use Rattle.jk_model_running.specs.Initialising.{IsReady}
use Rattle.jk_model_running.specs.LocalSteps.{Initialises, lacks_constants, sets_constants, with_class, with_top, without_need}
use Rattle.jk_model_running.specs.Ways.{GoesOn}
use Rattle.jk_model_sealing.specs.AnsweringFrames.{FramesAnswer}
use Rattle.jk_model_sealing.specs.SealedInsides.{IsSealedInside}
use Rattle.jk_model_sharing.specs.SharedStates.{SharedState}
use Rattle.class_init.specs.KeptStates.{KeptState}
use Rattle.frame_store.specs.FrameContents.{FrameContent, IsContent, Pops, SetsTop, TopFrame}
use Rattle.heap_ops.specs.ConstantsSet.{ConstantsLack, ConstantsSet, MaySetConstants}
use Rattle.object_store.specs.HeapContents.{HeapContent, IsSame}
use Rattle.row_laws.proofs.ConstantsKept.{constants_keep}
use Rattle.step_contents.specs.Conditions.{MayRaise, around}
use Rattle.step_contents.specs.Contents.{Becomes, Contents, FramesBecome, Here, InsideBecomes, contents_of, here_at, with_frame}
use Rattle.step_contents.specs.Settings.{IsSetting}
use Rattle.exception_unwind.proofs.FramesChanged.{frames_popped}
use Rattle.exception_unwind.proofs.KnownDomains.{known_quota, known_setting}
use Rattle.segment_steps.specs.ActingSegments.{MayAct}
use Rattle.segment_steps.specs.RaisingHere.{RaisedHere}
use Rattle.segment_steps.specs.StepsAlone.{Stepped}
use Rattle.segment_steps.specs.declared.meeting.Runs.{Runs}
use Rattle.segment_steps.specs.declared.went.Went.{Went}
use Rattle.segment_steps.specs.declared.went.Went.TheVariants as Goes
use Rattle.segment_steps.proofs.CallersBelow.{lowest_plain}
use Rattle.segment_steps.proofs.ChangesInTurn.{are_frames, frames_same, inside_kept, top_set}
use Rattle.segment_steps.proofs.NeedsFall.{forgets, has_need}
use Rattle.segment_steps.proofs.SegmentsRaise.{raise_still, raised_still}
use Rattle.segment_steps.proofs.StandingHere.{same_frames}
use Rattle.segment_steps.proofs.StatesStay.{has_part, state_stays}

module _ (heaps : HeapContent) (frames : FrameContent) (own : KeptState) (world : WorldRecord) (shared : SharedState) (r : Runs)
    (may : MayAct (contents_of heaps frames own) (here_at world shared r.domain r.segment)) (f : FrameState) (top : TopFrame frames r.segment f)
    (head : FrameHead) (is : head ≡ f.head) (c : ClassId) (class : head.initialises ≡ Some c) where
  abbrev old : Contents
  old = contents_of heaps frames own

  abbrev h : Here
  h = here_at world shared r.domain r.segment

  frames_were : may.run.frames ≡ top.lower ++ f ∷ []
  frames_were = are_frames old h may.run may.holds f top

  initialises : f.head.initialises ≡ Some c
  initialises = ap (λ (k : FrameHead). k.initialises) (sym is) ∙ class

  pub has_state : HasState may.run.inside.own c
  has_state =
      may.states f c
      (subst (λ (fs : List FrameState). Contains fs f) (sym frames_were) (Contains-append_right top.lower (f ∷ []) f (Contains-here f []))) initialises

  pub part : (k : ClassRecord) × HasPart world.classes may.domain.names.table c k
  part = has_part world.classes may.domain.names.table may.run.inside.own may.sealed.inside.own c has_state

  abbrev pub may_set : MaySetConstants old h c
  may_set = record {
    may = record {
      domain = may.domain;
      sealed = subst (IsSealedInside (around may.domain) may.domain.quota) may.holds.inside may.sealed.inside;
    };
    of_class = part.0;
    is_class = part.1.1;
    is_there = subst (λ (i : Inside). HasState i.own c) may.holds.inside has_state;
  }

  -- ---- They are set.

  module _ (now : HeapContent) (kept : KeptState) (done : ConstantsSet old (contents_of now frames kept) h c) where
    abbrev mid : Contents
    mid = contents_of now frames kept

    module _ (x : Setting) (set : IsSetting old h x) where
      abbrev then : Inside
      then = (done x may_set set).0

      sets : SetsConstants x c part.0 may.run.inside then
      sets = subst (λ (i : Inside). SetsConstants x c part.0 i then) (sym may.holds.inside) (done x may_set set).1

      inside : InsideBecomes old mid h then
      inside = (done x may_set set).2

      pub state_then : HasState then.own c
      state_then =
          let sealed = subst (λ (q : ℕ). IsSealedInside (around may.domain) q may.run.inside) (known_quota old h may.domain x set)
          may.sealed.inside in
          let keeps = constants_keep (around may.domain) x c part.0 may.run.inside then (known_setting old h may.domain x set) sealed part.1.1 sets in
          state_stays world.classes may.domain.names.table may.run.inside.own then.own sealed.own keeps.sealed.own c has_state

      pub state_there : HasState kept.state c
      state_there = subst (λ (i : Inside). HasState i.own c) inside.is_inside state_then

      frames_then : FramesBecome old mid h may.run.frames (top.lower ++ f ∷ [])
      frames_then =
          subst (FramesBecome old mid h may.run.frames) frames_were (frames_same old mid h may.run.frames (same_frames frames) may.holds.frames)

      becomes : Becomes old mid h may.run (with_frame top.lower f then)
      becomes = record { inside = inside; frames = frames_then }

      abbrev initialising : Initialises x f
      initialising = record {
        class = c;
        initialises = initialises;
        of_class = part.0;
        is_class = subst (λ (classes : List ClassRecord). record_of classes c ≡ Some part.0) (sym set.classes) part.1.1;
      }

      module _ (k : ClassId) (need : head.need ≡ Some k) (ready : IsReady own.state r.thread k) where
        -- the frame goes on
        pub began : (new : FrameContent) (last : KeptState) → head.method ≢ None → last ≡ kept
            → ((g : FrameState) → TopFrame frames r.segment g
            → SetsTop frames new r.segment (record g { head = record g.head { at = head.at; need = None } }))
            → Stepped x r.thread may (contents_of now new last) Goes.GoesOn
        began new last some same goes = record {
          run = with_top top.lower (without_need f) then;
          way = GoesOn;
          steps = sets_constants (has_need old world shared r may f top head is k need ready x) initialising then sets
              (inl ((λ none. some (ap (λ (g : FrameHead). g.method) is ∙ none)), refl));
          is_went = refl;
          becomes =
              subst (λ (o : KeptState). Becomes old (contents_of now new o) h may.run (with_frame top.lower (without_need f) then)) (sym same)
              (top_set old now frames new kept h may.run top.lower f (without_need f) then becomes refl
              (forgets old world shared r may f top head is k need ready frames new (goes f top)));
        }

        -- it has no code, and the class is done
        pub done_with : (new : FrameContent) (last : KeptState) → head.method ≡ None
            → last ≡ record kept { state = with_state kept.state c State.Done } → IsContent frames → Pops frames new r.segment
            → Stepped x r.thread may (contents_of now new last) Goes.GoesOn
        done_with new last none same holds pops =
            let kept_done : KeptState = record kept { state = with_state kept.state c State.Done } in
            let changed = frames_popped old mid (contents_of now new kept_done) h may.run.frames top.lower f frames_then holds pops in
            let stated : InsideBecomes old (contents_of now frames kept_done) h (with_class c State.Done then) = record {
              is_inside = ap (with_class c State.Done) inside.is_inside;
              heaps = inside.heaps;
              rooms = inside.rooms;
            } in
            record {
              run = record { inside = with_class c State.Done then; frames = top.lower };
              way = GoesOn;
              steps = sets_constants (has_need old world shared r may f top head is k need ready x) initialising then sets
                  (inr (
                    ap (λ (g : FrameHead). g.method) (sym is) ∙ none,
                    lowest_plain world.classes top.lower f c (subst (FramesAnswer world.classes) frames_were may.answers) initialises,
                    refl,
                  ));
              is_went = refl;
              becomes =
                  subst (λ (o : KeptState). Becomes old (contents_of now new o) h may.run
                  (let run : Run = record { inside = with_class c State.Done then; frames = top.lower } in run)) (sym same)
                  (record {
                    inside =
                        inside_kept old now frames new kept_done h (with_class c State.Done then) (changed.changes.domains.first_page r.domain) stated;
                    frames = record { used = changed.used; chunks = changed.chunks; changes = changed.changes };
                  });
            }

        -- by whether it has code
        pub ended_need : (new : FrameContent) (last : KeptState)
            → (head.method ≢ None → (last ≡ kept) × ((g : FrameState) → TopFrame frames r.segment g
            → SetsTop frames new r.segment (record g { head = record g.head { at = head.at; need = None } })))
            → (head.method ≡ None → (last ≡ record kept { state = with_state kept.state c State.Done }) × Pops frames new r.segment)
            → IsContent frames → Stepped x r.thread may (contents_of now new last) Goes.GoesOn
        ended_need new last code none holds = by_method head.method refl
          where
            by_method : (o : Option MemberId) → head.method ≡ o → Stepped x r.thread may (contents_of now new last) Goes.GoesOn
            by_method None e = let is_done = none e in done_with new last e is_done.0 holds is_done.1
            by_method (Some m) e =
                let some : head.method ≢ None = λ no. none-some m (sym no ∙ e) in
                let goes = code some in
                began new last some goes.0 goes.1

  -- ---- They don't fit together.

  module _ (now : HeapContent) (kept : KeptState) (same : IsSame heaps now) (same_own : kept ≡ own) where
    becomes_now : Becomes old (contents_of now frames own) h may.run may.run
    becomes_now = record {
      inside = record {
        is_inside = may.holds.inside
            ∙ ap (λ (p : List NamedObject). let i : Inside = record {
              own = own.state;
              heap = p;
              heap_at = heaps.first_page r.domain;
              stack_at = frames.first_page r.domain;
            } in i) (sym (same.heap r.domain))
            ∙ ap (λ (p : Option ℕ). let i : Inside = record {
              own = own.state;
              heap = now.heap r.domain;
              heap_at = p;
              stack_at = frames.first_page r.domain;
            } in i) (sym (same.domains.first_page r.domain));
        heaps = record {
          domains = same.domains;
          becomes = same.heap r.domain ∙ ap (λ (i : Inside). i.heap) (sym may.holds.inside);
          others = λ e differ. same.heap e;
          uses = same.used r.domain ∙ may.domain.used ∙ ap (λ (i : Inside). heap_words world.classes i.heap) (sym may.holds.inside);
          other_uses = λ e differ. same.used e;
          mark = same.mark;
        };
        rooms = refl;
      };
      frames = frames_same old (contents_of now frames own) h may.run.frames (same_frames frames) may.holds.frames;
    }

    abbrev after : KeptState → Contents
    after o = contents_of now frames o

    pub raising : MayRaise (contents_of now frames kept) h
    raising = subst (λ (o : KeptState). MayRaise (after o) h) (sym same_own) (raise_still old (after own) h may becomes_now may.domain.rooms)

    pub lacked : (new : Contents) (went : Went) → ConstantsLack old h c
        → RaisedHere (contents_of now frames kept) new h (Raised.Standing Stands.OutOfMemoryError) went → (x : Setting) → IsSetting old h x
        → (k : ClassId) → head.need ≡ Some k → IsReady own.state r.thread k → Stepped x r.thread may new went
    lacked new went lack raised x set k need ready =
        let lacks = subst (λ (i : Inside). LacksConstants x part.0 i) (sym may.holds.inside) (lack x may_set set) in
        raised_still old (after own) h may becomes_now may.domain.rooms new (Raised.Standing Stands.OutOfMemoryError) went r.thread x set
        (subst (λ (o : KeptState). RaisedHere (after o) new h (Raised.Standing Stands.OutOfMemoryError) went) same_own raised)
        (λ run unwound raises. lacks_constants (has_need old world shared r may f top head is k need ready x) (record {
          class = c;
          initialises = initialises;
          of_class = part.0;
          is_class = subst (λ (classes : List ClassRecord). record_of classes c ≡ Some part.0) (sym set.classes) part.1.1;
        }) unwound lacks raises)
