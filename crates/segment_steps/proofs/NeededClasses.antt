-- A segment that acts needs a class that isn't ready: it is untouched, and its initialiser frame is put on top or doesn't fit; or it is broken.
use Rattle.std.proofs.Common.{inl, inr, ◌≡◌, ◌+◌, ◌<◌, ◌≤◌, List, [], ◌∷◌, ◌++◌, Option, Some, None, is_some, refl, sym, ap, subst, ◌∙◌, arith}
use Rattle.std.specs.Option.{option_map_or}
use Rattle.std.proofs.lemmas.Bool.{cases_lt}
use Rattle.std.proofs.lemmas.List.Sums.{sum_by_push}
use Rattle.std.proofs.lemmas.Option.{same_Some}
use Rattle.jk_model.specs.declared.frames.FrameHead.{FrameHead}
use Rattle.jk_model.specs.declared.identifiers.ClassId.{ClassId}
use Rattle.jk_model.specs.declared.steps.Raise.TheVariants as Raised
use Rattle.jk_model.specs.declared.steps.Standing.TheVariants as Stands
use Rattle.jk_model_classes.specs.declared.records.ClassRecord.{ClassRecord}
use Rattle.jk_model_classes.specs.Classes.{record_of}
use Rattle.jk_model_classes.specs.Worlds.{WorldRecord}
use Rattle.jk_model_domains.specs.declared.states.ClassState.TheVariants as State
use Rattle.jk_model_domains.specs.OwnStates.{ClassPart, HasState, OwnState, part_of, state_of, with_state}
use Rattle.jk_model_frames.specs.Frames.{FrameState, head_chunks, new_frame}
use Rattle.jk_model_heaps.specs.SystemClasses.{NO_CLASS_DEF_FOUND_ERROR}
use Rattle.jk_model_heaps.specs.Workings.{Inside, Setting}
use Rattle.jk_model_running.specs.Initialising.{FrameNeeds, IsInitialiserHead}
use Rattle.jk_model_running.specs.LocalSteps.{Touches, begun, meets_broken, overflows, touches, with_class}
use Rattle.jk_model_running.specs.Ways.{GoesOn}
use Rattle.jk_model_sharing.specs.SharedStates.{SharedState}
use Rattle.class_init.specs.KeptStates.{KeptState}
use Rattle.frame_store.specs.FrameContents.{Changes, FrameContent, HasRoomFor, IsSame, IsThere, Pushes, StoredSegment, TopFrame, free_chunks}
use Rattle.heap_laws.specs.RaisableObjects.{MayBeRaised}
use Rattle.row_laws.proofs.SystemParents.{below_listed}
use Rattle.step_contents.specs.Contents.{Contents, FramesBecome, Here, InsideBecomes, contents_of, here_at, inside_in}
use Rattle.step_contents.specs.Settings.{IsSetting}
use Rattle.exception_unwind.proofs.FramesChanged.{segment_of}
use Rattle.exception_unwind.proofs.InsidesChanged.{own_changed}
use Rattle.segment_steps.specs.ActingSegments.{MayAct}
use Rattle.segment_steps.specs.RaisingHere.{RaisedHere}
use Rattle.segment_steps.specs.StepsAlone.{Stepped}
use Rattle.segment_steps.specs.declared.meeting.Runs.{Runs}
use Rattle.segment_steps.specs.declared.went.Went.{Went}
use Rattle.segment_steps.specs.declared.went.Went.TheVariants as Goes
use Rattle.segment_steps.proofs.ChangesInTurn.{inside_kept, top_of}
use Rattle.segment_steps.proofs.SegmentsRaise.{raised_still}
use Rattle.segment_steps.proofs.StandingHere.{becomes_same, same_frames}
use Rattle.segment_steps.proofs.StatesStay.{has_part}

state_by : (own : OwnState) (c : ClassId) (o : Option ClassPart) → part_of own c ≡ o
    → option_map_or (λ (e : ClassPart). e.state) o State.Done ≡ State.Untouched → HasState own c
state_by own c (Some e) is same = (e, is)
state_by own c None is same = absurd cc

module _ (old : Contents) (world : WorldRecord) (shared : SharedState) (r : Runs) where
  abbrev pub here : Here
  here = here_at world shared r.domain r.segment

  module _ (may : MayAct old here) (c : ClassId) where
    pub segment_there : IsThere old.frames r.segment
    segment_there = ap (λ (o : Option StoredSegment). is_some o) may.holds.frames

    own_is : may.run.inside.own ≡ old.own.state
    own_is = ap (λ (i : Inside). i.own) may.holds.inside

    pub state_there : state_of old.own.state c ≡ State.Untouched → HasState old.own.state c
    state_there untouched = state_by old.own.state c (part_of old.own.state c) refl untouched

    -- a class that has a state has a record, and a parent
    pub class_there : HasState old.own.state c → (k : ClassRecord) × (p : ClassId) × (record_of world.classes c ≡ Some k) × (k.parent ≡ Some p)
    class_there has =
        let part = has_part world.classes may.domain.names.table may.run.inside.own may.sealed.inside.own c
        (subst (λ (own : OwnState). HasState own c) (sym own_is) has) in
        let parent = may.domain.codes.homed c part.0 part.1.1 part.1.2 in
        (part.0, parent.0, part.1.1, parent.1)

    module _ (f : FrameState) (top : TopFrame old.frames r.segment f) (needs : FrameNeeds world.classes f c) where
      needs_in : (x : Setting) → IsSetting old here x → FrameNeeds x.classes f c
      needs_in x is = subst (λ (classes : List ClassRecord). FrameNeeds classes f c) (sym is.classes) needs

      -- ---- It is untouched.

      module _ (untouched : state_of old.own.state c ≡ State.Untouched) (head : FrameHead) (is_head : IsInitialiserHead world.classes c head) where
        abbrev touching : (x : Setting) → IsSetting old here x → Touches x may.run c
        touching x is = record {
          top = top_of old here may.run may.holds f top;
          needs = needs_in x is;
          untouched = subst (λ (own : OwnState). state_of own c ≡ State.Untouched) (sym own_is) untouched;
          is_there = subst (λ (own : OwnState). HasState own c) (sym own_is) (state_there untouched);
          head = head;
          is_head = subst (λ (classes : List ClassRecord). IsInitialiserHead classes c head) (sym is.classes) is_head;
        }

        frames_pushed : (frames : FrameContent) (own : KeptState) → Pushes old.frames frames r.segment head
            → FramesBecome old (contents_of old.heaps frames own) here may.run.frames (may.run.frames ++ new_frame head ∷ [])
        frames_pushed frames own (g, is_there, changes) =
            let same : g ≡ segment_of r.domain may.run.frames = same_Some g _ (sym is_there ∙ may.holds.frames) in
            record {
              used = old.frames.used r.domain + head_chunks head;
              chunks = omega (arith, sum_by_push (λ (x : FrameState). head_chunks x.head) may.run.frames (new_frame head));
              changes =
                  subst (λ (k : StoredSegment). Changes old.frames frames r.segment k.domain
                  (Some (record k { frames = k.frames ++ new_frame head ∷ [] })) (old.frames.used k.domain + head_chunks head)) same changes;
            }

        pub touched : (frames : FrameContent) (own : KeptState) → Pushes old.frames frames r.segment head → HasRoomFor old.frames r.segment head
            → own ≡ record old.own { state = with_state old.own.state c (State.InProgress r.thread) } → (x : Setting) → IsSetting old here x
            → Stepped x r.thread may (contents_of old.heaps frames own) Goes.GoesOn
        touched frames own pushes room is_own x is =
            let changed = frames_pushed frames own pushes in
            let kept : KeptState = record old.own { state = with_state old.own.state c (State.InProgress r.thread) } in
            let one : InsideBecomes old (contents_of old.heaps frames kept) here (with_class c (State.InProgress r.thread) (inside_in old here)) =
            inside_kept old old.heaps old.frames frames kept here (with_class c (State.InProgress r.thread) (inside_in old here))
            (changed.changes.domains.first_page r.domain) (own_changed old here may.domain (with_state old.own.state c (State.InProgress r.thread))) in
            let two : InsideBecomes old (contents_of old.heaps frames kept) here (with_class c (State.InProgress r.thread) may.run.inside) =
            subst (λ (i : Inside). InsideBecomes old (contents_of old.heaps frames kept) here (with_class c (State.InProgress r.thread) i))
            (sym may.holds.inside) one in
            let holder : room.0.domain ≡ r.domain =
            ap (λ (g : StoredSegment). g.domain) (same_Some room.0 (segment_of r.domain may.run.frames) (sym room.1 ∙ may.holds.frames)) in
            let fits : head_chunks head ≤ x.chunks = omega (arith, room.2, ap (free_chunks old.frames) holder, is.chunks) in
            record {
              run = begun r.thread may.run c head;
              way = GoesOn;
              steps = touches c (touching x is) fits refl;
              is_went = refl;
              becomes = record {
                inside =
                    subst (λ (k : KeptState). InsideBecomes old (contents_of old.heaps frames k) here
                    (with_class c (State.InProgress r.thread) may.run.inside)) (sym is_own) two;
                frames = changed;
              };
            }

        -- its frame's chunks don't fit
        pub overflowed : (frames : FrameContent) (same : IsSame old.frames frames) → (HasRoomFor old.frames r.segment head → ⊥) → (new : Contents)
            (went : Went) → RaisedHere (contents_of old.heaps frames old.own) new here (Raised.Standing Stands.StackOverflowError) went
            → (x : Setting) → IsSetting old here x → Stepped x r.thread may new went
        overflowed frames same no_room new went raised x is =
            let full : x.chunks < head_chunks head = elim (cases_lt x.chunks (head_chunks head)) [
              | inl less ↦ less
              | inr enough ↦
                  absurd (no_room (segment_of r.domain may.run.frames, may.holds.frames, omega (arith, enough, is.chunks)))
            ] in
            raised_still old (contents_of old.heaps frames old.own) here may
            (becomes_same old here may.run may.domain may.holds frames same) may.domain.rooms new (Raised.Standing Stands.StackOverflowError) went r.thread
            x is raised (λ run unwound raises. overflows c (touching x is) unwound full raises)

      -- ---- It is broken.

      pub met_broken : state_of old.own.state c ≡ State.Broken → (new : Contents) (went : Went)
          → RaisedHere old new here (Raised.Fresh NO_CLASS_DEF_FOUND_ERROR) went → (x : Setting) → IsSetting old here x
          → Stepped x r.thread may new went
      met_broken broken new went raised x is =
          raised_still old old here may (becomes_same old here may.run may.domain may.holds old.frames (same_frames old.frames)) may.domain.rooms new
          (Raised.Fresh NO_CLASS_DEF_FOUND_ERROR) went r.thread x is raised
          (λ run unwound raises. meets_broken (record {
            top = top_of old here may.run may.holds f top;
            class = c;
            needs = needs_in x is;
            broken = subst (λ (own : OwnState). state_of own c ≡ State.Broken) (sym own_is) broken;
          }) unwound raises)

    -- what is raised there may be raised
    pub error_raisable : MayBeRaised world.classes (old.heaps.heap r.domain) (Raised.Fresh NO_CLASS_DEF_FOUND_ERROR)
    error_raisable = (omega arith, below_listed world.classes may.domain.codes 9 36 9 refl)
