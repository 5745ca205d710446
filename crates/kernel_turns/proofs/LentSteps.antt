-- What a segment does alone on a content that has nothing but it is done to the store that lent it.
use Rattle.std.proofs.Common.{◌≡◌, ℕ, ◌+◌, ◌-◌, ◌≤◌, Option, Some, sym, ap, subst, ◌∙◌}
use Rattle.std.specs.Option.{option_map_or}
use Rattle.jk_model.specs.declared.identifiers.DomainId.{DomainId}
use Rattle.jk_model.specs.declared.identifiers.SegmentNo.{SegmentNo}
use Rattle.jk_model.specs.declared.identifiers.ThreadNo.{ThreadNo}
use Rattle.jk_model_classes.specs.Worlds.{WorldRecord}
use Rattle.jk_model_frames.specs.Frames.{frames_chunks}
use Rattle.jk_model_heaps.specs.Workings.{Inside, Run, Setting}
use Rattle.jk_model_sharing.specs.SharedStates.{SharedState}
use Rattle.class_init.specs.KeptStates.{KeptState}
use Rattle.frame_store.specs.FrameContents.{FrameContent, IsOnly, KeepsOthers, StoredSegment}
use Rattle.frame_store.proofs.SegmentsAlone.{change_in_store}
use Rattle.object_store.specs.HeapContents.{HeapContent}
use Rattle.step_contents.specs.Contents.{Becomes, Contents, Here, contents_of, here_at}
use Rattle.step_contents.specs.Settings.{IsSetting}
use Rattle.exception_unwind.proofs.FramesChanged.{segment_of}
use Rattle.segment_steps.specs.ActingSegments.{MayAct}
use Rattle.segment_steps.specs.StepsInTurn.{StepsLead}
use Rattle.segment_steps.specs.StepsThatLeave.{StepsComeTo, StepsLeave}
use Rattle.segment_steps.specs.declared.went.Went.{Went}
use Rattle.segment_steps.specs.declared.went.Went.TheVariants as Goes
use Rattle.kernel_turns.specs.ActingAlone.{IsActing}

-- what the domain has inside, with its frames somewhere
abbrev at_page : HeapContent → KeptState → DomainId → Option ℕ → Inside
at_page heap own d page = record { own = own.state; heap = heap.heap d; heap_at = heap.first_page d; stack_at = page }

module _ (w : WorldRecord) (shared : SharedState) (d : DomainId) (s : SegmentNo) where
  abbrev here : Here
  here = here_at w shared d s

  module _ (c one : FrameContent) (was : IsOnly c s one) (heap : HeapContent) (own : KeptState) where
    abbrev in_store : Contents
    in_store = contents_of heap c own

    abbrev alone : Contents
    alone = contents_of heap one own

    -- ---- Before.

    module _ (may : MayAct in_store here) where
      abbrev g : StoredSegment
      g = segment_of d may.run.frames

      abbrev may_alone : MayAct alone here
      may_alone = record {
        domain = record {
          names = may.domain.names;
          is_domain = may.domain.is_domain;
          quota = may.domain.quota;
          has_quota = may.domain.has_quota;
          codes = may.domain.codes;
          table = may.domain.table;
          shares = may.domain.shares;
          rooms = may.domain.rooms;
          used = may.domain.used;
        };
        run = may.run;
        holds = record {
          inside = may.holds.inside ∙ ap (at_page heap own d) (sym (was.first_page (segment_of d may.run.frames) may.holds.frames));
          frames = was.segment ∙ may.holds.frames;
        };
        sealed = may.sealed;
        answers = may.answers;
        states = may.states;
      }

      set_alone : (x : Setting) → IsSetting in_store here x → IsSetting alone here x
      set_alone x is = record {
        classes = is.classes;
        caps = is.caps;
        names = is.names;
        is_domain = is.is_domain;
        name = is.name;
        segment = is.segment;
        quota = is.quota;
        chunks = is.chunks
            ∙ ap (λ (o : Option ℕ). option_map_or (λ (q : ℕ). q - c.used d) o 0)
            (sym (was.quota (segment_of d may.run.frames) may.holds.frames))
            ∙ ap (λ (u : ℕ). option_map_or (λ (q : ℕ). q - u) (one.quota d) 0)
            (sym (was.used (segment_of d may.run.frames) may.holds.frames));
      }

    pub acting_alone : (t : ThreadNo) → IsActing in_store here t → IsActing alone here t
    acting_alone t acting =
        let there = acting.may.holds.frames in
        let g : StoredSegment = segment_of d acting.may.run.frames in
        record {
          may = may_alone acting.may;
          progress = acting.progress;
          pays = λ q is.
              (let in_c : c.segment s ≡ Some q = sym was.segment ∙ is in
              subst (λ (u : ℕ). frames_chunks q.frames ≤ u) (sym (was.used q in_c)) (acting.pays q in_c));
          quota = acting.quota;
          has_quota = was.quota g there ∙ acting.has_quota;
          within = subst (λ (u : ℕ). u ≤ acting.quota) (sym (was.used g there)) acting.within;
        }

    -- ---- Afterwards.

    module _ (n then : FrameContent) (is : IsOnly n s then) (keeps : KeepsOthers c n s) (new_heap : HeapContent) (new_own : KeptState) where
      becomes_in_store : (may : MayAct in_store here) (run : Run) → Becomes alone (contents_of new_heap then new_own) here may.run run
          → Becomes in_store (contents_of new_heap n new_own) here may.run run
      becomes_in_store may run b =
          let there = may.holds.frames in
          let g : StoredSegment = segment_of d may.run.frames in
          let changes = change_in_store c one s was n then is keeps g there run.frames b.frames.used b.frames.changes in
          record {
            inside = record {
              is_inside = b.inside.is_inside ∙ ap (at_page new_heap new_own d) (is.first_page (segment_of d run.frames) changes.becomes);
              heaps = b.inside.heaps;
              rooms = b.inside.rooms;
            };
            frames = record {
              used = b.frames.used;
              chunks = b.frames.chunks ∙ ap (λ (u : ℕ). u + frames_chunks run.frames) (was.used g there);
              changes = changes;
            };
          }

      pub leads_in_store : (t : ThreadNo) (count : ℕ) → StepsLead alone (contents_of new_heap then new_own) here t count
          → StepsLead in_store (contents_of new_heap n new_own) here t count
      leads_in_store t count lead = λ x may set.
          let led = lead x (may_alone may) (set_alone may x set) in (led.0, led.1, becomes_in_store may led.0 led.2)

      leave_in_store : (t : ThreadNo) (count : ℕ) (went : Went) → StepsLeave alone (contents_of new_heap then new_own) here t count went
          → StepsLeave in_store (contents_of new_heap n new_own) here t count went
      leave_in_store t count went leave = λ x may set.
          let led = leave x (may_alone may) (set_alone may x set) in
          (led.0, led.1, (led.2.0, led.2.1, led.2.2, led.2.3, becomes_in_store may led.2.1 led.2.4))

      pub come_in_store : (t : ThreadNo) (count : ℕ) (went : Went) → StepsComeTo alone (contents_of new_heap then new_own) here t count went
          → StepsComeTo in_store (contents_of new_heap n new_own) here t count went
      come_in_store t count Goes.GoesOn come = leads_in_store t count come
      come_in_store t count (Goes.Returned v) come = leave_in_store t count (Goes.Returned v) come
      come_in_store t count (Goes.Left a) come = absurd come
      come_in_store t count (Goes.Crosses k m) come = leave_in_store t count (Goes.Crosses k m) come
      come_in_store t count Goes.Terminates come = absurd come

  -- as a store says what was done on a segment that it lent
  pub come_to_store : (c n : FrameContent) → KeepsOthers c n s → (heap new_heap : HeapContent) (own new_own : KeptState) (t : ThreadNo) (count most : ℕ)
      (went : Went)
      → ((was is : FrameContent) × IsOnly c s was × IsOnly n s is
      × ((count ≤ most) × StepsComeTo (contents_of heap was own) (contents_of new_heap is new_own) here t count went))
      → (count ≤ most) × StepsComeTo (contents_of heap c own) (contents_of new_heap n new_own) here t count went
  come_to_store c n keeps heap new_heap own new_own t count most went (was, is, before, after, done) =
      (done.0, come_in_store c was before heap own n is after keeps new_heap new_own t count went done.1)
