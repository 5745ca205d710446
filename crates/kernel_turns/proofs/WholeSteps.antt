-- One whole step of a thread, from the parts that tell whether it rests.
use Rattle.std.proofs.Common.{◌≡◌, ◌≢◌, ◌⊎◌, inl, inr, ◌==◌, true, false, find, List, [], ◌∷◌, map, slice_get, Option, Some, None, refl, sym, ap, subst, ◌∙◌}
use Rattle.std.specs.Prelude.{MatchOption, option_and_then}
use Rattle.std.proofs.lemmas.Option.{same_Some}
use Rattle.list_lemmas.proofs.FoundItems.{Finds, finds}
use Rattle.list_lemmas.proofs.ItemsOfLists.{Contains-at}
use Rattle.list_lemmas.proofs.LastItems.{one_last}
use Rattle.jk_model.specs.declared.identifiers.ClassId.{ClassId}
use Rattle.jk_model.specs.declared.identifiers.ThreadNo.{ThreadNo}
use Rattle.jk_model_classes.specs.declared.records.ClassRecord.{ClassRecord}
use Rattle.jk_model_domains.specs.declared.states.ClassState.{ClassState}
use Rattle.jk_model_domains.specs.declared.states.ClassState.TheVariants as State
use Rattle.jk_model_domains.specs.declared.states.Look.{Look}
use Rattle.jk_model_domains.specs.declared.states.Look.TheVariants as Sees
use Rattle.jk_model_domains.specs.OwnStates.{IsLook, OwnState, state_of}
use Rattle.jk_model_frames.specs.Frames.{FrameState}
use Rattle.jk_model_running.specs.Initialising.{FrameNeeds, IsInProgressElsewhere}
use Rattle.jk_model_running.proofs.NeededClasses.{one_need}
use Rattle.jk_model_sealing.specs.AnsweringFrames.{FramesAnswer}
use Rattle.jk_model_sharing.specs.Segments.{SharedSegment, SharedThread, top_of, top_segment}
use Rattle.jk_model_sharing.specs.SharedStates.{SharedDomain, domain_numbered}
use Rattle.jk_model_runs.specs.AnsweredCalls.{SegmentsAnswer}
use Rattle.jk_model_runs.specs.Steps.{IsHeld}
use Rattle.frame_store.specs.FrameContents.{HasTop, StoredSegment}
use Rattle.frame_store.specs.FrameContents.{TopFrame as StoredTop}
use Rattle.heap_laws.proofs.MappedLists.{mapped}
use Rattle.kernel_events.specs.KernelCalls.{MayDraw}
use Rattle.kernel_parts.specs.SoundKernels.{AreKernelParts, KernelContent, kernel_machine}
use Rattle.machine_laws.specs.KnownMachines.{IsKnownMachine}
use Rattle.machine_parts.specs.MachineParts.{frames_in, segment_with_frames, thread_with_frames}
use Rattle.segment_steps.specs.declared.meeting.Meeting.{Meeting}
use Rattle.segment_steps.specs.declared.meeting.Runs.{Runs}
use Rattle.segment_steps.specs.Meetings.{Meets, NeedsOf}
use Rattle.thread_segments.specs.Answers.{steps_left_of}
use Rattle.segment_steps.proofs.FramesInTurn.{top_of as top_frame}
use Rattle.kernel_turns.specs.declared.running.Running.{Running}
use Rattle.kernel_turns.specs.LiveThreads.{IsRunning}
use Rattle.kernel_turns.specs.RestingThreads.{IsResting}
use Rattle.kernel_turns.specs.RunningPlaces.{RunsAt, runs}
use Rattle.kernel_turns.specs.SteppedParts.{MayStep}
use Rattle.kernel_turns.specs.StepsOfThreads.{IsReady}
use Rattle.kernel_turns.proofs.FramesOfThreads.{runs_at}
use Rattle.kernel_turns.proofs.PlacedThreads.{place, stored}
use Rattle.kernel_turns.proofs.RestingThreads.{dead_rests, spent_rests, suspended_rests, waiting_rests}

-- ---- What a thread meets.

waits_by : (t : ThreadNo) (own : OwnState) (c : ClassId) (s : ClassState) → state_of own c ≡ s → IsLook t s Sees.Waits → IsInProgressElsewhere own t c
waits_by t own c State.Untouched is h = absurd cc
waits_by t own c (State.InProgress by) is (inl (same, ready)) = absurd cc
waits_by t own c (State.InProgress by) is (inr (other, waits)) = (by, is, other)
waits_by t own c State.Done is h = absurd cc
waits_by t own c State.Broken is h = absurd cc

look_by : (t : ThreadNo) (look : Look) (by : ThreadNo) → by ≢ t → IsLook t (State.InProgress by) look → look ≡ Sees.Waits
look_by t look by other (inl (same, ready)) = absurd (other same)
look_by t look by other (inr (differs, waits)) = waits

-- a thread that waits needs a class that another one initialises
waits_for : (classes : List ClassRecord) (own : OwnState) (t : ThreadNo) (f : FrameState) (needed : Option ClassId) (look : Look) → look ≡ Sees.Waits
    → NeedsOf classes f needed → MatchOption needed (look ≡ Sees.Ready) (λ (c : ClassId). IsLook t (state_of own c) look)
    → (c : ClassId) × FrameNeeds classes f c × IsInProgressElsewhere own t c
waits_for classes own t f None look waits needs ready = (let both : Sees.Ready ≡ Sees.Waits = sym ready ∙ waits in absurd cc)
waits_for classes own t f (Some c) look waits needs looks =
    (c, needs, waits_by t own c (state_of own c) refl (subst (λ (l : Look). IsLook t (state_of own c) l) waits looks))

-- and one that doesn't wait needs none
waits_not : (classes : List ClassRecord) (own : OwnState) (t : ThreadNo) (f : FrameState) (needed : Option ClassId) (look : Look) → look ≢ Sees.Waits
    → NeedsOf classes f needed → MatchOption needed (look ≡ Sees.Ready) (λ (c : ClassId). IsLook t (state_of own c) look)
    → (c : ClassId) → FrameNeeds classes f c → IsInProgressElsewhere own t c → ⊥
waits_not classes own t f None look free needs ready c need elsewhere = needs c need
waits_not classes own t f (Some d) look free needs looks c need (by, is, other) =
    let same : d ≡ c = one_need classes f d c needs need in
    free (look_by t look by other
    (subst (λ (s : ClassState). IsLook t s look) is (subst (λ (e : ClassId). IsLook t (state_of own e) look) same looks)))

module _ (k : KernelContent) (t : ThreadNo) (parts : AreKernelParts k) (known : IsKnownMachine (kernel_machine k)) where
  -- a thread that isn't live does nothing
  pub none_steps : top_segment k.shared.threads t ≡ None → IsResting (kernel_machine k) t
  none_steps none = dead_rests k t known.0.0 none

  top_by : (s : SharedSegment) (segments : List SharedSegment) → top_of segments ≡ Some s
      → SegmentsAnswer k.world.classes (map (segment_with_frames k.frames) segments) → FramesAnswer k.world.classes (frames_in k.frames s.number)
  top_by s [] top answers = absurd cc
  top_by s (x ∷ []) top answers =
      subst (λ (y : SharedSegment). FramesAnswer k.world.classes (frames_in k.frames y.number)) (same_Some x s top) answers
  top_by s (x ∷ above ∷ more) top answers = top_by s (above ∷ more) top answers.2

  top_answers : (s : SharedSegment) → top_segment k.shared.threads t ≡ Some s → FramesAnswer k.world.classes (frames_in k.frames s.number)
  top_answers s is = by (find (λ (e : SharedThread). e.number.0 == t.0) k.shared.threads)
      (finds (λ (e : SharedThread). e.number.0 == t.0) k.shared.threads) is
    where
      by : (o : Option SharedThread) → Finds (λ (e : SharedThread). e.number.0 == t.0) k.shared.threads o
          → option_and_then (λ (e : SharedThread). top_of e.segments) o ≡ Some s → FramesAnswer k.world.classes (frames_in k.frames s.number)
      by None h top = absurd cc
      by (Some e) h top =
          let there = Contains-at k.shared.threads h.0 e h.1 in
          top_by s e.segments top
          (known.0.1.segments (thread_with_frames k.frames e) (mapped (thread_with_frames k.frames) k.shared.threads e there))

  module _ (x : Running) (is : IsRunning k.shared.threads t x) where
    abbrev at : RunsAt k t
    at = runs_at k t parts known is.segment is.is_top

    -- what holds of the place holds of the one that code has
    there : (P : Runs → Type 0) → P (runs t is.segment) → P x.runs
    there P = subst P (sym is.runs_there)

    pub same_thread : x.runs.thread ≡ t
    same_thread = ap (λ (r : Runs). r.thread) is.runs_there

    pub own_there : slice_get k.owns x.runs.domain.0 ≡ Some (Some at.own)
    unfolding runs_at
    own_there = there (λ r. slice_get k.owns r.domain.0 ≡ Some (Some at.own)) at.is_own

    pub top_there : HasTop k.frames x.runs.segment
    unfolding runs_at
    top_there =
        let one = parts.sound.fitting.domains in
        let some = top_frame k.world.classes (frames_in k.frames is.segment.number) (top_answers is.segment is.is_top) in
        there (λ r. HasTop k.frames r.segment) (
          some.1,
          record {
            segment = record { domain = is.segment.domain; frames = frames_in k.frames is.segment.number };
            is_there = stored_there;
            lower = some.0;
            frames = some.2;
          },
        )
      where
        stored_there : k.frames.segment is.segment.number ≡ Some (record { domain = is.segment.domain; frames = frames_in k.frames is.segment.number })
        stored_there = stored k t (runs_at k t parts known is.segment is.is_top) parts.sound.fitting.domains parts.sound.fitting.segments

    -- ---- It rests.

    module _ (f : FrameState) (met : Meeting) (top : StoredTop k.frames x.runs.segment f) (meets : Meets k.world.classes at.own.state x.runs f met) where
      top_of_place : StoredTop k.frames is.segment.number f
      top_of_place = subst (λ (r : Runs). StoredTop k.frames r.segment f) is.runs_there top

      looks : MatchOption met.needed (met.look ≡ Sees.Ready) (λ (c : ClassId). IsLook t (state_of at.own.state c) met.look)
      looks =
          subst (λ (u : ThreadNo). MatchOption met.needed (met.look ≡ Sees.Ready) (λ (c : ClassId). IsLook u (state_of at.own.state c) met.look))
          same_thread meets.look

      free : met.look ≢ Sees.Waits → (g : FrameState) (c : ClassId) → StoredTop k.frames is.segment.number g → FrameNeeds k.world.classes g c
          → IsInProgressElsewhere at.own.state t c → ⊥
      free ready g c top_g need elsewhere =
          let stored_both : top_g.segment ≡ top_of_place.segment =
          same_Some top_g.segment top_of_place.segment (sym top_g.is_there ∙ top_of_place.is_there) in
          let same : g ≡ f = (one_last top_g.lower top_of_place.lower g f
          (sym top_g.frames ∙ ap (λ (s : StoredSegment). s.frames) stored_both ∙ top_of_place.frames)).1 in
          waits_not k.world.classes at.own.state t f met.needed met.look ready meets.needed looks c
          (subst (λ (h : FrameState). FrameNeeds k.world.classes h c) same need) elsewhere

      not_held : x.info.suspended ≡ false → met.look ≢ Sees.Waits
          → IsHeld (place k t (runs_at k t parts known is.segment is.is_top) parts.sound.fitting.domains) → ⊥
      unfolding runs_at
      not_held awake ready (inl on) = (let both : false ≡ true = sym awake ∙ is.suspended ∙ on in absurd cc)
      not_held awake ready (inr (top, c, need, elsewhere)) =
          free ready top.frame c
          (record {
            segment = record { domain = is.segment.domain; frames = frames_in k.frames is.segment.number };
            is_there = stored k t at parts.sound.fitting.domains parts.sound.fitting.segments;
            lower = top.callers;
            frames = top.are_frames;
          })
          need elsewhere

      spent_by : (o : Option SharedDomain) → domain_numbered k.shared x.runs.domain ≡ o → option_and_then (λ (e : SharedDomain). e.steps_left) o ≡ Some 0
          → (e : SharedDomain) × (domain_numbered k.shared x.runs.domain ≡ Some e) × (e.steps_left ≡ Some 0)
      spent_by None is none = absurd cc
      spent_by (Some e) is none = (e, is, none)

      pub rests_so : (x.info.suspended ≡ true) ⊎ (met.look ≡ Sees.Waits)
          ⊎ ((x.info.suspended ≡ false) × (met.look ≢ Sees.Waits) × (steps_left_of k.shared x.runs.domain ≡ Some 0))
          → IsResting (kernel_machine k) t
      unfolding runs_at
      rests_so (inl on) = suspended_rests k t at parts.sound.fitting (sym is.suspended ∙ on)
      rests_so (inr (inl waits)) =
          let need = waits_for k.world.classes at.own.state t f met.needed met.look waits meets.needed looks in
          waiting_rests k t at parts.sound.fitting f need.0 top_of_place need.1 need.2
      rests_so (inr (inr (awake, ready, none))) =
          let found = spent_by (domain_numbered k.shared x.runs.domain) refl none in
          spent_rests k t at parts.sound.fitting (not_held awake ready) found.0
          (subst (λ (r : Runs). domain_numbered k.shared r.domain ≡ Some found.0) is.runs_there found.1) found.2

      -- ---- Or its step may be taken.

      pub may_step : x.info.suspended ≡ false → met.look ≢ Sees.Waits → steps_left_of k.shared x.runs.domain ≢ Some 0
          → MayStep k (runs_at k t parts known is.segment is.is_top)
      unfolding runs_at
      may_step awake ready budget = record {
        parts = parts;
        known = known;
        ahead = record {
          awake = sym is.suspended ∙ awake;
          free = free ready;
          budget = λ e found none.
              budget (ap (λ (o : Option SharedDomain). option_and_then (λ (d : SharedDomain). d.steps_left) o)
              (subst (λ (r : Runs). domain_numbered k.shared r.domain ≡ Some e) (sym is.runs_there) found) ∙ none);
        };
      }

-- by the thread's number as code has it
pub ready_so : (k : KernelContent) (x : Running) (parts : AreKernelParts k) (known : IsKnownMachine (kernel_machine k))
    (is : IsRunning k.shared.threads x.runs.thread x) (f : FrameState) (met : Meeting) (top : StoredTop k.frames x.runs.segment f)
    → Meets k.world.classes (runs_at k x.runs.thread parts known is.segment is.is_top).own.state x.runs f met → x.info.suspended ≡ false
    → met.look ≢ Sees.Waits → steps_left_of k.shared x.runs.domain ≢ Some 0 → MayDraw (kernel_machine k) 1 → IsReady k x
unfolding runs_at
ready_so k x parts known is f met top meets awake ready budget numbers = record {
  at = runs_at k x.runs.thread parts known is.segment is.is_top;
  runs_there = is.runs_there;
  stop = is.stop;
  revoked = is.revoked;
  numbers = numbers;
  may = may_step k x.runs.thread parts known x is f met top meets awake ready budget;
}

-- the same place, by that number
pub running_there : (k : KernelContent) (t : ThreadNo) (x : Running) → IsRunning k.shared.threads t x → IsRunning k.shared.threads x.runs.thread x
running_there k t x is = subst (λ (u : ThreadNo). IsRunning k.shared.threads u x) (sym (ap (λ (r : Runs). r.thread) is.runs_there)) is
