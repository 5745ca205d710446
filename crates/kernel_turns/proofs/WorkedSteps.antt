-- A thread's top segment that does steps alone: what it may rest on, from what is known of the parts; and the steps as turns of the machine.
use Rattle.std.proofs.Common.{ℕ, refl, sym, subst}
use Rattle.jk_model.specs.declared.identifiers.ThreadNo.{ThreadNo}
use Rattle.jk_model_machine_state.specs.Places.{run_of, setting_of}
use Rattle.class_init.specs.KeptStates.{KeptState}
use Rattle.frame_store.specs.FrameContents.{HasTop, IsContent}
use Rattle.step_contents.specs.Contents.{Contents, Here, contents_of, here_at}
use Rattle.segment_steps.specs.StepsInTurn.{StepsLead}
use Rattle.segment_steps.specs.LeavingSegments.{IsLeaving}
use Rattle.segment_steps.specs.StepsThatLeave.{StepsComeTo, StepsLeave}
use Rattle.segment_steps.specs.declared.meeting.Runs.{Runs}
use Rattle.segment_steps.specs.declared.went.Went.{Went}
use Rattle.segment_steps.specs.declared.went.Went.TheVariants as Goes
use Rattle.segment_steps.proofs.FramesInTurn.{top_of}
use Rattle.segment_steps.proofs.PaidFrames.{paid_in_store}
use Rattle.kernel_parts.specs.SoundKernels.{KernelContent, kernel_machine}
use Rattle.kernel_turns.specs.ActingAlone.{IsActing}
use Rattle.kernel_turns.specs.PaidSteps.{HasSteps}
use Rattle.kernel_turns.specs.RunningPlaces.{contents_at, here_in, runs}
use Rattle.kernel_turns.specs.SteppedParts.{Follows, MayFollow}
use Rattle.kernel_turns.specs.WorkingSegments.{LeavesBy, MayWork, WorksOn, WorksOrLeaves, worked}
use Rattle.kernel_turns.proofs.ActsNeverRest.{OthersPay}
use Rattle.kernel_turns.proofs.PlacedThreads.{home, place}
use Rattle.kernel_turns.proofs.SegmentsMayAct.{acts, holds, may_act}
use Rattle.kernel_turns.proofs.SettingsOfPlaces.{is_setting}
use Rattle.kernel_turns.proofs.SmallNumbers.{small_numbers}
use Rattle.kernel_turns.proofs.StepsPaid.{StepLaws, tidy_so}
use Rattle.kernel_turns.proofs.StepsAsTurns.{Stands, leaving_as, none_at_rest, steps_are_turns}

-- the segment that acts has a top frame
pub has_top : (old : Contents) (here : Here) (t : ThreadNo) → IsActing old here t → HasTop old.frames here.segment
has_top old here t acting =
    let top = top_of here.world.classes acting.may.run.frames acting.may.answers in (
      top.1,
      record {
        segment = record { domain = here.domain; frames = acting.may.run.frames };
        is_there = acting.may.holds.frames;
        lower = top.0;
        frames = top.2;
      },
    )

module _ (k : KernelContent) (r : Runs) (own : KeptState) (may : MayWork k r own) (content : IsContent k.frames) where
  -- what holds of the place holds of the one that code has
  there : (P : Runs → Type 0) → P (runs r.thread may.at.segment) → P r
  there P = subst P (sym may.is_there)

  at_own : (P : KeptState → Type 0) → P may.at.own → P own
  at_own P = subst P may.is_own

  acting_at : IsActing (contents_at may.at) (here_in k may.at.segment) r.thread
  acting_at =
      let fit = may.parts.sound.fitting in
      record {
        may = may_act k r.thread may.at (tidy_so k may.parts) may.known may.calm.1;
        progress = (acts k r.thread may.at (tidy_so k may.parts) may.known may.calm.1).progress;
        pays = paid_in_store k.frames content may.at.segment.number;
        quota = (home k r.thread may.at fit.domains).domain.quotas.chunks;
        has_quota = fit.live.chunks may.at.segment.domain (home k r.thread may.at fit.domains);
        within = (content.within may.at.segment.domain (home k r.thread may.at fit.domains).domain.quotas.chunks
            (fit.live.chunks may.at.segment.domain (home k r.thread may.at fit.domains))).0;
      }

  pub acting_first : IsActing (contents_of k.heap k.frames own) (here_at k.world k.shared r.domain r.segment) r.thread
  acting_first =
      there (λ q. IsActing (contents_of k.heap k.frames own) (here_at k.world k.shared q.domain q.segment) r.thread)
      (at_own (λ o. IsActing (contents_of k.heap k.frames o) (here_in k may.at.segment) r.thread) acting_at)

  -- what is known of the place before all of them
  stands_first : Stands k may.at (setting_of (place k r.thread may.at may.parts.sound.fitting.domains))
      (run_of (place k r.thread may.at may.parts.sound.fitting.domains))
  stands_first = record {
    parts = may.parts;
    known = may.known;
    awake = may.awake;
    calm = may.calm;
    setting = is_setting k r.thread may.at may.parts.sound.fitting may.parts.stubs;
    alone = refl;
    holds = holds k r.thread may.at (tidy_so k may.parts) may.known.1 (small_numbers (kernel_machine k) may.known.0.0);
    pays = acting_at.pays (record { domain = may.at.segment.domain; frames = (run_of (place k r.thread may.at may.parts.sound.fitting.domains)).frames })
        (holds k r.thread may.at (tidy_so k may.parts) may.known.1 (small_numbers (kernel_machine k) may.known.0.0)).frames;
    quota = acting_at.quota;
    has_quota = acting_at.has_quota;
    within = acting_at.within;
  }

  -- ---- The steps are turns.

  module _ (laws : StepLaws) (pay : OthersPay) (n : ℕ) (has : HasSteps n r.domain k.shared) (final : Contents) where
    works_there : StepsLead (contents_at may.at) final (here_in k may.at.segment) r.thread n → HasSteps n may.at.segment.domain k.shared
        → WorksOn k (runs r.thread may.at.segment) n (worked n may.at.segment.domain final.own final.heaps final.frames k)
    works_there lead has_here =
        let fit = may.parts.sound.fitting in
        let x = setting_of (place k r.thread may.at fit.domains) in
        let run = run_of (place k r.thread may.at fit.domains) in
        let led = lead x (may_act k r.thread may.at (tidy_so k may.parts) may.known may.calm.1) (is_setting k r.thread may.at fit may.parts.stubs) in
        let done = steps_are_turns laws r.thread n k may.at x run led.0 final stands_first has_here led.1 led.2 in
        record {
          turns = done.0;
          parts = done.1;
          none = none_at_rest laws r.thread pay n k may.at x run led.0 stands_first has_here led.1;
        }

    -- the thread leaves its segment by the last of them
    leaves_there : (went : Went) → IsLeaving went → StepsLeave (contents_at may.at) final (here_in k may.at.segment) r.thread n went
        → HasSteps n may.at.segment.domain k.shared
        → LeavesBy k (runs r.thread may.at.segment) n went (worked n may.at.segment.domain final.own final.heaps final.frames k)
    leaves_there went leaves lead has_here =
        let fit = may.parts.sound.fitting in
        let x = setting_of (place k r.thread may.at fit.domains) in
        let led = lead x (may_act k r.thread may.at (tidy_so k may.parts) may.known may.calm.1) (is_setting k r.thread may.at fit may.parts.stubs) in
        let done = leaving_as laws r.thread led.0 k may.at x (run_of (place k r.thread may.at fit.domains)) led.2.0 led.2.1 final went stands_first
        (subst (λ (m : ℕ). HasSteps m may.at.segment.domain k.shared) led.1 has_here) led.2.2 led.2.3 leaves led.2.4 in
        record {
          before = led.0;
          count = led.1;
          mid = done.mid;
          turns = done.turns;
          may = λ draws.
              subst (λ (m : ℕ). MayFollow (worked m may.at.segment.domain final.own final.heaps final.frames k) (runs r.thread may.at.segment) went)
              (sym led.1) (done.may draws);
          steps = λ after last follows.
              done.steps after last
              (subst (λ (m : ℕ). Follows (worked m may.at.segment.domain final.own final.heaps final.frames k) r.thread went after last) led.1 follows);
          none = done.none pay;
        }

    pub works_on : StepsLead (contents_of k.heap k.frames own) final (here_at k.world k.shared r.domain r.segment) r.thread n
        → WorksOn k r n (worked n r.domain final.own final.heaps final.frames k)
    works_on lead =
        there (λ q. WorksOn k q n (worked n q.domain final.own final.heaps final.frames k))
        (works_there
        (subst (λ (o : KeptState). StepsLead (contents_of k.heap k.frames o) final (here_in k may.at.segment) r.thread n) (sym may.is_own)
        (subst (λ (q : Runs). StepsLead (contents_of k.heap k.frames own) final (here_at k.world k.shared q.domain q.segment) r.thread n)
        may.is_there lead))
        (subst (λ (q : Runs). HasSteps n q.domain k.shared) may.is_there has))

    leaves_on : (went : Went) → IsLeaving went
        → StepsLeave (contents_of k.heap k.frames own) final (here_at k.world k.shared r.domain r.segment) r.thread n went
        → LeavesBy k r n went (worked n r.domain final.own final.heaps final.frames k)
    leaves_on went leaves lead =
        there (λ q. LeavesBy k q n went (worked n q.domain final.own final.heaps final.frames k))
        (leaves_there went leaves
        (subst (λ (o : KeptState). StepsLeave (contents_of k.heap k.frames o) final (here_in k may.at.segment) r.thread n went) (sym may.is_own)
        (subst (λ (q : Runs). StepsLeave (contents_of k.heap k.frames own) final (here_at k.world k.shared q.domain q.segment) r.thread n went)
        may.is_there lead))
        (subst (λ (q : Runs). HasSteps n q.domain k.shared) may.is_there has))

    pub comes_on : (went : Went) → StepsComeTo (contents_of k.heap k.frames own) final (here_at k.world k.shared r.domain r.segment) r.thread n went
        → WorksOrLeaves k r n went (worked n r.domain final.own final.heaps final.frames k)
    comes_on Goes.GoesOn come = works_on come
    comes_on (Goes.Returned v) come = leaves_on (Goes.Returned v) tt come
    comes_on (Goes.Left a) come = absurd come
    comes_on (Goes.Crosses c m) come = leaves_on (Goes.Crosses c m) tt come
    comes_on Goes.Terminates come = absurd come
