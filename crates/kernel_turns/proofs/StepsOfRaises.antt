-- Where something was pending for a thread's top segment and was raised over the contents of the stores, and what follows of the thread is done, that
-- is a step of the machine, and the parts are sound after it.
use Rattle.std.proofs.Common.{◌≡◌, ◌⊎◌, ℕ, inl, inr, false, Bool, List, [], refl, sym, subst}
use Rattle.jk_model.specs.declared.identifiers.ThreadNo.{ThreadNo}
use Rattle.jk_model.specs.declared.output.Line.{Line}
use Rattle.jk_model.specs.declared.steps.Raise.{Raise}
use Rattle.jk_model.specs.declared.steps.Raise.TheVariants as Raised
use Rattle.jk_model.specs.declared.steps.Standing.{Standing}
use Rattle.jk_model.specs.declared.steps.Standing.TheVariants as Stands
use Rattle.jk_model_sharing.specs.Segments.{SharedSegment}
use Rattle.jk_model_sharing.specs.SharedStates.{SharedState}
use Rattle.jk_model_crossings.specs.Throwing.{RaisesInThread}
use Rattle.jk_model_machine_state.specs.Machines.{Machine}
use Rattle.jk_model_runs.specs.Steps.{Acts, Steps, deed_of_raise}
use Rattle.jk_model_runs.specs.Steps as Ran
use Rattle.machine_laws.proofs.RaisesWhereMet.{meets_at}
use Rattle.machine_laws.specs.SealedSteps.{StepsStayKnown}
use Rattle.step_contents.specs.Conditions.{MayRaise}
use Rattle.step_contents.specs.Contents.{LeftBehind}
use Rattle.segment_steps.specs.RaisingHere.{RaisedHere}
use Rattle.segment_steps.specs.declared.went.Went.{Went}
use Rattle.segment_steps.specs.declared.went.Went.TheVariants as Goes
use Rattle.domain_ends.specs.TidyParts.{AreTidyParts}
use Rattle.kernel_parts.specs.SoundKernels.{AreKernelParts, KernelContent, kernel_machine}
use Rattle.kernel_turns.specs.GoingDown.{IsRaisable}
use Rattle.kernel_turns.specs.RunningPlaces.{RunsAt, contents_at, here_in, paying, runs}
use Rattle.kernel_turns.specs.SteppedParts.{Follows, HasRoomsForLiterals, IsPending, MayFollow, MayStep, RaisesAs, is_revoked, stops, with_left}
use Rattle.kernel_turns.proofs.FlaggedParts.{at_flagged, fallen, fit_flagged, is_flagged, with_those}
use Rattle.kernel_turns.proofs.RaisedOnce.{Came, came, may_here as may_raise_here, now as then}
use Rattle.kernel_turns.proofs.StepsPaid.{apart_paid, at_paid, fit_paid, known_paid, moved, place_paid, sound_then, steps_by, tidy_paid}

module _ (k : KernelContent) (t : ThreadNo) (at : RunsAt k t) (ms : MayStep k at) (stop revoked : SharedSegment → Bool) where
  abbrev pub kp : KernelContent
  kp = paying at.segment.domain k

  -- the same where the flag has fallen
  abbrev pub kf : KernelContent
  kf = fallen stop revoked kp t (at_paid k t at ms) (fit_paid k t at ms) (apart_paid k t at ms)

  abbrev pub at_raise : RunsAt kf t
  at_raise = at_flagged stop revoked kp t (at_paid k t at ms) (fit_paid k t at ms) (apart_paid k t at ms)

  pub tidy_fallen : AreTidyParts kf
  tidy_fallen = record {
    fitting = fit_flagged stop revoked kp t (at_paid k t at ms) (fit_paid k t at ms) (apart_paid k t at ms);
    world = (tidy_paid k t at ms).world;
    few_classes = (tidy_paid k t at ms).few_classes;
    rooms = (tidy_paid k t at ms).rooms;
    main = (tidy_paid k t at ms).main;
    stubs = (tidy_paid k t at ms).stubs;
  }

  module _ (s : Standing) where
    pub raisable : IsRaisable (kernel_machine kf) t (Raised.Standing s)
    raisable = record {
      sealed = kernel_machine kp;
      met_there = meets_at (kernel_machine kp) t (known_paid k t at ms).0.0 (known_paid k t at ms).1 (place_paid k t at ms)
          (record (place_paid k t at ms).segment { shared = with_those stop revoked at.segment }) refl refl refl;
      is = is_flagged stop revoked kp t (at_paid k t at ms) (fit_paid k t at ms) (apart_paid k t at ms);
      may = tt;
    }

    abbrev pub may_here : MayRaise (contents_at at) (here_in kf at.segment)
    may_here = may_raise_here kf t (Raised.Standing s) tidy_fallen raisable at_raise

    module _ (left : LeftBehind) (went : Went) (rooms : HasRoomsForLiterals left.contents.own)
        (raised : RaisedHere (contents_at at) left.contents (here_in kf at.segment) (Raised.Standing s) went) where
      abbrev now : KernelContent
      now = then kf t (Raised.Standing s) tidy_fallen raisable at_raise left.contents went rooms raised

      comes : Came kf now t (Raised.Standing s) went
      comes = came kf t (Raised.Standing s) tidy_fallen raisable at_raise left.contents went rooms raised

      follows_by : (went ≡ Goes.GoesOn) ⊎ ((a : ℕ) × (went ≡ Goes.Left a)) → MayFollow now (runs t at.segment) went
      follows_by (inl is) = subst (MayFollow now (runs t at.segment)) (sym is) tt
      follows_by (inr (a, is)) = subst (MayFollow now (runs t at.segment)) (sym is) (comes.tidy, comes.left a is)

      pub may_follow : left.shared ≡ kf.shared → MayFollow (with_left at.segment.domain left k) (runs t at.segment) went
      may_follow same =
          subst (λ (x : SharedState). MayFollow (with_left at.segment.domain (record { contents = left.contents; shared = x }) k) (runs t at.segment) went)
          (sym same) (follows_by comes.either)

      module _ (stay : StepsStayKnown) (acts : (n : ℕ) (lines : List Line) (new : Machine)
          → RaisesInThread (kernel_machine kf) t (Raised.Standing s) n lines new → Acts (kernel_machine kp) t (deed_of_raise n) lines new) where
        by : (went ≡ Goes.GoesOn) ⊎ ((a : ℕ) × (went ≡ Goes.Left a)) → (after : List Line) (new : KernelContent) → Follows now t went after new
            → Steps (kernel_machine k) t after (kernel_machine new) × AreKernelParts new
        by (inl is) after new follows =
            let f = subst (λ (w : Went). Follows now t w after new) is follows in
            moved k new now t [] after f.0 f.1
            (sound_then k t at ms stay [] now comes.tidy
            (steps_by k t at ms (deed_of_raise 0) [] (kernel_machine now) (acts 0 [] (kernel_machine now) (comes.caught is))))
        by (inr (a, is)) after new follows =
            let f = subst (λ (w : Went). Follows now t w after new) is follows in
            sound_then k t at ms stay after new f.2
            (steps_by k t at ms (deed_of_raise f.0) after (kernel_machine new)
            (acts f.0 after (kernel_machine new) (comes.goes_down a is f.0 after (kernel_machine new) f.1)))

        pub is_step : left.shared ≡ kf.shared → (after : List Line) (new : KernelContent)
            → Follows (with_left at.segment.domain left k) t went after new
            → Steps (kernel_machine k) t after (kernel_machine new) × AreKernelParts new
        is_step same after new follows =
            by comes.either after new
            (subst (λ (x : SharedState). Follows (with_left at.segment.domain (record { contents = left.contents; shared = x }) k) t went after new)
            same follows)

-- ---- What is pending.

abbrev still_revoked : SharedSegment → Bool
still_revoked s = s.revoked

abbrev still_stop : SharedSegment → Bool
still_stop s = s.stop

abbrev falls : SharedSegment → Bool
falls s = false

pub raises_as : StepsStayKnown → (k : KernelContent) (t : ThreadNo) (at : RunsAt k t) (raise : Raise) (change : SharedSegment → SharedSegment)
    → MayStep k at → IsPending at.segment raise change → RaisesAs k at raise change
raises_as stay k t at raise change ms (stops on) =
    let acts : (n : ℕ) (lines : List Line) (new : Machine)
    → RaisesInThread (kernel_machine (kf k t at ms falls still_revoked)) t (Raised.Standing Stands.ThreadDeath) n lines new
    → Acts (kernel_machine (paying at.segment.domain k)) t (deed_of_raise n) lines new =
    λ n lines new h.
    Ran.stops (place_paid k t at ms) n lines new on
    (subst (λ (m : Machine). RaisesInThread m t (Raised.Standing Stands.ThreadDeath) n lines new)
    (is_flagged falls still_revoked (paying at.segment.domain k) t (at_paid k t at ms) (fit_paid k t at ms) (apart_paid k t at ms)) h) in
    record {
      may = may_here k t at ms falls still_revoked Stands.ThreadDeath;
      follows = λ left went raised same rooms. may_follow k t at ms falls still_revoked Stands.ThreadDeath left went rooms raised same;
      steps = λ left went after new raised same rooms follows.
          is_step k t at ms falls still_revoked Stands.ThreadDeath left went rooms raised stay acts same after new follows;
    }
raises_as stay k t at raise change ms (is_revoked calm on) =
    let acts : (n : ℕ) (lines : List Line) (new : Machine)
    → RaisesInThread (kernel_machine (kf k t at ms still_stop falls)) t (Raised.Standing Stands.Revoked) n lines new
    → Acts (kernel_machine (paying at.segment.domain k)) t (deed_of_raise n) lines new =
    λ n lines new h.
    Ran.is_revoked (place_paid k t at ms) n lines new calm on
    (subst (λ (m : Machine). RaisesInThread m t (Raised.Standing Stands.Revoked) n lines new)
    (is_flagged still_stop falls (paying at.segment.domain k) t (at_paid k t at ms) (fit_paid k t at ms) (apart_paid k t at ms)) h) in
    record {
      may = may_here k t at ms still_stop falls Stands.Revoked;
      follows = λ left went raised same rooms. may_follow k t at ms still_stop falls Stands.Revoked left went rooms raised same;
      steps = λ left went after new raised same rooms follows.
          is_step k t at ms still_stop falls Stands.Revoked left went rooms raised stay acts same after new follows;
    }
