-- Where a thread's top segment acted over the contents of the stores, and what follows of its thread and of its domain is done, that is a step of the
-- machine, and the parts are sound after it.
use Rattle.std.proofs.Common.{◌≡◌, ℕ, List, [], ◌∷◌, ◌++◌, Option, refl, sym, ap, subst, ◌∙◌, arith}
use Rattle.jk_model.specs.declared.identifiers.CapId.{CapId}
use Rattle.jk_model.specs.declared.identifiers.MemberId.{MemberId}
use Rattle.jk_model.specs.declared.identifiers.ThreadNo.{ThreadNo}
use Rattle.jk_model.specs.declared.output.Line.{Line}
use Rattle.jk_model.specs.declared.output.Line.TheVariants as Says
use Rattle.jk_model.specs.declared.values.Value.{Value}
use Rattle.jk_model_heaps.specs.Capabilities.{CapRange, IsGivenOut}
use Rattle.jk_model_heaps.specs.Workings.{Inside, Run}
use Rattle.jk_model_running.specs.LocalSteps.{LocalStep}
use Rattle.jk_model_running.specs.Ways as Way
use Rattle.jk_model_sharing.specs.SharedStates.{SharedState}
use Rattle.jk_model_crossings.specs.RemoteCalls.{RemoteCall}
use Rattle.jk_model_machine_state.specs.Machines.{Machine, Segment, caps_of}
use Rattle.jk_model_machine_state.specs.Places.{RunningSegment, run_of, setting_of, with_run}
use Rattle.jk_model_runs.specs.Sealed.{IsSealed, surroundings}
use Rattle.jk_model_runs.specs.Steps.{Deed, Ensues, EndedDomain, LeftSegments, Steps, Worked}
use Rattle.jk_model_runs.specs.Steps as Ran
use Rattle.heap_laws.specs.FittingOutcomes.{StandsAtCrossing}
use Rattle.heap_laws.specs.RaisableObjects.{IsThrowable}
use Rattle.kernel_events.specs.KernelCalls.{MayDraw}
use Rattle.row_laws.proofs.CallsFound.{types_count}
use Rattle.machine_laws.proofs.RunsAgain.{inside_there, running_then, runs_there}
use Rattle.machine_laws.proofs.SealedAfterRuns.{goes_on as on_sealed, left_sealed, sealed_after}
use Rattle.machine_laws.proofs.StepsKnown.{caps_same, sound as sound_after_run, taken}
use Rattle.machine_laws.proofs.StepsThatCross.{crosses_at, stands_at}
use Rattle.machine_laws.specs.CallsAndAnswers.{IsTaken, StandsAtCall}
use Rattle.machine_laws.specs.SoundMachines.{HasSoundClasses}
use Rattle.row_laws.specs.KeptRuns.{KeepsRun}
use Rattle.step_contents.specs.Contents.{Becomes, Contents, LeftBehind}
use Rattle.segment_steps.specs.ActingSegments.{Acted, MayAct, crosses, ended, goes_on, is_denied, is_granted, leaves, says, terminates}
use Rattle.segment_steps.specs.declared.went.Went.{Went}
use Rattle.segment_steps.specs.declared.went.Went.TheVariants as Goes
use Rattle.domain_crossing.specs.AskedOfCrossings.{MayEnter, MayLeave}
use Rattle.domain_crossing.specs.AskedOfCrossings.{MayRaise as MayRaiseAcross}
use Rattle.domain_ends.specs.TidyParts.{AreTidyParts}
use Rattle.kernel_parts.specs.SoundKernels.{AreKernelParts, KernelContent, kernel_machine, parts_of}
use Rattle.kernel_turns.specs.RunningPlaces.{HasNothingPending, RunsAt, contents_at, here_in, paying, runs}
use Rattle.kernel_turns.specs.SteppedParts.{ActsAs, Follows, HasRoomsForLiterals, MayFollow, MayStep, with_left}
use Rattle.kernel_turns.proofs.KeptParts.{kept_tidy}
use Rattle.kernel_turns.proofs.RaisedOnce.{is_thrown}
use Rattle.kernel_turns.proofs.RequestsAsked.{asks_so}
use Rattle.kernel_turns.proofs.SegmentsMayAct.{acts as acts_well, may_act}
use Rattle.kernel_turns.proofs.SegmentsThatRan.{fit_ran, is_ran, place_ran, ran, same_name}
use Rattle.kernel_turns.proofs.SettingsOfPlaces.{is_setting}
use Rattle.kernel_turns.proofs.StepsPaid.{StepLaws, apart_paid, at_paid, fit_paid, known_paid, moved, place_paid, sound_then, steps_by, tidy_paid}

-- ---- It acted, and its segment has run.

-- a machine in which the thread has a call to make
record CallsThere (m : Machine) (t : ThreadNo) (c : CapId) (method : MemberId) : Type 0 where
  sealed : IsSealed m
  sound : HasSoundClasses m
  call : RemoteCall m t
  capability : call.capability ≡ c
  is_method : call.method ≡ method
  stands : StandsAtCall call

-- one in which no frame of its top segment is left
record IsEmptied (m : Machine) (t : ThreadNo) : Type 0 where
  sealed : IsSealed m
  sound : HasSoundClasses m
  left : (q : RunningSegment m t) → q.segment.frames ≡ []

module _ (k : KernelContent) (t : ThreadNo) (at : RunsAt k t) (ms : MayStep k at) (calm : HasNothingPending at.segment) (laws : StepLaws)
    (left : Contents) (run : Run)
    (becomes : Becomes (contents_at at) left (here_in (paying at.segment.domain k) at.segment) (run_of (place_paid k t at ms)) run) (went : Way.Went)
    (step : LocalStep (setting_of (place_paid k t at ms)) t (run_of (place_paid k t at ms)) run went) where
  abbrev m : Machine
  m = kernel_machine (paying at.segment.domain k)

  abbrev p : RunningSegment (kernel_machine (paying at.segment.domain k)) t
  p = place_paid k t at ms

  abbrev pub now : KernelContent
  now = ran (paying at.segment.domain k) t (at_paid k t at ms) (fit_paid k t at ms) (apart_paid k t at ms) left run becomes

  pub now_is : kernel_machine now ≡ with_run (place_paid k t at ms) run
  now_is = is_ran (paying at.segment.domain k) t (at_paid k t at ms) (fit_paid k t at ms) (apart_paid k t at ms) left run becomes

  pub does_step : (deed : Deed) (lines : List Line) (new : Machine) → Ensues (kernel_machine now) t went deed lines new
      → Steps (kernel_machine k) t lines new
  does_step deed lines new ensues =
      steps_by k t at ms deed lines new
      (Ran.does (place_paid k t at ms) run went deed lines new calm.0 calm.1 step
      (subst (λ (x : Machine). Ensues x t went deed lines new) now_is ensues))

  pub kept : KeepsRun (surroundings (kernel_machine (paying at.segment.domain k)) (place_paid k t at ms).home.domain) (setting_of (place_paid k t at ms)) t
      (run_of (place_paid k t at ms)) run went
  kept =
      laws.keep (surroundings (kernel_machine (paying at.segment.domain k)) (place_paid k t at ms).home.domain) (setting_of (place_paid k t at ms)) t
      (run_of (place_paid k t at ms)) run went
      (acts_well (paying at.segment.domain k) t (at_paid k t at ms) (tidy_paid k t at ms) (known_paid k t at ms) calm.1) step

  abbrev q : RunningSegment (kernel_machine now) t
  q = place_ran (paying at.segment.domain k) t (at_paid k t at ms) (fit_paid k t at ms) (apart_paid k t at ms) left run becomes

  abbrev stood : Segment
  stood = record (place_paid k t at ms).segment { frames = run.frames }

  sound_run : HasSoundClasses (with_run (place_paid k t at ms) run)
  sound_run = sound_after_run m t (known_paid k t at ms) p run went kept

  emptied : run.frames ≡ [] → IsEmptied (kernel_machine now) t
  emptied none =
      subst (λ (x : Machine). IsEmptied x t) (sym now_is)
      (record {
        sealed = left_sealed m t p run went (known_paid k t at ms).0.0 kept none;
        sound = sound_run;
        left = λ s. ap (λ (x : Segment). x.frames) (runs_there m t p stood run.inside refl s).1 ∙ none;
      })

  module _ (rooms : HasRoomsForLiterals left.own) where
    pub tidy_now : AreTidyParts now
    tidy_now =
        kept_tidy (paying at.segment.domain k) t (at_paid k t at ms) left.own (paying at.segment.domain k).shared left.heaps left.frames
        (tidy_paid k t at ms)
        (fit_ran (paying at.segment.domain k) t (at_paid k t at ms) (fit_paid k t at ms) (apart_paid k t at ms) left run becomes) refl
        becomes.inside.rooms rooms

    -- it lives on
    pub lives_on : (lines : List Line) → Ensues (kernel_machine now) t went Worked lines (kernel_machine now)
        → Steps (kernel_machine k) t lines (kernel_machine now) × AreKernelParts now
    lives_on lines ensues = sound_then k t at ms laws.stay lines now tidy_now (does_step Worked lines (kernel_machine now) ensues)

    -- the lowest frame returned
    pub may_leave : (v : Option Value) → run.frames ≡ [] → IsTaken (with_run (place_paid k t at ms) run) t v → MayLeave (parts_of now) t v
    may_leave v none is_taken =
        let e = emptied none in
        record {
          cross = record { fitting = tidy_now.fitting; sealed = e.sealed; sound = e.sound };
          runs = q;
          left = e.left q;
          taken = subst (λ (x : Machine). IsTaken x t v) (sym now_is) is_taken;
        }

    -- a throwable left it
    pub may_raise : (a : ℕ) → run.frames ≡ [] → IsThrowable k.world.classes run.inside.heap a → MayRaiseAcross (parts_of now) t a
    may_raise a none throwable =
        let e = emptied none in
        let thrown : (s : RunningSegment (kernel_machine now) t) → IsThrowable k.world.classes s.home.inside.heap a =
        subst (λ (x : Machine). (s : RunningSegment x t) → IsThrowable k.world.classes s.home.inside.heap a) (sym now_is)
        (λ s. subst (λ (i : Inside). IsThrowable k.world.classes i.heap a) (sym (inside_there m t p stood run.inside refl s)) throwable) in
        record {
          cross = record { fitting = tidy_now.fitting; sealed = e.sealed; sound = e.sound };
          runs = q;
          left = e.left q;
          thrown = is_thrown (kernel_machine now) t q a e.sealed e.sound (thrown q);
        }

-- it stands at a call through a capability
module _ (k : KernelContent) (t : ThreadNo) (at : RunsAt k t) (ms : MayStep k at) (calm : HasNothingPending at.segment) (laws : StepLaws)
    (left : Contents) (run : Run)
    (becomes : Becomes (contents_at at) left (here_in (paying at.segment.domain k) at.segment) (run_of (place_paid k t at ms)) run) (c : CapId)
    (method : MemberId)
    (step : LocalStep (setting_of (place_paid k t at ms)) t (run_of (place_paid k t at ms)) run (Way.Crosses c method)) where
  abbrev mc : Machine
  mc = kernel_machine (paying at.segment.domain k)

  abbrev pc : RunningSegment (kernel_machine (paying at.segment.domain k)) t
  pc = place_paid k t at ms

  keeps : KeepsRun (surroundings (kernel_machine (paying at.segment.domain k)) (place_paid k t at ms).home.domain) (setting_of (place_paid k t at ms)) t
      (run_of (place_paid k t at ms)) run (Way.Crosses c method)
  keeps = kept k t at ms calm laws left run becomes (Way.Crosses c method) step

  abbrev stands : StandsAtCrossing (surroundings (kernel_machine (paying at.segment.domain k)) (place_paid k t at ms).home.domain) run.inside.heap
      keeps.fits.1.0.frame c method
  stands = keeps.fits.1.1

  given_there : IsGivenOut (caps_of (with_run (place_paid k t at ms) run)) c
  given_there =
      subst (λ (caps : List CapRange). IsGivenOut caps c) (sym (caps_same mc t (known_paid k t at ms) pc run (Way.Crosses c method) keeps))
      stands.given_out

  abbrev call : RemoteCall (with_run (place_paid k t at ms) run) t
  call = record {
    place = running_then mc t pc (record pc.segment { frames = run.frames }) run.inside refl;
    capability = c;
    method = method;
    named = stands.method;
    is_named = stands.is_method;
    callers = keeps.fits.1.0.callers;
    frame = keeps.fits.1.0.frame;
    are_frames = keeps.fits.1.0.are_frames;
    below = stands.below;
    given = stands.given;
    as_many = types_count (surroundings mc pc.home.domain) run.inside.heap stands.method.params stands.given stands.arguments;
    stack = stands.stack;
    known = given_there.0;
    is_known = given_there.1;
  }

  calls_run : CallsThere (with_run (place_paid k t at ms) run) t c method
  calls_run = record {
    sealed = sealed_after mc t (on_sealed mc t pc run (Way.Crosses c method) (known_paid k t at ms).0.0 keeps keeps.fits.0.0);
    sound = sound_after_run mc t (known_paid k t at ms) pc run (Way.Crosses c method) keeps;
    call = call;
    capability = refl;
    is_method = refl;
    stands = stands_at mc t pc run call method refl
        (crosses_at laws.rows (setting_of pc) pc.home.domain.table (caps_of mc) t (run_of pc) run (Way.Crosses c method)
        (acts_well (paying at.segment.domain k) t (at_paid k t at ms) (tidy_paid k t at ms) (known_paid k t at ms) calm.1) step);
  }

  pub may_enter : HasRoomsForLiterals left.own → MayDraw (kernel_machine k) 1
      → MayEnter (parts_of (now k t at ms calm laws left run becomes (Way.Crosses c method) step)) t c method
  may_enter rooms draws =
      let there = subst (λ (x : Machine). CallsThere x t c method) (sym (now_is k t at ms calm laws left run becomes (Way.Crosses c method) step)) calls_run
      in
      record {
        cross = record {
          fitting = (tidy_now k t at ms calm laws left run becomes (Way.Crosses c method) step rooms).fitting;
          sealed = there.sealed;
          sound = there.sound;
        };
        call = there.call;
        capability = there.capability;
        is_method = there.is_method;
        stands = there.stands;
        number = omega (arith, draws);
      }

-- ---- By what the step came to.

module _ (k : KernelContent) (t : ThreadNo) (at : RunsAt k t) (ms : MayStep k at) (calm : HasNothingPending at.segment) (laws : StepLaws)
    (left : LeftBehind) where
  abbrev pub may_do : MayAct (contents_at at) (here_in (paying at.segment.domain k) at.segment)
  may_do = may_act (paying at.segment.domain k) t (at_paid k t at ms) (tidy_paid k t at ms) (known_paid k t at ms) calm.1

  -- where what domains share is as it was but for the payment
  abbrev At : Went → SharedState → Type 0
  At went shared = MayFollow (with_left at.segment.domain (record { contents = left.contents; shared = shared }) k) (runs t at.segment) went

  follow_at : (went : Went) → left.shared ≡ (paying at.segment.domain k).shared → At went (paying at.segment.domain k).shared
      → MayFollow (with_left at.segment.domain left k) (runs t at.segment) went
  follow_at went same h = subst (At went) (sym same) h

  pub may_follow : (went : Went) (lines : List Line) → Acted (setting_of (place_paid k t at ms)) t may_do left went lines
      → HasRoomsForLiterals left.contents.own → MayDraw (kernel_machine k) 1
      → MayFollow (with_left at.segment.domain left k) (runs t at.segment) went
  may_follow went lines (goes_on run step becomes same) rooms draws = tt
  may_follow went lines (says run text step becomes same) rooms draws = tt
  may_follow went lines (ended run v step becomes same) rooms draws =
      let fits = (kept k t at ms calm laws left.contents run becomes (Way.Ended v) step).fits in
      follow_at (Goes.Returned v) same (
        tidy_now k t at ms calm laws left.contents run becomes (Way.Ended v) step rooms,
        may_leave k t at ms calm laws left.contents run becomes (Way.Ended v) step rooms v fits.0
            (taken (kernel_machine (paying at.segment.domain k)) t (known_paid k t at ms) (place_paid k t at ms) run (Way.Ended v)
            (kept k t at ms calm laws left.contents run becomes (Way.Ended v) step) fits.0 v fits.1.0 fits.1.1 fits.1.2),
      )
  may_follow went lines (leaves run a step becomes same) rooms draws =
      let fits = (kept k t at ms calm laws left.contents run becomes (Way.Left a) step).fits in
      follow_at (Goes.Left a) same (
        tidy_now k t at ms calm laws left.contents run becomes (Way.Left a) step rooms,
        may_raise k t at ms calm laws left.contents run becomes (Way.Left a) step rooms a fits.0 fits.1,
      )
  may_follow went lines (crosses run c method step becomes same) rooms draws =
      follow_at (Goes.Crosses c method) same (
        tidy_now k t at ms calm laws left.contents run becomes (Way.Crosses c method) step rooms,
        may_enter k t at ms calm laws left.contents run becomes c method step rooms draws,
      )
  may_follow went lines (terminates run step becomes same) rooms draws =
      follow_at Goes.Terminates same (
        tidy_now k t at ms calm laws left.contents run becomes Way.Terminates step rooms,
        (
          place_ran (paying at.segment.domain k) t (at_paid k t at ms) (fit_paid k t at ms) (apart_paid k t at ms) left.contents run becomes,
          refl,
        ),
      )
  may_follow went lines (is_granted run top request v step answers becomes) rooms draws = tt
  may_follow went lines (is_denied run new request r unwound step answers raises becomes) rooms draws =
      (asks_so k t at ms calm laws left).denied run new request r unwound step answers raises becomes rooms

  -- what follows is over what domains share where the step is paid
  at_shared : (went : Went) (after : List Line) (new : KernelContent) → left.shared ≡ (paying at.segment.domain k).shared
      → Follows (with_left at.segment.domain left k) t went after new
      → Follows (with_left at.segment.domain (record { contents = left.contents; shared = (paying at.segment.domain k).shared }) k) t went after new
  at_shared went after new same follows =
      subst (λ (s : SharedState). Follows (with_left at.segment.domain (record { contents = left.contents; shared = s }) k) t went after new) same follows

  pub is_step : (went : Went) (lines after : List Line) (new : KernelContent)
      → Acted (setting_of (place_paid k t at ms)) t may_do left went lines → HasRoomsForLiterals left.contents.own
      → Follows (with_left at.segment.domain left k) t went after new
      → Steps (kernel_machine k) t (lines ++ after) (kernel_machine new) × AreKernelParts new
  is_step went lines after new (goes_on run step becomes same) rooms follows =
      let f = at_shared Goes.GoesOn after new same follows in
      moved k new (now k t at ms calm laws left.contents run becomes Way.GoesOn step) t [] after f.0 f.1
      (lives_on k t at ms calm laws left.contents run becomes Way.GoesOn step rooms [] Ran.goes_on)
  is_step went lines after new (says run text step becomes same) rooms follows =
      let f = at_shared Goes.GoesOn after new same follows in
      let m = kernel_machine (now k t at ms calm laws left.contents run becomes (Way.Says text) step) in
      let line = Says.Said (place_paid k t at ms).home.domain.name text in
      moved k new (now k t at ms calm laws left.contents run becomes (Way.Says text) step) t (line ∷ []) (line ∷ after)
      (ap (λ (ls : List Line). line ∷ ls) f.0) f.1
      (lives_on k t at ms calm laws left.contents run becomes (Way.Says text) step rooms (line ∷ [])
      (subst (λ (name : List ℕ). Ensues m t (Way.Says text) Worked (Says.Said name text ∷ []) m)
      (same_name (paying at.segment.domain k) t (at_paid k t at ms) (fit_paid k t at ms) (apart_paid k t at ms) left.contents run becomes)
      (Ran.says (place_ran (paying at.segment.domain k) t (at_paid k t at ms) (fit_paid k t at ms) (apart_paid k t at ms) left.contents run becomes)
      text)))
  is_step went lines after new (ended run v step becomes same) rooms follows =
      let f = at_shared (Goes.Returned v) after new same follows in
      sound_then k t at ms laws.stay after new f.2
      (does_step k t at ms calm laws left.contents run becomes (Way.Ended v) step (LeftSegments f.0) after (kernel_machine new)
      (Ran.ended v f.0 after (kernel_machine new) f.1))
  is_step went lines after new (leaves run a step becomes same) rooms follows =
      let f = at_shared (Goes.Left a) after new same follows in
      sound_then k t at ms laws.stay after new f.2
      (does_step k t at ms calm laws left.contents run becomes (Way.Left a) step (LeftSegments f.0) after (kernel_machine new)
      (Ran.left a f.0 after (kernel_machine new) f.1))
  is_step went lines after new (crosses run c method step becomes same) rooms follows =
      let f = at_shared (Goes.Crosses c method) after new same follows in
      sound_then k t at ms laws.stay after new f.2
      (does_step k t at ms calm laws left.contents run becomes (Way.Crosses c method) step f.0 after (kernel_machine new) f.1)
  is_step went lines after new (terminates run step becomes same) rooms follows =
      let f = at_shared Goes.Terminates after new same follows in
      sound_then k t at ms laws.stay after new f.2
      (does_step k t at ms calm laws left.contents run becomes Way.Terminates step (EndedDomain f.0.home.domain.number) after (kernel_machine new)
      (Ran.terminates f.0 after (kernel_machine new) f.1))
  is_step went lines after new (is_granted run top request v step answers becomes) rooms follows =
      (asks_so k t at ms calm laws left).granted run top request v step answers becomes rooms after new follows
  is_step went lines after new (is_denied run other request r unwound step answers raises becomes) rooms follows =
      (asks_so k t at ms calm laws left).denied_step run other request r unwound step answers raises becomes rooms after new follows

pub acts_as : StepLaws → (k : KernelContent) (t : ThreadNo) (at : RunsAt k t) (left : LeftBehind) (went : Went) → MayStep k at
    → HasNothingPending at.segment → ActsAs k at left went
acts_as laws k t at left went ms calm = record {
  setting = setting_of (place_paid k t at ms);
  may = may_do k t at ms calm laws left;
  is_setting = is_setting (paying at.segment.domain k) t (at_paid k t at ms) (fit_paid k t at ms) ms.parts.stubs;
  follows = may_follow k t at ms calm laws left went;
  steps = is_step k t at ms calm laws left went;
}
