-- Where a thread's top segment has asked for something of package jk, and it was granted or denied over what domains share, that is a step of the machine,
-- and the parts are sound after it.
use Rattle.std.proofs.Common.{◌≡◌, ℕ, ◌==◌, true, false, List, [], ◌∷◌, Contains, inl, inr, ◌-◌, Option, Some, None, Result, Ok, Err, refl, sym, ap, subst, ◌∙◌}
use Rattle.std.proofs.lemmas.List.Elements.{Contains-append_cases}
use Rattle.jk_model.specs.declared.identifiers.CapId.{CapId}
use Rattle.jk_model.specs.declared.identifiers.ClassId.{ClassId}
use Rattle.jk_model.specs.declared.identifiers.DomainId.{DomainId}
use Rattle.jk_model.specs.declared.identifiers.ThreadNo.{ThreadNo}
use Rattle.jk_model.specs.declared.output.Line.{Line}
use Rattle.jk_model.specs.declared.steps.Raise.{Raise}
use Rattle.jk_model.specs.declared.values.Value.{Value}
use Rattle.jk_model_heaps.specs.declared.shapes.Unwound.{Unwound}
use Rattle.jk_model_heaps.specs.declared.shapes.Unwound.TheVariants as Unwinding
use Rattle.jk_model_classes.specs.declared.records.ClassRecord.{ClassRecord}
use Rattle.jk_model_classes.specs.declared.sharing.Stub.{Stub}
use Rattle.jk_model_classes.specs.Classes.{record_of}
use Rattle.jk_model_classes.specs.Stubs.{ImplementsRemote}
use Rattle.jk_model_domains.specs.Objects.{Plain}
use Rattle.jk_model_heaps.proofs.NamesInHeaps.{stands}
use Rattle.jk_model_heaps.specs.Heaps.{named}
use Rattle.jk_model_heaps.specs.Capabilities.{CapRange, Capability}
use Rattle.jk_model_heaps.specs.CalledFrames.{resumed}
use Rattle.jk_model_heaps.specs.Workings.{Request, Run}
use Rattle.jk_model_running.specs.LocalSteps.{LocalStep, TopFrame}
use Rattle.jk_model_running.specs.Raising.{RaisesIn}
use Rattle.jk_model_running.specs.Ways as Way
use Rattle.jk_model_sealing.specs.SealedInsides.{IsOfClass, IsSealedObject, Surroundings}
use Rattle.jk_model_sharing.specs.Answers.{Answers, Granted, binds, creates, looks_up, resumes, revokes, stops, suspends, unbinds}
use Rattle.jk_model_sharing.specs.BoundNames.{BoundName}
use Rattle.jk_model_sharing.specs.CapabilityCalls.{Creates, Revokes}
use Rattle.jk_model_sharing.specs.Segments.{with_stop, with_suspended}
use Rattle.jk_model_sharing.specs.SharedStates.{SharedDomain, SharedState, domain_numbered, stub_for}
use Rattle.jk_model_machine_state.specs.Machines.{Machine, Segment}
use Rattle.jk_model_machine_state.specs.Places.{RunningSegment, run_of, setting_of, with_run}
use Rattle.jk_model_crossings.specs.Throwing.{RaisesInThread, Throws}
use Rattle.jk_model_crossings.specs.Throwing as Thrown
use Rattle.jk_model_runs.specs.AnsweredCalls.{AreCallsAnswered}
use Rattle.jk_model_runs.specs.Sealed.{surroundings}
use Rattle.jk_model_runs.specs.Steps.{Steps, deed_of_raise, deed_of_request}
use Rattle.jk_model_runs.specs.Steps as Ran
use Rattle.list_lemmas.proofs.FoundItems.{Finds, finds}
use Rattle.list_lemmas.proofs.ItemsOfLists.{Contains-at, Contains-cases, Contains-none}
use Rattle.heap_laws.specs.FittingOutcomes.{IsKnownRequest}
use Rattle.heap_laws.specs.RaisableObjects.{MayBeRaised}
use Rattle.machine_laws.proofs.LowestFramesStay.{step_gives}
use Rattle.machine_laws.proofs.RaisesSealed.{flagged, is_met, met_there}
use Rattle.machine_laws.proofs.RaisesWhereMet.{some_frames}
use Rattle.machine_laws.proofs.RequestsKnown.{AsksHere, fits}
use Rattle.machine_laws.proofs.RunsAgain.{running_then, runs_on}
use Rattle.machine_laws.proofs.StepsAllKnown.{answered, asks_here, waits}
use Rattle.machine_laws.proofs.StepsKnown.{caps_same}
use Rattle.machine_laws.proofs.StepsKnown.{sound as sound_run}
use Rattle.machine_laws.proofs.ThrowablesSealed.{LeadsWell, leads_well}
use Rattle.machine_laws.specs.RunsInMachines.{GivesStill}
use Rattle.machine_laws.specs.SoundMachines.{HasSoundClasses, IsSealedAtCall}
use Rattle.machine_parts.specs.FittingParts.{AreFittingParts}
use Rattle.row_laws.specs.KeptRuns.{KeepsRun}
use Rattle.step_contents.specs.Contents.{Becomes, LeftBehind, with_frame}
use Rattle.segment_steps.specs.RaisingHere.{went_of}
use Rattle.segment_steps.specs.declared.went.Went.TheVariants as Goes
use Rattle.system_calls.proofs.RemoteClasses.{remote_alone}
use Rattle.domain_crossing.proofs.FitsAgain.{fits_again, same_owns, same_shared}
use Rattle.domain_ends.specs.TidyParts.{AreTidyParts}
use Rattle.kernel_parts.specs.SoundKernels.{AreKernelParts, KernelContent, kernel_machine, parts_of}
use Rattle.kernel_turns.specs.RunningPlaces.{HasNothingPending, RunsAt, contents_at, here_in, paying, runs}
use Rattle.kernel_turns.specs.SteppedParts.{Follows, HasRoomsForLiterals, MayFollow, MayStep, with_left}
use Rattle.kernel_turns.proofs.FitsRequested.{fits_flagged, fits_ranged, revoked_class}
use Rattle.kernel_turns.proofs.KeptParts.{kept_tidy}
use Rattle.kernel_turns.proofs.RaisedOnce.{is_thrown}
use Rattle.kernel_turns.proofs.RaisesAlike.{raises_alike}
use Rattle.kernel_turns.proofs.RequestsOverParts.{Allows, Denies, denied_so, granted_so}
use Rattle.kernel_turns.proofs.SegmentsMayAct.{acts as acts_well}
use Rattle.kernel_turns.proofs.SegmentsThatRan.{fit_ran, is_ran, place_ran, ran}
use Rattle.kernel_turns.proofs.StepsPaid.{StepLaws, apart_paid, at_paid, fit_paid, known_paid, moved, place_paid, sound_then, steps_by, tidy_paid}

-- what is to be shown of an answer
pub record AsksSo (k : KernelContent) (t : ThreadNo) (at : RunsAt k t) (ms : MayStep k at) (left : LeftBehind) : Type 0 where
  pub granted : (run : Run) (top : TopFrame run) (request : Request) (v : Option Value)
      → LocalStep (setting_of (place_paid k t at ms)) t (run_of (place_paid k t at ms)) run (Way.Asks request)
      → Answers (paying at.segment.domain k).shared at.segment.domain request (Ok v) left.shared
      → Becomes (contents_at at) left.contents (here_in (paying at.segment.domain k) at.segment) (run_of (place_paid k t at ms))
      (with_frame top.callers (resumed v top.frame) run.inside)
      → HasRoomsForLiterals left.contents.own → (after : List Line) (new : KernelContent)
      → Follows (with_left at.segment.domain left k) t Goes.GoesOn after new
      → Steps (kernel_machine k) t after (kernel_machine new) × AreKernelParts new
  pub denied : (run last : Run) (request : Request) (r : Raise) (unwound : Unwound)
      → LocalStep (setting_of (place_paid k t at ms)) t (run_of (place_paid k t at ms)) run (Way.Asks request)
      → Answers (paying at.segment.domain k).shared at.segment.domain request (Err r) left.shared
      → RaisesIn (setting_of (place_paid k t at ms)) run r last unwound
      → Becomes (contents_at at) left.contents (here_in (paying at.segment.domain k) at.segment) (run_of (place_paid k t at ms)) last
      → HasRoomsForLiterals left.contents.own → MayFollow (with_left at.segment.domain left k) (runs t at.segment) (went_of unwound)
  pub denied_step : (run last : Run) (request : Request) (r : Raise) (unwound : Unwound)
      → LocalStep (setting_of (place_paid k t at ms)) t (run_of (place_paid k t at ms)) run (Way.Asks request)
      → Answers (paying at.segment.domain k).shared at.segment.domain request (Err r) left.shared
      → RaisesIn (setting_of (place_paid k t at ms)) run r last unwound
      → Becomes (contents_at at) left.contents (here_in (paying at.segment.domain k) at.segment) (run_of (place_paid k t at ms)) last
      → HasRoomsForLiterals left.contents.own → (after : List Line) (new : KernelContent)
      → Follows (with_left at.segment.domain left k) t (went_of unwound) after new
      → Steps (kernel_machine k) t after (kernel_machine new) × AreKernelParts new

-- ---- The segment waits for an answer.

module _ (k : KernelContent) (t : ThreadNo) (at : RunsAt k t) (ms : MayStep k at) (calm : HasNothingPending at.segment) (laws : StepLaws) (run : Run)
    (request : Request) (step : LocalStep (setting_of (place_paid k t at ms)) t (run_of (place_paid k t at ms)) run (Way.Asks request)) where
  abbrev m : Machine
  m = kernel_machine (paying at.segment.domain k)

  abbrev p : RunningSegment (kernel_machine (paying at.segment.domain k)) t
  p = place_paid k t at ms

  keeps : KeepsRun (surroundings (kernel_machine (paying at.segment.domain k)) (place_paid k t at ms).home.domain) (setting_of (place_paid k t at ms)) t
      (run_of (place_paid k t at ms)) run (Way.Asks request)
  keeps =
      laws.keep (surroundings m p.home.domain) (setting_of p) t (run_of p) run (Way.Asks request)
      (acts_well (paying at.segment.domain k) t (at_paid k t at ms) (tidy_paid k t at ms) (known_paid k t at ms) calm.1) step

  gives : GivesStill k.world.classes (place_paid k t at ms).segment.frames run.frames
  gives =
      step_gives laws.rows (surroundings m p.home.domain) (setting_of p) t (run_of p) run (Way.Asks request)
      (acts_well (paying at.segment.domain k) t (at_paid k t at ms) (tidy_paid k t at ms) (known_paid k t at ms) calm.1) step
      (some_frames k.world.classes run.frames keeps.fits.0.1)

  -- the machine in which it waits, and its place there
  abbrev w : Machine
  w = with_run (place_paid k t at ms) run

  abbrev stood : Segment
  stood = record (place_paid k t at ms).segment { frames = run.frames }

  abbrev goes : RunningSegment (with_run (place_paid k t at ms) run) t
  goes = running_then m t p stood run.inside refl

  waits_there : IsSealedAtCall (with_run (place_paid k t at ms) run) t
  waits_there = waits m t (known_paid k t at ms) p run request keeps gives

  sound_there : HasSoundClasses (with_run (place_paid k t at ms) run)
  sound_there = sound_run m t (known_paid k t at ms) p run (Way.Asks request) keeps

  answered_there : AreCallsAnswered (with_run (place_paid k t at ms) run)
  answered_there = answered m t (known_paid k t at ms) p run request keeps gives

  asks : AsksHere goes request
  asks = asks_here m t (known_paid k t at ms) p run request keeps gives goes

  does_step : (deed : Ran.Deed) (lines : List Line) (new : Machine) → Ran.Ensues (with_run (place_paid k t at ms) run) t (Way.Asks request) deed lines new
      → Steps (kernel_machine k) t lines new
  does_step deed lines new ensues =
      steps_by k t at ms deed lines new (Ran.does p run (Way.Asks request) deed lines new calm.0 calm.1 step ensues)

  -- ---- It is denied.

  module _ (left : LeftBehind) (last : Run) (r : Raise) (unwound : Unwound) (denies : Denies goes request r left.shared (paying at.segment.domain k).shared)
      (raises : RaisesIn (setting_of (place_paid k t at ms)) run r last unwound)
      (becomes : Becomes (contents_at at) left.contents (here_in (paying at.segment.domain k) at.segment) (run_of (place_paid k t at ms)) last)
      (rooms : HasRoomsForLiterals left.contents.own) where
    abbrev now : KernelContent
    now = ran (paying at.segment.domain k) t (at_paid k t at ms) (fit_paid k t at ms) (apart_paid k t at ms) left.contents last becomes

    raises_there : RaisesIn (setting_of goes) (run_of goes) r last unwound
    raises_there =
        raises_alike (setting_of p) (setting_of goes) refl
        (λ i. record { ranges = sym (caps_same m t (known_paid k t at ms) p run (Way.Asks request) keeps) i; stand_ins = [] }) refl run last r unwound raises

    last_is : with_run goes last ≡ with_run (place_paid k t at ms) last
    last_is = runs_on m t p stood run.inside refl goes (record stood { frames = last.frames }) last.inside

    now_is : kernel_machine now ≡ with_run goes last
    now_is =
        is_ran (paying at.segment.domain k) t (at_paid k t at ms) (fit_paid k t at ms) (apart_paid k t at ms) left.contents last becomes ∙ sym last_is

    leads : LeadsWell (kernel_machine now) t unwound
    leads =
        subst (λ (x : Machine). LeadsWell x t unwound) (sym now_is)
        (leads_well (flagged w t goes waits_there sound_there) t (met_there w t goes waits_there sound_there) r
        (subst (λ (x : Machine). MayBeRaised x.classes run.inside.heap r) denies.is
        (fits w t goes waits_there sound_there answered_there request asks (Err r) denies.mid denies.grants run.inside.heap)) w
        (is_met w t goes waits_there sound_there) goes last unwound raises_there)

    tidy_now : AreTidyParts now
    tidy_now =
        kept_tidy (paying at.segment.domain k) t (at_paid k t at ms) left.contents.own (paying at.segment.domain k).shared left.contents.heaps
        left.contents.frames (tidy_paid k t at ms)
        (fit_ran (paying at.segment.domain k) t (at_paid k t at ms) (fit_paid k t at ms) (apart_paid k t at ms) left.contents last becomes) refl
        becomes.inside.rooms rooms

    may_by : (u : Unwound) → LeadsWell (kernel_machine now) t u → MayFollow now (runs t at.segment) (went_of u)
    may_by Unwinding.Caught led = tt
    may_by (Unwinding.Uncaught a) led =
        let q =
        place_ran (paying at.segment.domain k) t (at_paid k t at ms) (fit_paid k t at ms) (apart_paid k t at ms) left.contents last becomes in (
          tidy_now,
          record {
            cross = record { fitting = tidy_now.fitting; sealed = led.sealed; sound = led.sound };
            runs = q;
            left = led.remains.left q;
            thrown = is_thrown (kernel_machine now) t q a led.sealed led.sound (led.remains.throwable q);
          },
        )

    -- what is left shared is as it was
    moves : (P : SharedState → Type 0) → P (paying at.segment.domain k).shared → P left.shared
    moves P h = subst P (sym denies.same) h

    pub denied_follow : MayFollow (with_left at.segment.domain left k) (runs t at.segment) (went_of unwound)
    denied_follow =
        moves
        (λ x. MayFollow (with_left at.segment.domain (record { contents = left.contents; shared = x }) k) (runs t at.segment) (went_of unwound))
        (may_by unwound leads)

    in_mid : (n : ℕ) (lines : List Line) (new : Machine) → RaisesInThread w t r n lines new → Steps (kernel_machine k) t lines new
    in_mid n lines new h =
        does_step (deed_of_raise n) lines new
        (Ran.denies goes request r n lines denies.mid new denies.grants (subst (λ (x : Machine). RaisesInThread x t r n lines new) (sym denies.is) h))

    step_of : (u : Unwound) → RaisesIn (setting_of goes) (run_of goes) r last u → (after : List Line) (new : KernelContent)
        → Follows now t (went_of u) after new → Steps (kernel_machine k) t after (kernel_machine new) × AreKernelParts new
    step_of Unwinding.Caught does after new follows =
        moved k new now t [] after follows.0 follows.1
        (sound_then k t at ms laws.stay [] now tidy_now
        (in_mid 0 [] (kernel_machine now) (subst (RaisesInThread w t r 0 []) (sym now_is) (Thrown.caught goes last does))))
    step_of (Unwinding.Uncaught a) does after new follows =
        sound_then k t at ms laws.stay after new follows.2
        (in_mid follows.0 after (kernel_machine new)
        (Thrown.goes_down goes last a follows.0 after (kernel_machine new) does
        (subst (λ (x : Machine). Throws t follows.0 x a after (kernel_machine new)) now_is follows.1)))

    pub denied_step : (after : List Line) (new : KernelContent) → Follows (with_left at.segment.domain left k) t (went_of unwound) after new
        → Steps (kernel_machine k) t after (kernel_machine new) × AreKernelParts new
    denied_step after new follows =
        step_of unwound raises_there after new
        (subst (λ (x : SharedState). Follows (with_left at.segment.domain (record { contents = left.contents; shared = x }) k) t (went_of unwound) after new)
        denies.same follows)

-- ---- It is granted.

module _ (k : KernelContent) (t : ThreadNo) (at : RunsAt k t) (ms : MayStep k at) (calm : HasNothingPending at.segment) (laws : StepLaws) (run : Run)
    (request : Request) (step : LocalStep (setting_of (place_paid k t at ms)) t (run_of (place_paid k t at ms)) run (Way.Asks request))
    (left : LeftBehind) (top : TopFrame run) (v : Option Value)
    (answers : Answers (paying at.segment.domain k).shared at.segment.domain request (Ok v) left.shared)
    (becomes : Becomes (contents_at at) left.contents (here_in (paying at.segment.domain k) at.segment) (run_of (place_paid k t at ms))
    (with_frame top.callers (resumed v top.frame) run.inside)) (rooms : HasRoomsForLiterals left.contents.own) where
  abbrev on_run : Run
  on_run = with_frame top.callers (resumed v top.frame) run.inside

  -- the parts where it has gone on, and what domains share is as it was
  abbrev went_on_parts : KernelContent
  went_on_parts = ran (paying at.segment.domain k) t (at_paid k t at ms) (fit_paid k t at ms) (apart_paid k t at ms) left.contents on_run becomes

  fit_on : AreFittingParts (parts_of went_on_parts)
  fit_on = fit_ran (paying at.segment.domain k) t (at_paid k t at ms) (fit_paid k t at ms) (apart_paid k t at ms) left.contents on_run becomes

  allows : Allows (goes k t at ms calm laws run request step) request v (kernel_machine (with_left at.segment.domain left k))
  allows =
      granted_so k t at ms run (waits_there k t at ms calm laws run request step) (sound_there k t at ms calm laws run request step) top.callers top.frame
      top.are_frames v went_on_parts.owns left.contents.heaps left.contents.frames fit_on.domains
      (is_ran (paying at.segment.domain k) t (at_paid k t at ms) (fit_paid k t at ms) (apart_paid k t at ms) left.contents on_run becomes) request
      left.shared answers

  tidy_on : AreTidyParts went_on_parts
  tidy_on =
      kept_tidy (paying at.segment.domain k) t (at_paid k t at ms) left.contents.own (paying at.segment.domain k).shared left.contents.heaps
      left.contents.frames (tidy_paid k t at ms) fit_on refl becomes.inside.rooms rooms

  abbrev s : SharedState
  s = (paying at.segment.domain k).shared

  abbrev classes : List ClassRecord
  classes = k.world.classes

  -- over what domains share else
  abbrev over : SharedState → KernelContent
  over shared = record went_on_parts { shared = shared }

  -- the class of an object for which a capability is created has a stub
  module _ (class : ClassId) (target : ℕ) (known : IsOfClass run.inside.heap target class × ImplementsRemote k.world.classes class) where
    abbrev around : Surroundings
    around = surroundings (kernel_machine (paying at.segment.domain k)) (place_paid k t at ms).home.domain

    object : IsSealedObject (surroundings (kernel_machine (paying at.segment.domain k)) (place_paid k t at ms).home.domain) run.inside.heap
        (Plain class known.0.0)
    object =
        (keeps k t at ms calm laws run request step).inside.sealed.objects (named target (Plain class known.0.0))
        (stands run.inside.heap target (Plain class known.0.0) known.0.1)

    there : (r : ClassRecord) × (record_of k.world.classes class ≡ Some r)
    there =
        let sound = (known_paid k t at ms).1 in
        let d = (place_paid k t at ms).home.domain in
        let found = (sound.tables d (Contains-at (kernel_machine (paying at.segment.domain k)).domains at.segment.domain.0 d
        (place_paid k t at ms).home.is_domain)).closed class object.0 in
        (found.0, found.1)

    stub_there : (stub : Stub) × (stub_for (paying at.segment.domain k).shared class ≡ Some stub)
    stub_there = by there.0.home refl
      where
        by : (home : Option DomainId) → there.0.home ≡ home → (stub : Stub) × (stub_for (paying at.segment.domain k).shared class ≡ Some stub)
        by None is =
            let sound = (known_paid k t at ms).1 in
            let low = sound.codes.of_system class there.0 there.1 is in
            absurd (object.4 (remote_alone classes sound.codes class low known.1))
        by (Some d) is =
            (fit_paid k t at ms).stubs.all class there.0 there.1
            (λ none. let both : None ≡ Some d = sym none ∙ is in cc) known.1

  listed : (e : SharedDomain) → domain_numbered (paying at.segment.domain k).shared at.segment.domain ≡ Some e
      → Contains (paying at.segment.domain k).shared.domains e
  listed e is =
      let found = subst (Finds (λ (x : SharedDomain). x.number.0 == at.segment.domain.0) s.domains) is
      (finds (λ (x : SharedDomain). x.number.0 == at.segment.domain.0) s.domains) in
      Contains-at s.domains found.0 e found.1

  fits_named : (names : List BoundName) → AreFittingParts (parts_of (over (record (paying at.segment.domain k).shared { names = names })))
  fits_named names =
      fits_again (parts_of went_on_parts) fit_on (parts_of went_on_parts).owns (record s { names = names }) left.contents.heaps left.contents.frames
      (same_shared s (record s { names = names }) refl refl) (same_owns (parts_of went_on_parts).owns) (λ e. refl) (λ e. refl) fit_on.used.words
      fit_on.used.chunks (record { each = fit_on.segments.each; no_others = fit_on.segments.no_others }) fit_on.calm

  created_stubs : (class : ClassId) (target : ℕ) (known : IsOfClass run.inside.heap target class × ImplementsRemote k.world.classes class)
      (e : SharedDomain) → domain_numbered (paying at.segment.domain k).shared at.segment.domain ≡ Some e → (answer : Result CapId Raise)
      (range : CapRange) → Creates e.caps class target answer range → (c : Capability) → Contains range.made c
      → (stub : Stub) × (stub_for (paying at.segment.domain k).shared c.class ≡ Some stub)
  created_stubs class target known e is answer range (Creates.used_up full) c in_it = (fit_paid k t at ms).stubs.made e c (listed e is) in_it
  created_stubs class target known e is answer range (Creates.has_room few) c in_it =
      elim (Contains-append_cases e.caps.made (record { target = target; class = class; revoked = false } ∷ []) c in_it) [
        | inl old ↦ (fit_paid k t at ms).stubs.made e c (listed e is) old
        | inr last ↦ elim (Contains-cases c (record { target = target; class = class; revoked = false }) [] last) [
          | inl same ↦
              subst (λ (x : Capability). (stub : Stub) × (stub_for (paying at.segment.domain k).shared x.class ≡ Some stub)) same
              (stub_there class target known)
          | inr none ↦ absurd (Contains-none c none)
        ]
      ]

  revoked_stubs : (cap : CapId) (e : SharedDomain) → domain_numbered (paying at.segment.domain k).shared at.segment.domain ≡ Some e
      → (answer : Result (Unit {0}) Raise) (range : CapRange) → Revokes e.caps cap answer range → (c : Capability) → Contains range.made c
      → (stub : Stub) × (stub_for (paying at.segment.domain k).shared c.class ≡ Some stub)
  revoked_stubs cap e is answer range (Revokes.of_another other) c in_it = (fit_paid k t at ms).stubs.made e c (listed e is) in_it
  revoked_stubs cap e is answer range (Revokes.own own) c in_it =
      let was = revoked_class e.caps.made (cap.0 - e.caps.first) c in_it in
      let had = (fit_paid k t at ms).stubs.made e was.0 (listed e is) was.1 in
      (had.0, ap (stub_for s) was.2 ∙ had.1)

  fits_over : (asked : Request) (granted : Granted) (after : SharedState)
      → Answers (paying at.segment.domain k).shared at.segment.domain asked granted after
      → IsKnownRequest (surroundings (kernel_machine (paying at.segment.domain k)) (place_paid k t at ms).home.domain) run.inside.heap asked
      → AreFittingParts (parts_of (over after)) × (after.stubs ≡ k.shared.stubs)
  fits_over asked granted after (creates e class target answer range is does) known =
      (fits_ranged (parts_of went_on_parts) fit_on at.segment.domain range (created_stubs class target known e is answer range does), refl)
  fits_over asked granted after (revokes e cap answer range is does) known =
      (fits_ranged (parts_of went_on_parts) fit_on at.segment.domain range (revoked_stubs cap e is answer range does), refl)
  fits_over asked granted after (binds e text cap answer names is does) known = (fits_named names, refl)
  fits_over asked granted after (looks_up text found is) known = (fit_on, refl)
  fits_over asked granted after (unbinds text answer names does) known = (fits_named names, refl)
  fits_over asked granted after (suspends n new is) known =
      subst (λ (x : SharedState). AreFittingParts (parts_of (over x)) × (x.stubs ≡ k.shared.stubs)) (sym is)
      (fits_flagged n (with_suspended true) (λ x. refl) (λ x. refl) (parts_of went_on_parts) fit_on, refl)
  fits_over asked granted after (resumes n new is) known =
      subst (λ (x : SharedState). AreFittingParts (parts_of (over x)) × (x.stubs ≡ k.shared.stubs)) (sym is)
      (fits_flagged n (with_suspended false) (λ x. refl) (λ x. refl) (parts_of went_on_parts) fit_on, refl)
  fits_over asked granted after (stops n new is) known =
      subst (λ (x : SharedState). AreFittingParts (parts_of (over x)) × (x.stubs ≡ k.shared.stubs)) (sym is)
      (fits_flagged n (with_stop true) (λ x. refl) (λ x. refl) (parts_of went_on_parts) fit_on, refl)

  pub tidy_granted : AreTidyParts (with_left at.segment.domain left k)
  tidy_granted =
      let fit = fits_over request (Ok v) left.shared answers (keeps k t at ms calm laws run request step).fits.1.1.known in
      record {
        fitting = fit.0;
        world = tidy_on.world;
        few_classes = tidy_on.few_classes;
        rooms = tidy_on.rooms;
        main = tidy_on.main;
        stubs = λ x there. tidy_on.stubs x (subst (λ (ss : List Stub). Contains ss x) fit.1 there);
      }

  pub granted_step : (after : List Line) (new : KernelContent) → Follows (with_left at.segment.domain left k) t Goes.GoesOn after new
      → Steps (kernel_machine k) t after (kernel_machine new) × AreKernelParts new
  granted_step after new follows =
      moved k new (with_left at.segment.domain left k) t [] after follows.0 follows.1
      (sound_then k t at ms laws.stay [] (with_left at.segment.domain left k) tidy_granted
      (does_step k t at ms calm laws run request step (deed_of_request request) [] (kernel_machine (with_left at.segment.domain left k))
      (Ran.grants (goes k t at ms calm laws run request step) request v allows.mid (kernel_machine (with_left at.segment.domain left k)) allows.grants
      allows.takes.place allows.takes.receives)))

pub asks_so : (k : KernelContent) (t : ThreadNo) (at : RunsAt k t) (ms : MayStep k at) → HasNothingPending at.segment → StepLaws → (left : LeftBehind)
    → AsksSo k t at ms left
asks_so k t at ms calm laws left = record {
  granted = λ run top request v step answers becomes rooms after new follows.
      granted_step k t at ms calm laws run request step left top v answers becomes rooms after new follows;
  denied = λ run last request r unwound step answers raises becomes rooms.
      denied_follow k t at ms calm laws run request step left last r unwound
      (denied_so k t at ms run request r left.shared answers (waits_there k t at ms calm laws run request step)
      (sound_there k t at ms calm laws run request step)) raises becomes rooms;
  denied_step = λ run last request r unwound step answers raises becomes rooms after new follows.
      denied_step k t at ms calm laws run request step left last r unwound
      (denied_so k t at ms run request r left.shared answers (waits_there k t at ms calm laws run request step)
      (sound_there k t at ms calm laws run request step)) raises becomes rooms after new follows;
}
