-- Each thread of a machine of which all is known has a step: it isn't live, or is held, or its domain has no step left; or it acts.
use Rattle.std.proofs.Common.{inl, inr, ◌≡◌, ◌≢◌, ◌-◌, ◌==◌, ℕ, zero, suc, Bool, true, false, cond, List, [], ◌∷◌, Contains, Option, Some, None, Ok, Err, refl, sym, ap, subst, ◌∙◌, arith}
use Rattle.std.specs.Option.{option_map}
use Rattle.std.proofs.lemmas.Option.{none-some, same_Some}
use Rattle.jk_model.specs.declared.identifiers.CapId.{CapId}
use Rattle.jk_model.specs.declared.identifiers.DomainId.{DomainId}
use Rattle.jk_model.specs.declared.identifiers.MemberId.{MemberId}
use Rattle.jk_model.specs.declared.identifiers.ThreadNo.{ThreadNo}
use Rattle.jk_model.specs.declared.output.Line.{Line}
use Rattle.jk_model.specs.declared.output.Line.TheVariants.{Said}
use Rattle.jk_model.specs.declared.steps.Raise.{Raise}
use Rattle.jk_model.specs.declared.steps.Raise.TheVariants as Raised
use Rattle.jk_model.specs.declared.steps.Standing.{Standing}
use Rattle.jk_model.specs.declared.steps.Standing.TheVariants as Stands
use Rattle.jk_model_heaps.specs.Capabilities.{CapRange, IsGivenOut}
use Rattle.jk_model_heaps.specs.Workings.{Inside, Request, Run}
use Rattle.jk_model_running.specs.Ways.{Asks, Crosses, Ended, GoesOn, Left, Says, Terminates, Went}
use Rattle.jk_model_sealing.specs.SealedInsides.{Surroundings}
use Rattle.jk_model_sharing.specs.Answers.{Granted}
use Rattle.jk_model_sharing.specs.Segments.{SharedSegment, with_revoked, with_stop}
use Rattle.jk_model_machine_state.specs.Machines.{DomainState, IsLiveDomain, Machine, Segment, Thread, caps_of, paid, thread_numbered}
use Rattle.jk_model_machine_state.specs.Places.{RunningSegment, run_of, setting_of, with_flags, with_run}
use Rattle.jk_model_crossings.specs.Requests.{Grants}
use Rattle.jk_model_crossings.specs.RemoteCalls.{Refuses, RemoteCall}
use Rattle.jk_model_crossings.specs.Throwing.{RaisesInThread}
use Rattle.jk_model_runs.specs.Events.{IsWhole}
use Rattle.jk_model_runs.specs.Sealed.{IsSealedSegment, SegmentsFit, TopFits, surroundings}
use Rattle.jk_model_runs.specs.Steps.{Acts, Deed, Ensues, Entered, EndedDomain, IsHeld, LeftSegments, Steps, StepsBy, Waits, Worked, deed_of_raise, deed_of_request}
use Rattle.list_lemmas.proofs.FoundItems.{Finds, finds}
use Rattle.list_lemmas.proofs.ItemsByPlace.{mapped_at}
use Rattle.list_lemmas.proofs.ItemsOfLists.{Contains-at}
use Rattle.list_lemmas.proofs.LastItems.{last_of}
use Rattle.heap_laws.specs.FittingOutcomes.{StandsAtCrossing}
use Rattle.heap_laws.specs.RaisableObjects.{IsThrowable}
use Rattle.row_laws.specs.HeapRowLaws.{HeapRowsKeep}
use Rattle.row_laws.specs.KeptRuns.{ActsWell, KeepsRun}
use Rattle.row_laws.specs.LocalStepLaws.{LocalStepsAreThere, LocalStepsKeep}
use Rattle.row_laws.proofs.CallsFound.{types_count}
use Rattle.machine_laws.specs.KnownMachines.{IsKnownMachine}
use Rattle.machine_laws.specs.RunsInMachines.{GivesStill}
use Rattle.machine_laws.specs.SoundMachines.{HasSoundClasses}
use Rattle.machine_laws.proofs.CallsFound.{call_decided}
use Rattle.machine_laws.proofs.LowestFramesStay.{step_gives}
use Rattle.machine_laws.proofs.PaidSteps.{known_paid}
use Rattle.machine_laws.proofs.RaisesSealed.{flagged, is_met, met_there}
use Rattle.machine_laws.proofs.RaisesWhereMet.{meets_at, some_frames}
use Rattle.machine_laws.proofs.RequestsGranted.{ends_there, grants_there}
use Rattle.machine_laws.proofs.RequestsKnown.{fits, frames_same, given, kept, mid_sound}
use Rattle.machine_laws.proofs.ReturnsFound.{received, returns_there}
use Rattle.machine_laws.proofs.RunningSegmentsFit.{acts_well, lower_fit}
use Rattle.machine_laws.proofs.RunsAgain.{inside_there, running_then, runs_there}
use Rattle.machine_laws.proofs.SealedAfterRuns.{left_sealed}
use Rattle.machine_laws.proofs.SegmentsRunAgain.{EndsSo}
use Rattle.machine_laws.proofs.StepsAllKnown.{answered, asks_here, waits}
use Rattle.machine_laws.proofs.StepsKnown.{caps_same, refusal, sound, taken, whole}
use Rattle.machine_laws.proofs.StepsThatCross.{IsAtCrossing, crosses_at, stands_at}
use Rattle.machine_laws.proofs.ThrowablesSealed.{HasThrown}
use Rattle.machine_laws.proofs.ThrowsFound.{raises_found, throws_there}
use Rattle.machine_laws.proofs.TopSegmentsTaken.{inside_stays, segments_stay}
use Rattle.machine_laws.proofs.WaitsDecided.{waits_or_not}

-- ---- The running segment of a live thread.

module _ (m : Machine) (known : IsKnownMachine m) (t : ThreadNo) (thread : Thread) (is : thread_numbered m t ≡ Some thread) where
  thread_there : Contains m.threads thread
  thread_there =
      let at = subst (Finds (λ (e : Thread). e.number.0 == t.0) m.threads) is (finds (λ (e : Thread). e.number.0 == t.0) m.threads) in
      Contains-at m.threads at.0 thread at.1

  running_by : (segments : List Segment) → thread.segments ≡ segments → RunningSegment m t
  running_by [] none = absurd (subst (SegmentsFit m) none (known.0.0.threads.segments thread thread_there))
  running_by (s ∷ segments) are =
      let f = last_of s segments in
      let fitting : IsSealedSegment m (λ inside g. TopFits m inside f.1 g) f.1 =
      lower_fit m f.0 f.1 (subst (SegmentsFit m) (are ∙ f.2) (known.0.0.threads.segments thread thread_there)) in
      record { thread = thread; is_thread = is; lower = f.0; segment = f.1; are_segments = are ∙ f.2; home = fitting.home }

  running : RunningSegment m t
  running = running_by thread.segments refl

-- ---- A step is paid.

module _ {m : Machine} {t : ThreadNo} (p : RunningSegment m t) where
  abbrev d : DomainId
  d = p.segment.shared.domain

  abbrev fewer : Option ℕ → Option ℕ
  fewer o = option_map (λ (n : ℕ). n - 1) o

  abbrev pays : DomainState → DomainState
  pays e = cond (e.number.0 == d.0) (record e { steps_left = fewer e.steps_left }) e

  number_by : (b : Bool) (e : DomainState) → (cond b (record e { steps_left = fewer e.steps_left }) e).number ≡ e.number
  number_by true e = refl
  number_by false e = refl

  inside_by : (b : Bool) (e : DomainState) → (cond b (record e { steps_left = fewer e.steps_left }) e).inside ≡ e.inside
  inside_by true e = refl
  inside_by false e = refl

  abbrev paid_place : RunningSegment (paid d m) t
  paid_place = record {
    thread = p.thread;
    is_thread = p.is_thread;
    lower = p.lower;
    segment = p.segment;
    are_segments = p.are_segments;
    home = record {
      domain = pays p.home.domain;
      is_domain = mapped_at pays m.domains d.0 p.home.domain p.home.is_domain;
      numbered = number_by (p.home.domain.number.0 == d.0) p.home.domain ∙ p.home.numbered;
      inside = p.home.inside;
      is_inside = inside_by (p.home.domain.number.0 == d.0) p.home.domain ∙ p.home.is_inside;
    };
  }

-- ---- It acts.

abbrev Acting : Machine → ThreadNo → Type 0
Acting m t = (deed : Deed) × (lines : List Line) × (new : Machine) × Acts m t deed lines new

abbrev Following : Machine → ThreadNo → Went → Type 0
Following m t went = (deed : Deed) × (lines : List Line) × (new : Machine) × Ensues m t went deed lines new

lives : (m : Machine) (t : ThreadNo) (p : RunningSegment m t) → IsLiveDomain p.home.domain
lives m t p =
    ap (λ (o : Option Inside). elim o as (λ _. Bool) [ Some i ↦ true | None ↦ false ]) p.home.is_inside

module _ (m : Machine) (t : ThreadNo) (known : IsKnownMachine m) (p : RunningSegment m t) where
  abbrev around : Surroundings
  around = surroundings m p.home.domain

  -- ---- By a flag: something is raised.

  flag_raises : (shared : SharedSegment) → shared.number ≡ p.segment.shared.number → shared.domain ≡ p.segment.shared.domain → (s : Standing)
      → EndsSo (λ n lines new. RaisesInThread (with_flags p shared) t (Raised.Standing s) n lines new)
  flag_raises shared number domain s =
      raises_found m t (meets_at m t known.0.0 known.1 p (record p.segment { shared = shared }) number domain refl) (Raised.Standing s) tt
      (with_flags p shared) refl

  -- ---- By itself.

  module _ (run : Run) where
    abbrev ran : Segment
    ran = record p.segment { frames = run.frames }

    abbrev goes : RunningSegment (with_run p run) t
    goes = running_then m t p ran run.inside refl

    module _ (k : CapId) (method : MemberId) (keeps : KeepsRun around (setting_of p) t (run_of p) run (Crosses k method))
        (crossing : IsAtCrossing m.classes run (Crosses k method)) (then : IsWhole (with_run p run)) where
      there_sound : HasSoundClasses (with_run p run)
      there_sound = sound m t known p run (Crosses k method) keeps

      abbrev stands : StandsAtCrossing around run.inside.heap keeps.fits.1.0.frame k method
      stands = keeps.fits.1.1

      given_there : IsGivenOut (caps_of (with_run p run)) k
      given_there =
          subst (λ (caps : List CapRange). IsGivenOut caps k) (sym (caps_same m t known p run (Crosses k method) keeps)) stands.given_out

      abbrev call : RemoteCall (with_run p run) t
      call = record {
        place = goes;
        capability = k;
        method = method;
        named = stands.method;
        is_named = stands.is_method;
        callers = keeps.fits.1.0.callers;
        frame = keeps.fits.1.0.frame;
        are_frames = keeps.fits.1.0.are_frames;
        below = stands.below;
        given = stands.given;
        as_many = types_count around run.inside.heap stands.method.params stands.given stands.arguments;
        stack = stands.stack;
        known = given_there.0;
        is_known = given_there.1;
      }

      refused : (r : Raise) → Refuses call r → Following (with_run p run) t (Crosses k method)
      refused r refuses =
          let raised =
          raises_found (with_run p run) t (meets_at (with_run p run) t then.0 there_sound goes goes.segment refl refl refl) r
          (refusal (with_run p run) there_sound run.inside.heap t call r refuses) (with_run p run)
          (λ i. record (with_run p run) {
            domains = sym (inside_stays (with_run p run) p.segment.shared.domain then.0.domains.numbered goes.home.domain goes.home.inside
                goes.home.is_domain goes.home.is_inside) i;
            threads = sym (segments_stay (with_run p run) t then.0.threads.rise goes) i;
          }) in
          (deed_of_raise raised.0, raised.1, raised.2, Ensues.is_refused k method call r raised.0 raised.1 raised.2 refl refl refuses raised.3)

      crosses_there : Following (with_run p run) t (Crosses k method)
      crosses_there = elim (call_decided (with_run p run) t then.0 there_sound call (stands_at m t p run call method refl crossing)) [
        | inl (new, enters) ↦ (Entered k method, [], new, Ensues.enters k method call new refl refl enters)
        | inr (r, refuses) ↦ refused r refuses
      ]

    module _ (request : Request) (keeps : KeepsRun around (setting_of p) t (run_of p) run (Asks request))
        (gives : GivesStill m.classes p.segment.frames run.frames) where
      granted_there : (granted : Granted) (mid : Machine) → Grants goes request granted mid → Following (with_run p run) t (Asks request)
      granted_there (Ok v) mid grants =
          let w = waits m t known p run request keeps gives in
          let s = sound m t known p run (Asks request) keeps in
          let a = answered m t known p run request keeps gives in
          let asks = asks_here m t known p run request keeps gives goes in
          let q = (kept (with_run p run) t goes w s a request asks (Ok v) mid grants).place in
          let r = received mid t q q.home.inside.heap v asks.callers asks.caller
          (frames_same (with_run p run) t goes w s a request asks (Ok v) mid grants q) in
          (deed_of_request request, [], r.0, Ensues.grants goes request v mid r.0 grants q r.1)
      granted_there (Err r) mid grants =
          let w = waits m t known p run request keeps gives in
          let s = sound m t known p run (Asks request) keeps in
          let a = answered m t known p run request keeps gives in
          let asks = asks_here m t known p run request keeps gives goes in
          let q = (kept (with_run p run) t goes w s a request asks (Err r) mid grants).place in
          let g = given (with_run p run) t goes w s a request asks (Err r) mid grants in
          let ms = mid_sound (with_run p run) t goes w s a request asks (Err r) mid grants in
          let raised =
          raises_found (flagged mid t q g ms) t (met_there mid t q g ms) r
          (fits (with_run p run) t goes w s a request asks (Err r) mid grants q.home.inside.heap) mid (is_met mid t q g ms) in
          (deed_of_raise raised.0, raised.1, raised.2, Ensues.denies goes request r raised.0 raised.1 mid raised.2 grants raised.3)

      asks_there : Following (with_run p run) t (Asks request)
      asks_there =
          let g = grants_there (with_run p run) t goes request in
          granted_there g.0 g.1 g.2

    follows : (went : Went) → KeepsRun around (setting_of p) t (run_of p) run went → IsAtCrossing m.classes run went
        → (run.frames ≢ [] → GivesStill m.classes p.segment.frames run.frames) → Following (with_run p run) t went
    follows GoesOn keeps crossing gives = (Worked, [], with_run p run, Ensues.goes_on)
    follows (Says text) keeps crossing gives = (Worked, Said p.home.domain.name text ∷ [], with_run p run, Ensues.says goes text)
    follows (Ended v) keeps crossing gives =
        let f = keeps.fits in
        let r =
        returns_there (with_run p run) t goes v (left_sealed m t p run (Ended v) known.0.0 keeps f.0) (sound m t known p run (Ended v) keeps) f.0
        (taken m t known p run (Ended v) keeps f.0 v f.1.0 f.1.1 f.1.2) in
        (LeftSegments r.0, r.1, r.2, Ensues.ended v r.0 r.1 r.2 r.3)
    follows (Left a) keeps crossing gives =
        let f = keeps.fits in
        let thrown : HasThrown (with_run p run) t a =
        record {
          left = λ s. ap (λ (x : Segment). x.frames) (runs_there m t p ran run.inside refl s).1 ∙ f.0;
          throwable = λ s.
              subst (λ (i : Inside). IsThrowable m.classes i.heap a) (sym (inside_there m t p ran run.inside refl s)) f.1;
        } in
        let r =
        throws_there (with_run p run) t a (left_sealed m t p run (Left a) known.0.0 keeps f.0) (sound m t known p run (Left a) keeps) goes thrown in
        (LeftSegments r.0, r.1, r.2, Ensues.left a r.0 r.1 r.2 r.3)
    follows (Crosses k method) keeps crossing gives =
        let on = keeps.fits.0 in
        crosses_there k method keeps crossing
        (whole m t known p run (Crosses k method) keeps on (gives (some_frames m.classes run.frames on.1)))
    follows (Asks request) keeps crossing gives =
        asks_there request keeps (gives (some_frames m.classes run.frames keeps.fits.0.1))
    follows Terminates keeps crossing gives =
        let e = ends_there (with_run p run) goes.home.domain (lives (with_run p run) t goes) in
        (EndedDomain goes.home.domain.number, e.0, e.1, Ensues.terminates goes e.0 e.1 e.2)

module _ (rows : HeapRowsKeep) (there : LocalStepsAreThere) (keep : LocalStepsKeep) (m : Machine) (t : ThreadNo) (known : IsKnownMachine m)
    (p : RunningSegment m t) where
  does_there : p.segment.shared.stop ≡ false → p.segment.shared.revoked ≡ false → (Waits p → ⊥) → Acting m t
  does_there stop revoked free =
      let acts : ActsWell (surroundings m p.home.domain) (setting_of p) t (run_of p) = acts_well m t p known revoked in
      elim (there (surroundings m p.home.domain) (setting_of p) t (run_of p) acts) [
        | inl waits ↦ absurd (free waits)
        | inr (run, went, step) ↦
            let next =
            follows m t known p run went (keep (surroundings m p.home.domain) (setting_of p) t (run_of p) run went acts step)
            (crosses_at rows (setting_of p) p.home.domain.table (caps_of m) t (run_of p) run went acts step)
            (step_gives rows (surroundings m p.home.domain) (setting_of p) t (run_of p) run went acts step) in
            (next.0, next.1, next.2, Acts.does p run went next.0 next.1 next.2 stop revoked step next.3)
      ]

  by_revoked : p.segment.shared.stop ≡ false → (Waits p → ⊥) → (revoked : Bool) → p.segment.shared.revoked ≡ revoked → Acting m t
  by_revoked stop free true revoked =
      let raised = flag_raises m t known p (with_revoked false p.segment.shared) refl refl Stands.Revoked in
      (deed_of_raise raised.0, raised.1, raised.2, Acts.is_revoked p raised.0 raised.1 raised.2 stop revoked raised.3)
  by_revoked stop free false revoked = does_there stop revoked free

  by_stop : (Waits p → ⊥) → (stop : Bool) → p.segment.shared.stop ≡ stop → Acting m t
  by_stop free true stop =
      let raised = flag_raises m t known p (with_stop false p.segment.shared) refl refl Stands.ThreadDeath in
      (deed_of_raise raised.0, raised.1, raised.2, Acts.stops p raised.0 raised.1 raised.2 stop raised.3)
  by_stop free false stop = by_revoked stop free p.segment.shared.revoked refl

  acts_there : (Waits p → ⊥) → Acting m t
  acts_there free = by_stop free p.segment.shared.stop refl

-- ---- A step.

module _ (rows : HeapRowsKeep) (there : LocalStepsAreThere) (keep : LocalStepsKeep) (m : Machine) (t : ThreadNo) (known : IsKnownMachine m) where
  abbrev Stepping : Type 0
  Stepping = (lines : List Line) × (new : Machine) × Steps m t lines new

  module _ (p : RunningSegment m t) where
    never_held : p.segment.shared.suspended ≡ false → (Waits p → ⊥) → IsHeld p → ⊥
    never_held on free (inl suspended) = let both : true ≡ false = sym suspended ∙ on in cc
    never_held on free (inr waits) = free waits

    acting : (IsHeld p → ⊥) → (Waits p → ⊥) → p.home.domain.steps_left ≢ Some 0 → Stepping
    acting free ready rich =
        let done =
        acts_there rows there keep (paid p.segment.shared.domain m) t (known_paid m p.segment.shared.domain known) (paid_place p) ready in
        (done.1, done.2, (done.0, StepsBy.acts p done.0 done.1 done.2 free rich done.3))

    by_budget : (IsHeld p → ⊥) → (Waits p → ⊥) → (o : Option ℕ) → p.home.domain.steps_left ≡ o → Stepping
    by_budget free ready (Some zero) is = ([], m, (Deed.Rested, StepsBy.is_spent p free is))
    by_budget free ready (Some (suc n)) is =
        acting free ready (λ spent. let both : suc n ≡ 0 = same_Some (suc n) 0 (sym is ∙ spent) in absurd (omega (arith, both)))
    by_budget free ready None is = acting free ready (λ spent. none-some 0 (sym is ∙ spent))

    held : IsHeld p → Stepping
    held is = ([], m, (Deed.Rested, StepsBy.is_held p is))

    by_suspended : (suspended : Bool) → p.segment.shared.suspended ≡ suspended → Stepping
    by_suspended true is = held (inl is)
    by_suspended false is = elim (waits_or_not m t p known) [
      | inl waits ↦ held (inr waits)
      | inr free ↦ by_budget (never_held is free) free p.home.domain.steps_left refl
    ]

  by_thread : (o : Option Thread) → thread_numbered m t ≡ o → Stepping
  by_thread None is =
      ([], m, (Deed.Rested, StepsBy.not_live (λ (thread, found). none-some thread (sym is ∙ found))))
  by_thread (Some thread) is = let p = running m known t thread is in by_suspended p p.segment.shared.suspended refl

  pub step_there : (lines : List Line) × (new : Machine) × Steps m t lines new
  step_there = by_thread (thread_numbered m t) refl
