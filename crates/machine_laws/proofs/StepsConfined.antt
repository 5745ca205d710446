-- A step changes no more than its deed says, by its case.
use Rattle.std.proofs.Common.{◌≡◌, ℕ, zero, suc, ◌≤◌, List, [], Option, Ok, Err, false, refl, sym, ap, subst, ◌∙◌, arith}
use Rattle.std.proofs.lemmas.Option.{same_Some}
use Rattle.jk_model.specs.declared.identifiers.SegmentNo.{SegmentNo}
use Rattle.jk_model.specs.declared.identifiers.ThreadNo.{ThreadNo}
use Rattle.jk_model.specs.declared.output.Line.{Line}
use Rattle.jk_model.specs.declared.steps.Raise.{Raise}
use Rattle.jk_model.specs.declared.steps.Raise.TheVariants as Raised
use Rattle.jk_model.specs.declared.steps.Standing.TheVariants as Stands
use Rattle.jk_model.specs.declared.values.Value.{Value}
use Rattle.jk_model_domains.specs.Objects.{object_named}
use Rattle.jk_model_heaps.specs.Workings.{Inside, Request, Run}
use Rattle.jk_model_heaps.specs.Workings.{Binds as AsksToBind, Creates as AsksToCreate, LooksUp as AsksToLookUp, Resumes as AsksToResume, Revokes as AsksToRevoke, Stops as AsksToStop, Suspends as AsksToSuspend, Unbinds as AsksToUnbind}
use Rattle.jk_model_running.specs.Ways.{Asks, Went}
use Rattle.jk_model_sharing.specs.Segments.{SharedSegment, with_revoked, with_stop}
use Rattle.jk_model_machine_state.specs.Machines.{Machine, Segment, paid}
use Rattle.jk_model_machine_state.specs.Places.{RunningSegment, run_of, setting_of, with_flags, with_run}
use Rattle.jk_model_crossings.specs.Answers.{Receives}
use Rattle.jk_model_crossings.specs.Requests.{Grants}
use Rattle.jk_model_crossings.specs.Throwing.{RaisesInThread, Throws}
use Rattle.jk_model_runs.specs.Confined.{Confined}
use Rattle.jk_model_runs.specs.Sealed.{surroundings}
use Rattle.jk_model_runs.specs.Steps.{Acts, Deed, Ensues, Flagged, Rested, StepsBy, Worked, deed_of_raise, deed_of_request}
use Rattle.heap_laws.specs.RaisableObjects.{IsThrowable, MayBeRaised}
use Rattle.row_laws.specs.HeapRowLaws.{HeapRowsKeep}
use Rattle.row_laws.specs.KeptRuns.{KeepsRun}
use Rattle.row_laws.proofs.StepsKept.{step_kept}
use Rattle.machine_laws.specs.KnownMachines.{IsKnownMachine}
use Rattle.machine_laws.specs.SoundMachines.{HasSoundClasses, IsSealedAtCall}
use Rattle.machine_laws.proofs.ConfinedCalls.{call_changes}
use Rattle.machine_laws.proofs.ConfinedEnds.{end_changes}
use Rattle.machine_laws.proofs.ConfinedFlags.{FlagsOf, asked_flags, flag_changes}
use Rattle.machine_laws.proofs.ConfinedRequests.{IsQuiet, granted_here}
use Rattle.machine_laws.proofs.ConfinedThrows.{raises_well, returns_well, throws_well}
use Rattle.machine_laws.proofs.DeniedRequests.{denied, refused_may}
use Rattle.machine_laws.proofs.FallsSoFar.{falls_from, left_changes}
use Rattle.machine_laws.proofs.PaidSoFar.{flagged_so, of_old, payer, pays, ran_so, receives_so}
use Rattle.machine_laws.proofs.PaidSteps.{known_paid}
use Rattle.machine_laws.proofs.RaisesSealed.{flagged, is_met, met_there}
use Rattle.machine_laws.proofs.RaisesWhereMet.{IsMet, meets_at, met}
use Rattle.machine_laws.proofs.RanInSteps.{ChangesHere, confined_by, thread_same, unchanged}
use Rattle.machine_laws.proofs.RunningSegmentsFit.{acts_well}
use Rattle.machine_laws.proofs.RunsAgain.{inside_there, of_home, running_then, runs_on, runs_there}
use Rattle.machine_laws.proofs.SealedAfterRuns.{left_sealed, running_sealed}
use Rattle.machine_laws.proofs.WaitingRuns.{waiting_sealed}
use Rattle.machine_laws.proofs.WorkedSoFar.{WorkedSo, worked_changes, works_on}
use Rattle.machine_laws.proofs.WorldsKept.{running_keeps, sound_classes_stay}

-- a throwable leaves one segment or more
throws_some : (t : ThreadNo) (n : ℕ) (m : Machine) (a : ℕ) (lines : List Line) (new : Machine) → Throws t n m a lines new → 1 ≤ n
throws_some t n m a lines new (Throws.ends w b p class lowest orphan) = omega arith
throws_some t n m a lines new (Throws.ends_orphan w b p lowest orphan) = omega arith
throws_some t n m a lines new (Throws.drops w b s orphan) = omega arith
throws_some t n m a lines new (Throws.caught w mid b s r orphan brought p run raised) = omega arith
throws_some t n m a lines new (Throws.goes_on k w mid end b c said s r orphan brought p run raised thrown) = omega arith

module _ (m : Machine) (t : ThreadNo) (p : RunningSegment m t) where
  abbrev Changes : Deed → Machine → Type 0
  Changes deed new = ChangesHere (record { machine = m; thread = t; deed = deed }) p.segment.shared.domain p new

  rest_changes : Changes Rested m
  rest_changes = record {
    domains = λ e old after differ at there.
        unchanged (record { machine = m; thread = t; deed = Rested }) old after (same_Some after old (sym there ∙ at));
    names = refl;
    threads = λ u old differ at. thread_same (λ a b. b ≡ a) (λ ss. refl) m m u old at refl;
    own_thread = thread_same (λ a b. b ≡ a) (λ ss. refl) m m t p.thread p.is_thread refl;
    no_more = λ u differ lives. lives;
    own_end = λ e is. absurd cc;
  }

  -- ---- What is raised is caught, or leaves segments.

  caught_so : (here : Machine) → WorkedSo m t p here → (r : Raise) (n : ℕ) (lines : List Line) (new : Machine) → RaisesInThread here t r n lines new
      → n ≡ 0 → WorkedSo m t p new
  caught_so here so r n lines new (RaisesInThread.caught q run raises) none =
      works_on m t p here so q (record q.segment { frames = run.frames }) run.inside refl refl refl
  caught_so here so r n lines new (RaisesInThread.goes_down q run a k said end raises thrown) none =
      let some = throws_some t k (with_run q run) a said end thrown in absurd (omega (arith, some, none))

  raise_changes : (here : Machine) → WorkedSo m t p here → (w : Machine) (h : IsMet w t) (r : Raise) → MayBeRaised w.classes h.inside.heap r
      → here ≡ met w t h → (n : ℕ) (lines : List Line) (new : Machine) → RaisesInThread here t r n lines new → Changes (deed_of_raise n) new
  raise_changes here so w h r may is zero lines new raised = worked_changes m t p new (caught_so here so r 0 lines new raised refl)
  raise_changes here so w h r may is (suc k) lines new raised =
      left_changes m t p (suc k) new (raises_well m t p (suc k) here so w h r may is (suc k) lines new raised refl (omega arith))

  -- ---- The paid step of a segment.

  module _ (known : IsKnownMachine m) (q : RunningSegment m t) where
    abbrev there : Machine
    there = paid (payer m t p known q) m

    known_there : IsKnownMachine there
    known_there = known_paid m (payer m t p known q) known

    module _ (z : RunningSegment there t) (run : Run) where
      abbrev ran : Segment
      ran = record z.segment { frames = run.frames }

      abbrev here : Machine
      here = with_run z run

      so : WorkedSo m t p here
      so = ran_so m t p known q z run

      sound_ran : HasSoundClasses here
      sound_ran = sound_classes_stay there here (running_keeps z ran run.inside) known_there.1

      abbrev KeepsAs : Went → Type 0
      KeepsAs went = KeepsRun (surroundings there z.home.domain) (setting_of z) t (run_of z) run went

      none_left : run.frames ≡ [] → (y : RunningSegment here t) → y.segment.frames ≡ []
      none_left none y = ap (λ (s : Segment). s.frames) (runs_there there t z ran run.inside refl y).1 ∙ none

      throwable_there : (a : ℕ) → IsThrowable m.classes run.inside.heap a → (y : RunningSegment here t) → IsThrowable m.classes y.home.inside.heap a
      throwable_there a is y = subst (λ (i : Inside). IsThrowable m.classes i.heap a) (sym (inside_there there t z ran run.inside refl y)) is

      -- ---- Requests of package jk.

      module _ (request : Request) (keeps : KeepsAs (Asks request)) where
        waits : IsSealedAtCall here t
        waits = waiting_sealed there t z run (Asks request) known_there.0.0 keeps keeps.fits.0.0

        quiet_changes : IsQuiet request → (x : RunningSegment here t) (v : Option Value) (mid end : Machine) → Grants x request (Ok v) mid
            → (y : RunningSegment mid t) → Receives y y.home.inside.heap v end → Changes Worked end
        quiet_changes quiet x v mid end granted y received =
            worked_changes m t p end
            (receives_so m t p known q mid (granted_here m t p here so known.0.0.names.differ x request (Ok v) mid granted quiet) y
            y.home.inside.heap v end received)

        -- from the machine in which the flags are others
        flags_from : (x : RunningSegment here t) (s : SegmentNo) (mid : Machine) → FlagsOf here mid run.inside.heap s → (v : Option Value) (end : Machine)
            (y : RunningSegment mid t) → Receives y y.home.inside.heap v end → Changes (Flagged s) end
        flags_from x s mid f v end =
            subst
            (λ (w : Machine). (y : RunningSegment w t) → Receives y y.home.inside.heap v end → Changes (Flagged s) end) (sym f.is)
            (λ y received.
            flag_changes m t p here so waits x s f.change f.keeps f.name
            (ap (λ (i : Inside). object_named i.heap f.name) (inside_there there t z ran run.inside refl x) ∙ f.task) y y.home.inside.heap v end received)

        flagged_changes : (s : SegmentNo) → deed_of_request request ≡ Flagged s → (x : RunningSegment here t) (v : Option Value) (mid end : Machine)
            → Grants x request (Ok v) mid → (y : RunningSegment mid t) → Receives y y.home.inside.heap v end → Changes (Flagged s) end
        flagged_changes s is x v mid end granted y received =
            flags_from x s mid
            (asked_flags here t x (surroundings there z.home.domain) run.inside.heap request (Ok v) mid granted keeps.fits.1.1.known s is) v end y received

        denied_changes : (x : RunningSegment here t) (r : Raise) (n : ℕ) (lines : List Line) (mid end : Machine) → Grants x request (Err r) mid
            → RaisesInThread mid t r n lines end → Changes (deed_of_raise n) end
        denied_changes x r n lines mid end granted raised =
            let no = denied here t x so.numbered request (Err r) mid granted r refl in
            raise_changes here so (flagged here t x waits sound_ran) (met_there here t x waits sound_ran) r
            (no.1 x.home.inside.heap known_there.1.codes) (is_met here t x waits sound_ran) n lines end
            (subst (λ (w : Machine). RaisesInThread w t r n lines end) no.0 raised)

      granted_changes : (request : Request) → KeepsAs (Asks request) → (x : RunningSegment here t) (v : Option Value) (mid end : Machine)
          → Grants x request (Ok v) mid → (y : RunningSegment mid t) → Receives y y.home.inside.heap v end → Changes (deed_of_request request) end
      granted_changes (AsksToCreate class target) keeps = quiet_changes (AsksToCreate class target) keeps tt
      granted_changes (AsksToRevoke k) keeps = quiet_changes (AsksToRevoke k) keeps tt
      granted_changes (AsksToBind text k) keeps = quiet_changes (AsksToBind text k) keeps tt
      granted_changes (AsksToLookUp text) keeps = quiet_changes (AsksToLookUp text) keeps tt
      granted_changes (AsksToUnbind text) keeps = quiet_changes (AsksToUnbind text) keeps tt
      granted_changes (AsksToSuspend s) keeps = flagged_changes (AsksToSuspend s) keeps s refl
      granted_changes (AsksToResume s) keeps = flagged_changes (AsksToResume s) keeps s refl
      granted_changes (AsksToStop s) keeps = flagged_changes (AsksToStop s) keeps s refl

      -- ---- What follows where it has run.

      ensues_changes : (went : Went) (deed : Deed) (lines : List Line) (new : Machine) → Ensues here t went deed lines new → KeepsAs went
          → Changes deed new
      ensues_changes went deed lines new Ensues.goes_on keeps = worked_changes m t p here so
      ensues_changes went deed lines new (Ensues.says y text) keeps = worked_changes m t p here so
      ensues_changes went deed lines new (Ensues.ended v n said end h) keeps =
          left_changes m t p n end
          (returns_well m t p n here so (left_sealed there t z run went known_there.0.0 keeps keeps.fits.0) sound_ran (none_left keeps.fits.0) v n said
          end h refl)
      ensues_changes went deed lines new (Ensues.left a n said end h) keeps =
          left_changes m t p n end
          (throws_well m t p n n here a said end h 0 (omega arith) (falls_from m t p n here so)
          (left_sealed there t z run went known_there.0.0 keeps keeps.fits.0) sound_ran
          (record { left = none_left keeps.fits.0; throwable = throwable_there a keeps.fits.1 }))
      ensues_changes went deed lines new (Ensues.enters k method c end of_cap of_method h) keeps =
          call_changes m t p known (payer m t p known q) (pays m t p known q) z run c end h k method of_cap
      ensues_changes went deed lines new (Ensues.is_refused k method c r n said end of_cap of_method refused h) keeps =
          let place : RunningSegment here t = running_then there t z ran run.inside refl in
          raise_changes here so here
          (meets_at here t (running_sealed there t z run went known_there.0.0 keeps keeps.fits.0.0) sound_ran place place.segment refl refl refl) r
          (refused_may here t c r run.inside.heap known_there.1.codes refused) (sym (runs_on there t z ran run.inside refl place ran run.inside)) n said
          end h
      ensues_changes went deed lines new (Ensues.grants x request v mid end granted y received) keeps =
          granted_changes request keeps x v mid end granted y received
      ensues_changes went deed lines new (Ensues.denies x request r n said mid end granted h) keeps =
          denied_changes request keeps x r n said mid end granted h
      ensues_changes went deed lines new (Ensues.terminates y said end h) keeps =
          end_changes m t p known (payer m t p known q) (pays m t p known q) z ran run.inside (of_old m t p known q z ran run.inside) y.home.domain
          (y.home.numbered ∙ of_home there t z ran run.inside refl y ∙ of_old m t p known q z ran run.inside) said end h

    -- a flag falls, and what it stood for is raised
    raised_flagged : (z : RunningSegment there t) (shared : SharedSegment) → shared.number ≡ z.segment.shared.number
        → shared.domain ≡ z.segment.shared.domain → shared.orphan ≡ z.segment.shared.orphan → (r : Raise)
        → MayBeRaised m.classes z.home.inside.heap r → (n : ℕ) (lines : List Line) (new : Machine) → RaisesInThread (with_flags z shared) t r n lines new
        → Changes (deed_of_raise n) new
    raised_flagged z shared number domain orphan r may n lines new raised =
        raise_changes (with_flags z shared) (flagged_so m t p known q z shared number domain orphan) there
        (meets_at there t known_there.0.0 known_there.1 z (record z.segment { shared = shared }) number domain refl) r may refl n lines new raised

    acts_changes : HeapRowsKeep → (deed : Deed) (lines : List Line) (new : Machine) → Acts there t deed lines new → Changes deed new
    acts_changes rows deed lines new (Acts.stops z n said end stop h) =
        raised_flagged z (with_stop false z.segment.shared) refl refl refl (Raised.Standing Stands.ThreadDeath) tt n said end h
    acts_changes rows deed lines new (Acts.is_revoked z n said end stop revoked h) =
        raised_flagged z (with_revoked false z.segment.shared) refl refl refl (Raised.Standing Stands.Revoked) tt n said end h
    acts_changes rows deed lines new (Acts.does z run went done said end stop revoked step h) =
        ensues_changes z run went done said end h
        (step_kept rows (surroundings there z.home.domain) (setting_of z) t (run_of z) run went (acts_well there t z known_there revoked) step)

-- ---- The law.

pub steps_confined : HeapRowsKeep → (m new : Machine) (t : ThreadNo) (deed : Deed) (lines : List Line) (p : RunningSegment m t) → IsKnownMachine m
    → StepsBy m t deed lines new → Confined (record { machine = m; thread = t; deed = deed }) p.segment.shared.domain new
steps_confined rows m new t deed lines p known (StepsBy.not_live gone) = absurd (gone (p.thread, p.is_thread))
steps_confined rows m new t deed lines p known (StepsBy.is_held q held) =
    confined_by m m t Rested [] p (StepsBy.is_held q held) (rest_changes m t p)
steps_confined rows m new t deed lines p known (StepsBy.is_spent q free spent) =
    confined_by m m t Rested [] p (StepsBy.is_spent q free spent) (rest_changes m t p)
steps_confined rows m new t deed lines p known (StepsBy.acts q done said end free rich h) =
    confined_by m end t done said p (StepsBy.acts q done said end free rich h) (acts_changes m t p known q rows done said end h)
