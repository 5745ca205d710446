-- A segment that has become another one runs in its place. Where something is raised in the only segment of a thread, it is caught there, or ends the thread.
use Rattle.std.proofs.Common.{◌≡◌, ◌==◌, ℕ, Bool, true, false, cond, List, [], ◌∷◌, ◌++◌, Some, slice_get, refl, sym, ap, subst, ◌∙◌, eq-eqb}
use Rattle.jk_model.specs.declared.identifiers.DomainId.{DomainId}
use Rattle.jk_model.specs.declared.identifiers.ThreadNo.{ThreadNo}
use Rattle.jk_model.specs.declared.output.Line.{Line}
use Rattle.jk_model.specs.declared.output.Line.TheVariants.{Ended, EndedBy}
use Rattle.jk_model.specs.declared.steps.Raise.{Raise}
use Rattle.jk_model_classes.specs.declared.records.ClassRecord.{ClassRecord}
use Rattle.jk_model_classes.specs.Classes.{record_of}
use Rattle.jk_model_domains.specs.Objects.{Plain}
use Rattle.jk_model_domains.specs.OwnStates.{OwnState}
use Rattle.jk_model_heaps.specs.declared.shapes.Unwound.{Unwound}
use Rattle.jk_model_heaps.specs.declared.shapes.Unwound.TheVariants as Unwinding
use Rattle.jk_model_heaps.specs.Heaps.{named}
use Rattle.jk_model_heaps.specs.Workings.{Inside, Run, Setting}
use Rattle.jk_model_running.specs.Raising.{RaisesIn}
use Rattle.jk_model_sealing.specs.SealedInsides.{IsSealedInside, Surroundings}
use Rattle.jk_model_machine_state.specs.Machines.{DomainState, Machine, Segment, without_thread}
use Rattle.jk_model_machine_state.specs.Places.{RunningSegment, run_of, setting_of, with_run, with_running}
use Rattle.jk_model_crossings.specs.Throwing.{RaisesInThread, Throws}
use Rattle.jk_model_crossings.specs.Throwing as Crossing
use Rattle.list_lemmas.proofs.ItemsByPlace.{mapped_at}
use Rattle.heap_laws.proofs.ObjectsAfterChanges.{found_stands}
use Rattle.heap_laws.proofs.StillFits.{frames_sealed, meets_raise}
use Rattle.heap_laws.specs.RaisableObjects.{IsThrowable, KeepsStates, MayBeRaised, MayMeetRaise}
use Rattle.heap_laws.specs.SoundTables.{IsSoundTable}
use Rattle.row_laws.proofs.Raised.{raised_there, thrown}
use Rattle.row_laws.proofs.WaysThere.{unwound}
use Rattle.row_laws.proofs.StatesOfFrames.{states_there}
use Rattle.machine_laws.proofs.RaisesKeep.{MayRaise, raise_keeps}
use Rattle.machine_laws.proofs.RunsAgain.{thread_set}

-- ---- The segment that runs then.

set_if : {X : Type 0} (b : Bool) (x y : X) → b ≡ true → cond b x y ≡ x
set_if true x y e = refl
set_if false x y e = absurd cc

module _ {m : Machine} {t : ThreadNo} (p : RunningSegment m t) (s : Segment) (inside : Inside) (same : s.shared.domain ≡ p.segment.shared.domain) where
  abbrev pub d : DomainId
  d = p.segment.shared.domain

  abbrev pub set : DomainState → DomainState
  set e = cond (e.number.0 == d.0) (record e { inside = Some inside }) e

  pub set_there : set p.home.domain ≡ record p.home.domain { inside = Some inside }
  set_there =
      set_if (p.home.domain.number.0 == d.0) (record p.home.domain { inside = Some inside }) p.home.domain
      (eq-eqb p.home.domain.number.0 d.0 (ap (λ (n : DomainId). n.0) p.home.numbered))

  abbrev pub again : RunningSegment (with_running p s inside) t
  again = record {
    thread = record p.thread { segments = p.lower ++ s ∷ [] };
    is_thread = thread_set m t (p.lower ++ s ∷ []) p;
    lower = p.lower;
    segment = s;
    are_segments = refl;
    home = record {
      domain = record p.home.domain { inside = Some inside };
      is_domain = ap (λ (n : DomainId). slice_get (with_running p s inside).domains n.0) same
          ∙ mapped_at set m.domains d.0 p.home.domain p.home.is_domain ∙ ap (λ (e : DomainState). Some e) set_there;
      numbered = p.home.numbered ∙ sym same;
      inside = inside;
      is_inside = refl;
    };
  }

-- ---- Something is raised in a segment.

module _ (around : Surroundings) (x : Setting) (t : ThreadNo) (old : Run) (may : MayRaise around x t old) (r : Raise)
    (can : MayBeRaised around.classes old.inside.heap r) where
  pub raise_found : (ended : Unwound) × (new : Run) × RaisesIn x old r new ended
  raise_found =
      let made = raised_there around x old.inside r may.sealed.inside in
      let kept = thrown around x may.setting old.inside may.sealed.inside made.0 r made.1 can made.2 in
      let states : KeepsStates made.0.own old.frames =
      subst (λ (own : OwnState). KeepsStates own old.frames) (sym kept.2) (states_there t old.inside.own old.frames may.progress) in
      let way =
      unwound around x may.setting (record old { inside = made.0 }) made.1
      (record {
        setting = may.setting;
        sealed = record {
          inside = kept.0.sealed;
          frames = frames_sealed old.inside.heap made.0.heap kept.0.grown (MayMeetRaise around.classes old.inside.heap)
              (MayMeetRaise around.classes made.0.heap) (meets_raise old.inside.heap made.0.heap kept.0.grown around.classes) around old.frames
              may.sealed.frames;
        };
        throwable = kept.1;
      }) states in
      (way.0, way.1, record { thrown = made.1; made = made.0; is_raised = made.2; unwinds = way.2 })

-- ---- In the only segment of a thread.

abbrev pub EndsSo : (ℕ → List Line → Machine → Type 0) → Type 0
EndsSo Way = (n : ℕ) × (lines : List Line) × (new : Machine) × Way n lines new

module _ {m : Machine} {t : ThreadNo} (p : RunningSegment m t) (single : p.lower ≡ []) (around : Surroundings) (classes : around.classes ≡ m.classes)
    (sound : IsSoundTable around.classes around.table) where
  -- what leaves it ends the thread
  pub throws_found : (run : Run) (quota : ℕ) (a : ℕ) → IsSealedInside around quota run.inside → IsThrowable around.classes run.inside.heap a
      → EndsSo (λ n lines new. Throws t n (with_run p run) a lines new)
  throws_found run quota a sealed (c, fields, object, below) = by p.segment.shared.orphan refl
    where
      of_class : (record_class : ClassRecord) × (record_of m.classes c ≡ Some record_class)
      of_class =
          let named_there = sealed.objects (named a (Plain c fields)) (found_stands a (Plain c fields) run.inside.heap object) in
          let there = sound.closed c named_there.0 in
          (there.0, subst (λ (cs : List ClassRecord). record_of cs c ≡ Some there.0) classes there.1)

      throwable : Crossing.IsThrowable (again p (record p.segment { frames = run.frames }) run.inside refl) a
      throwable = record { class = c; fields = fields; is_object = object; of_class = of_class.0; is_class = of_class.1 }

      by : (orphan : Bool) → p.segment.shared.orphan ≡ orphan
          → EndsSo (λ n lines new. Throws t n (with_run p run) a lines new)
      by false plain = (
        1,
        EndedBy t of_class.0.name ∷ [],
        without_thread t (with_run p run),
        Throws.ends (with_run p run) a (again p (record p.segment { frames = run.frames }) run.inside refl) throwable single plain,
      )
      by true orphan = (
        1,
        Ended t ∷ [],
        without_thread t (with_run p run),
        Throws.ends_orphan (with_run p run) a (again p (record p.segment { frames = run.frames }) run.inside refl) single orphan,
      )

  pub raises_found : (r : Raise) → MayRaise around (setting_of p) t (run_of p) → MayBeRaised around.classes p.home.inside.heap r
      → EndsSo (λ n lines new. RaisesInThread m t r n lines new)
  raises_found r may can = by (raise_found around (setting_of p) t (run_of p) may r can)
    where
      by : (ended : Unwound) × (run : Run) × RaisesIn (setting_of p) (run_of p) r run ended
          → EndsSo (λ n lines new. RaisesInThread m t r n lines new)
      by (Unwinding.Caught, run, raised) = (0, [], with_run p run, RaisesInThread.caught p run raised)
      by (Unwinding.Uncaught a, run, raised) =
          let kept = raise_keeps around (setting_of p) t (run_of p) may r can run (Unwinding.Uncaught a) raised in
          let ends = throws_found run (setting_of p).quota a kept.inside.sealed kept.fits.1 in
          (ends.0, ends.1, ends.2, RaisesInThread.goes_down p run a ends.0 ends.1 ends.2 raised ends.3)
