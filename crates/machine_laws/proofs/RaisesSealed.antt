-- Something is raised where a thread's top frame stands, which may be a call that has left it: the machine is sealed after it, and calls stay
-- answered.
use Rattle.std.proofs.Common.{◌≡◌, ℕ, ◌<◌, true, List, [], ◌∷◌, ◌++◌, Some, slice_get, refl, sym, ◌∙◌, arith}
use Rattle.jk_model.specs.declared.identifiers.ThreadNo.{ThreadNo}
use Rattle.jk_model.specs.declared.output.Line.{Line}
use Rattle.jk_model.specs.declared.steps.Raise.{Raise}
use Rattle.jk_model.specs.declared.steps.Raise.TheVariants as Raised
use Rattle.jk_model_heaps.specs.declared.shapes.Unwound.TheVariants as Unwinding
use Rattle.jk_model_sharing.specs.Segments.{with_revoked}
use Rattle.jk_model_machine_state.specs.Machines.{DomainState, Machine, Segment, Thread}
use Rattle.jk_model_machine_state.specs.Places.{RunningSegment, with_run, with_running}
use Rattle.jk_model_crossings.specs.Throwing.{RaisesInThread}
use Rattle.jk_model_runs.specs.AnsweredCalls.{AreCallsAnswered}
use Rattle.jk_model_runs.specs.Sealed.{IsSealed}
use Rattle.list_lemmas.proofs.ItemsByPlace.{mapped_at}
use Rattle.heap_laws.specs.RaisableObjects.{MayBeRaised as MayRaise}
use Rattle.machine_laws.specs.CallsAndAnswers.{MayBeRaised}
use Rattle.machine_laws.specs.SoundMachines.{HasSoundClasses, IsSealedAtCall}
use Rattle.machine_laws.proofs.RaisesWhereMet.{IsMet, meets_at, met}
use Rattle.machine_laws.proofs.RunsAgain.{domain_number, running_then, runs_on, set_inside, set_segments, thread_number}
use Rattle.machine_laws.proofs.SegmentsAnswered.{caught_answers, others_left}
use Rattle.machine_laws.proofs.ThrowablesSealed.{leads_well, throws_answered, throws_sealed}
use Rattle.machine_laws.proofs.TopSegmentsTaken.{inside_stays, segments_stay}
use Rattle.machine_laws.proofs.WorldsKept.{running_keeps, sound_classes_stay}

-- ---- In a machine that is one whose segment is met.

pub raises_sealed : (m : Machine) (t : ThreadNo) (h : IsMet m t) (r : Raise) → MayRaise m.classes h.inside.heap r → (mid : Machine) → mid ≡ met m t h
    → (n : ℕ) (lines : List Line) (new : Machine) → RaisesInThread mid t r n lines new → IsSealed new
raises_sealed m t h r can mid is n lines new (RaisesInThread.caught p run raised) = (leads_well m t h r can mid is p run Unwinding.Caught raised).sealed
raises_sealed m t h r can mid is n lines new (RaisesInThread.goes_down p run a k said end raised thrown) =
    let l = leads_well m t h r can mid is p run (Unwinding.Uncaught a) raised in
    throws_sealed t k (with_run p run) a said end thrown l.sealed l.sound l.remains

pub raises_answered : (m : Machine) (t : ThreadNo) (r : Raise) (n : ℕ) (lines : List Line) (new : Machine) → AreCallsAnswered m
    → RaisesInThread m t r n lines new → AreCallsAnswered new
raises_answered m t r n lines new h (RaisesInThread.caught p run raised) = caught_answers m t p h r run raised
raises_answered m t r n lines new h (RaisesInThread.goes_down p run a k said end raised thrown) =
    throws_answered t k (with_run p run) a said end thrown (others_left m t p h (record p.segment { frames = run.frames }) run.inside refl)

-- ---- In a machine that is sealed but for the thread.

module _ (m : Machine) (t : ThreadNo) (p : RunningSegment m t) (waits : IsSealedAtCall m t) (sound : HasSoundClasses m) where
  abbrev pub waiting : Segment
  waiting = record p.segment { shared = with_revoked true p.segment.shared }

  -- where a RevokedException is pending for the segment
  abbrev pub flagged : Machine
  flagged = with_running p waiting p.home.inside

  pub sealed : IsSealed flagged
  sealed = waits p

  pub sound_there : HasSoundClasses flagged
  sound_there = sound_classes_stay m flagged (running_keeps p waiting p.home.inside) sound

  abbrev pub place : RunningSegment flagged t
  place = running_then m t p waiting p.home.inside refl

  pub numbered : (i : ℕ) (e : DomainState) → slice_get m.domains i ≡ Some e → e.number.0 ≡ i
  numbered i e at =
      sym (domain_number p.segment.shared.domain p.home.inside e)
      ∙ sealed.domains.numbered i (set_inside p.segment.shared.domain p.home.inside e)
      (mapped_at (set_inside p.segment.shared.domain p.home.inside) m.domains i e at)

  rising : (i j : ℕ) (a b : Thread) → i < j → slice_get m.threads i ≡ Some a → slice_get m.threads j ≡ Some b → a.number.0 < b.number.0
  rising i j a b less at there =
      let g : Thread → Thread = set_segments t (p.lower ++ waiting ∷ []) in
      let rise = sealed.threads.rise i j (g a) (g b) less (mapped_at g m.threads i a at) (mapped_at g m.threads j b there) in
      moved a.number.0 b.number.0 (g a).number.0 (g b).number.0 rise (thread_number t (p.lower ++ waiting ∷ []) a)
      (thread_number t (p.lower ++ waiting ∷ []) b)
    where
      moved : (a b c d : ℕ) → c < d → c ≡ a → d ≡ b → a < b
      moved a b c d less left right = omega arith

  -- the machine itself, in which the segment runs again as it is
  pub itself : m ≡ with_running p p.segment p.home.inside
  itself = λ i. record m {
    domains = sym (inside_stays m p.segment.shared.domain numbered p.home.domain p.home.inside p.home.is_domain p.home.is_inside) i;
    threads = sym (segments_stay m t rising p) i;
  }

  abbrev pub met_there : IsMet flagged t
  met_there = meets_at flagged t sealed sound_there place p.segment refl refl refl

  pub is_met : m ≡ met flagged t met_there
  is_met = itself ∙ sym (runs_on m t p waiting p.home.inside refl place p.segment p.home.inside)

pub may_raise : (m : Machine) (t : ThreadNo) (p : RunningSegment m t) (r : Raise) → MayBeRaised p r → MayRaise m.classes p.home.inside.heap r
may_raise m t p (Raised.Object a) h = (h.throwable.class, h.throwable.fields, h.throwable.is_object, h.below)
may_raise m t p (Raised.Standing s) h = tt
may_raise m t p (Raised.Fresh c) h = h

pub raised_sealed : (m new : Machine) (t : ThreadNo) (p : RunningSegment m t) (r : Raise) (n : ℕ) (lines : List Line) → IsSealedAtCall m t
    → HasSoundClasses m → MayBeRaised p r → RaisesInThread m t r n lines new → IsSealed new
raised_sealed m new t p r n lines waits sound may raises =
    raises_sealed (flagged m t p waits sound) t (met_there m t p waits sound) r (may_raise m t p r may) m (is_met m t p waits sound) n lines new raises
