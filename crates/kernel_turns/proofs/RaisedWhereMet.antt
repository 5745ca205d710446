-- What is known of the running segment of a machine where something may be raised in it.
use Rattle.std.proofs.Common.{◌≡◌, ◌==◌, Bool, true, false, cond, Some, refl, sym, ap, subst}
use Rattle.jk_model.specs.declared.identifiers.ThreadNo.{ThreadNo}
use Rattle.jk_model.specs.declared.steps.Raise.{Raise}
use Rattle.jk_model_heaps.specs.Workings.{Inside, Run}
use Rattle.jk_model_sealing.specs.SealedInsides.{Surroundings}
use Rattle.jk_model_sealing.specs.SealedRuns.{IsSealedRun}
use Rattle.jk_model_machine_state.specs.Machines.{DomainState, Machine, Segment, caps_of}
use Rattle.jk_model_machine_state.specs.Places.{RunningSegment, run_of}
use Rattle.jk_model_runs.specs.Sealed.{surroundings}
use Rattle.heap_laws.specs.ClassesInProgress.{AreInProgress}
use Rattle.heap_laws.specs.LaidOutObjects.{AreSmallNumbers}
use Rattle.heap_laws.specs.RaisableObjects.{MayBeRaised, MayMeetRaise}
use Rattle.machine_laws.proofs.ChangedItems.{parts_stay}
use Rattle.machine_laws.proofs.RaisesWhereMet.{IsMet, met}
use Rattle.machine_laws.proofs.RunsAgain.{home_there, inside_there, running_then, runs_there, set_inside}
use Rattle.machine_laws.proofs.WorldsKept.{running_keeps, sound_classes_stay}
use Rattle.machine_laws.specs.SoundMachines.{HasSoundClasses}
use Rattle.machine_parts.specs.ChangedParts.{AreSegmentsApart}
use Rattle.kernel_turns.specs.GoingDown.{IsRaisable}
use Rattle.kernel_turns.proofs.RunsApart.{running_apart}
use Rattle.domain_crossing.proofs.PartsEntered.{sealed_apart}
use Rattle.kernel_turns.proofs.SmallNumbers.{small_numbers}

-- of that segment
pub record RaisesWell (m : Machine) (t : ThreadNo) (r : Raise) (q : RunningSegment m t) : Type 0 where
  pub sealed : IsSealedRun (surroundings m q.home.domain) q.home.domain.quotas.heap (MayMeetRaise m.classes q.home.inside.heap) (run_of q)
  pub in_progress : AreInProgress t (run_of q)
  pub may : MayBeRaised m.classes q.home.inside.heap r

-- and of the machine
pub record StandsWell (m : Machine) (t : ThreadNo) (r : Raise) : Type 0 where
  pub sound : HasSoundClasses m
  pub small : AreSmallNumbers (caps_of m)
  pub apart : AreSegmentsApart m
  pub place : RunningSegment m t
  pub raises : (q : RunningSegment m t) → RaisesWell m t r q

caps_by : (b : Bool) (inside : Inside) (e : DomainState) → (cond b (record e { inside = Some inside }) e).caps ≡ e.caps
caps_by true inside e = refl
caps_by false inside e = refl

module _ (m : Machine) (t : ThreadNo) (r : Raise) (h : IsMet m t) (can : MayBeRaised m.classes h.inside.heap r) where
  abbrev p : RunningSegment m t
  p = h.place

  pub caps_same : caps_of (met m t h) ≡ caps_of m
  caps_same =
      parts_stay (set_inside p.segment.shared.domain h.inside) (λ (e : DomainState). e.caps)
      (λ e. caps_by (e.number.0 == p.segment.shared.domain.0) h.inside e) m.domains

  module _ (q : RunningSegment (met m t h) t) where
    abbrev domain_is : q.home.domain ≡ record p.home.domain { inside = Some h.inside }
    domain_is = home_there m t p h.segment h.inside h.domain q

    abbrev inside_is : q.home.inside ≡ h.inside
    inside_is = inside_there m t p h.segment h.inside h.domain q

    abbrev frames_are : q.segment.frames ≡ h.segment.frames
    frames_are = ap (λ (s : Segment). s.frames) (runs_there m t p h.segment h.inside h.domain q).1

    run_is : run_of q ≡ record { inside = h.inside; frames = h.segment.frames }
    run_is = λ i. record { inside = inside_is i; frames = frames_are i }

    around_is : surroundings (met m t h) q.home.domain ≡ surroundings m p.home.domain
    around_is = λ i. record { classes = m.classes; table = ap (λ (e : DomainState). e.table) domain_is i; caps = caps_same i }

    quota_is : q.home.domain.quotas.heap ≡ p.home.domain.quotas.heap
    quota_is = ap (λ (e : DomainState). e.quotas.heap) domain_is

    sealed_met : IsSealedRun (surroundings m p.home.domain) p.home.domain.quotas.heap (MayMeetRaise m.classes h.inside.heap)
        (record { inside = h.inside; frames = h.segment.frames })
    sealed_met = record { inside = h.keeps.sealed; frames = h.frames }

    raises_met : RaisesWell (met m t h) t r q
    raises_met = record {
      sealed = sealed_there;
      in_progress = subst (AreInProgress t) (sym run_is) h.in_progress;
      may = subst (λ (x : Inside). MayBeRaised m.classes x.heap r) (sym inside_is) can;
    }
      where
        sealed_there : IsSealedRun (surroundings (met m t h) q.home.domain) q.home.domain.quotas.heap (MayMeetRaise m.classes q.home.inside.heap) (run_of q)
        sealed_there =
            subst
            (λ (x : Run). IsSealedRun (surroundings (met m t h) q.home.domain) q.home.domain.quotas.heap (MayMeetRaise m.classes x.inside.heap) x)
            (sym run_is)
            (subst
            (λ (a : Surroundings). IsSealedRun a q.home.domain.quotas.heap (MayMeetRaise m.classes h.inside.heap)
            (record { inside = h.inside; frames = h.segment.frames }))
            (sym around_is)
            (subst
            (λ n. IsSealedRun (surroundings m p.home.domain) n (MayMeetRaise m.classes h.inside.heap)
            (record { inside = h.inside; frames = h.segment.frames }))
            (sym quota_is) sealed_met))

  at_met : StandsWell (met m t h) t r
  at_met = record {
    sound = sound_classes_stay m (met m t h) (running_keeps p h.segment h.inside) h.sound;
    small = subst AreSmallNumbers (sym caps_same) (small_numbers m h.sealed);
    apart = running_apart m t p h.segment h.inside h.number (sealed_apart m h.sealed);
    place = running_then m t p h.segment h.inside h.domain;
    raises = raises_met;
  }

pub stands_well : (m : Machine) (t : ThreadNo) (r : Raise) → IsRaisable m t r → StandsWell m t r
stands_well m t r can = subst (λ (x : Machine). StandsWell x t r) (sym can.is) (at_met can.sealed t r can.met_there can.may)
