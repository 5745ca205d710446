-- The running segment of a sealed machine has become one in which something may be raised, whose top frame may have made a call; and something is
-- raised in it. So the segment has run, and keeps what is kept.
use Rattle.std.proofs.Common.{◌≡◌, ◌≢◌, ℕ, ◌≤◌, ◌==◌, inl, inr, Bool, true, false, cond, List, [], ◌∷◌, Some, refl, sym, ap, subst, ◌∙◌, arith}
use Rattle.jk_model.specs.declared.identifiers.ThreadNo.{ThreadNo}
use Rattle.jk_model.specs.declared.steps.Raise.{Raise}
use Rattle.jk_model_classes.specs.declared.records.ClassRecord.{ClassRecord}
use Rattle.jk_model_domains.specs.Objects.{NamedObject}
use Rattle.jk_model_frames.specs.Frames.{FrameState, frames_chunks}
use Rattle.jk_model_heaps.specs.declared.shapes.Unwound.{Unwound}
use Rattle.jk_model_heaps.specs.declared.shapes.Unwound.TheVariants as Unwinding
use Rattle.jk_model_heaps.specs.Workings.{Inside, Run, Setting}
use Rattle.jk_model_running.specs.Raising.{RaisesIn}
use Rattle.jk_model_sealing.specs.AnsweringFrames.{FramesAnswer}
use Rattle.jk_model_sealing.specs.FittingFrames.{FitsAsTop}
use Rattle.jk_model_sealing.specs.SealedInsides.{IsSealedInside, Surroundings}
use Rattle.jk_model_sealing.specs.SealedRuns.{AreSealedFrames}
use Rattle.jk_model_machine_state.specs.Machines.{DomainState, Machine, Segment, caps_of}
use Rattle.jk_model_machine_state.specs.Places.{RunningSegment, run_of, setting_of, with_run, with_running}
use Rattle.jk_model_runs.specs.Sealed.{IsSealed, TopFits, surroundings}
use Rattle.list_lemmas.proofs.ItemsOfLists.{Contains-none}
use Rattle.heap_laws.specs.ClassesInProgress.{AreInProgress, KeepsProgress}
use Rattle.heap_laws.specs.KeptInsides.{KeepsInside}
use Rattle.heap_laws.specs.RaisableObjects.{MayBeRaised, MayMeetRaise}
use Rattle.heap_laws.specs.RunningFrames.{IsKnownSetting}
use Rattle.row_laws.specs.UnwoundFrames.{FitsUnwound, KeepsUnwound}
use Rattle.row_laws.proofs.UnwindingFramesLeft.{keeps_after}
use Rattle.row_laws.proofs.ActingSegments.{stays_inside}
use Rattle.machine_laws.specs.SoundMachines.{HasSoundClasses}
use Rattle.machine_laws.proofs.ChangedItems.{parts_stay}
use Rattle.machine_laws.proofs.LowestFramesStay.{LowestStays, raised_lowest}
use Rattle.machine_laws.proofs.RaisesKeep.{MayRaise, caught_answered, raise_keeps}
use Rattle.machine_laws.proofs.RunningSegmentsFit.{frames_weaker, home_there as home_on, in_progress, running_frames}
use Rattle.machine_laws.proofs.RunsAgain.{home_there, inside_there, runs_on, runs_there, set_inside}
use Rattle.machine_laws.proofs.SegmentsThatRan.{HasRun, after}

-- the running segment of a sealed machine, and what it and its domain's inside are where something is raised in it
pub record IsMet (m : Machine) (t : ThreadNo) : Type 0 where
  pub place : RunningSegment m t
  pub sealed : IsSealed m
  pub sound : HasSoundClasses m
  pub segment : Segment
  pub inside : Inside
  pub number : segment.shared.number ≡ place.segment.shared.number
  pub domain : segment.shared.domain ≡ place.segment.shared.domain
  pub keeps : KeepsInside (surroundings m place.home.domain) (setting_of place) place.home.inside inside
  pub frames : AreSealedFrames (surroundings m place.home.domain) (MayMeetRaise m.classes inside.heap) inside.heap segment.frames
  pub in_progress : AreInProgress t (record { inside = inside; frames = segment.frames })
  pub progress : KeepsProgress t (run_of place) (record { inside = inside; frames = segment.frames })
  pub fewer : frames_chunks segment.frames ≤ frames_chunks place.segment.frames

pub keeps_setting : (around : Surroundings) (x y : Setting) (old new : Inside) → x.quota ≡ y.quota → x.segment ≡ y.segment
    → KeepsInside around x old new → KeepsInside around y old new
keeps_setting around x y old new quota segment h = record {
  sealed = subst (λ (n : ℕ). IsSealedInside around n new) quota h.sealed;
  grown = h.grown;
  tasks = λ a n is. elim (h.tasks a n is) [
    | inl was ↦ inl was
    | inr own ↦ inr (own ∙ segment)
  ];
  pages = h.pages;
}

pub no_frames_fit : (around : Surroundings) (Top : FrameState → Type 0) (heap : List NamedObject) (frames : List FrameState) → frames ≡ []
    → AreSealedFrames around Top heap frames
no_frames_fit around Top heap frames none =
    subst (AreSealedFrames around Top heap) (sym none) (record { fit = tt; initialise = tt; at_home = tt; known = tt })

pub some_frames : (classes : List ClassRecord) (frames : List FrameState) → FramesAnswer classes frames → frames ≢ []
some_frames classes [] answers none = answers
some_frames classes (f ∷ frames) answers none = cc

caps_by : (b : Bool) (inside : Inside) (e : DomainState) → (cond b (record e { inside = Some inside }) e).caps ≡ e.caps
caps_by true inside e = refl
caps_by false inside e = refl

module _ (m : Machine) (t : ThreadNo) (h : IsMet m t) where
  abbrev p : RunningSegment m t
  p = h.place

  abbrev pub met : Machine
  met = with_running h.place h.segment h.inside

  abbrev around : Surroundings
  around = surroundings m p.home.domain

  abbrev old : Run
  old = record { inside = h.inside; frames = h.segment.frames }

  module _ (q : RunningSegment met t) (r : Raise) (can : MayBeRaised m.classes h.inside.heap r) (run : Run) (unwound : Unwound)
      (raises : RaisesIn (setting_of q) (run_of q) r run unwound) where
    abbrev x : Setting
    x = setting_of q

    caps_same : caps_of met ≡ caps_of m
    caps_same =
        parts_stay (set_inside p.segment.shared.domain h.inside) (λ (e : DomainState). e.caps)
        (λ e. caps_by (e.number.0 == p.segment.shared.domain.0) h.inside e) m.domains

    pub quota_same : x.quota ≡ p.home.domain.quotas.heap
    quota_same = ap (λ (e : DomainState). e.quotas.heap) (home_there m t p h.segment h.inside h.domain q)

    pub segment_same : x.segment ≡ p.segment.shared.number
    segment_same = ap (λ (s : Segment). s.shared.number) (runs_there m t p h.segment h.inside h.domain q).1 ∙ h.number

    run_same : run_of q ≡ old
    run_same = λ i. record {
      inside = inside_there m t p h.segment h.inside h.domain q i;
      frames = ap (λ (s : Segment). s.frames) (runs_there m t p h.segment h.inside h.domain q).1 i;
    }

    raises_here : RaisesIn x old r run unwound
    raises_here = subst (λ (y : Run). RaisesIn x y r run unwound) run_same raises

    knows : IsKnownSetting around x
    knows = record {
      classes = refl;
      ranges = caps_same;
      stand_ins = λ s i there none lists. absurd (Contains-none s there);
      codes = h.sound.codes;
      table = h.sound.tables p.home.domain (home_on m t p h.sealed);
    }

    may : MayRaise around x t old
    may = record {
      setting = knows;
      sealed = record {
        inside = subst (λ (n : ℕ). IsSealedInside around n h.inside) (sym quota_same) h.keeps.sealed;
        frames = h.frames;
      };
      progress = h.in_progress;
    }

    pub kept : KeepsUnwound around x t old run unwound
    kept = raise_keeps around x t old may r can run unwound raises_here

    pub frames_by : (u : Unwound) → FitsUnwound around run u
        → AreSealedFrames around (TopFits m run.inside (record h.segment { frames = run.frames })) run.inside.heap run.frames
    frames_by Unwinding.Caught fits =
        frames_weaker around run.inside.heap (FitsAsTop m.classes run.inside.heap)
        (TopFits m run.inside (record h.segment { frames = run.frames })) (λ f top. inl top) run.frames fits
    frames_by (Unwinding.Uncaught a) fits =
        no_frames_fit around (TopFits m run.inside (record h.segment { frames = run.frames })) run.inside.heap run.frames fits.0

    abbrev pub has_run : HasRun m t
    has_run = record {
      place = p;
      sealed = h.sealed;
      segment = record h.segment { frames = run.frames };
      inside = run.inside;
      number = h.number;
      domain = h.domain;
      keeps = keeps_after around (setting_of p) p.home.inside h.inside run.inside h.keeps
          (keeps_setting around x (setting_of p) h.inside run.inside quota_same segment_same kept.inside);
      frames = frames_by unwound kept.fits;
      progress = record {
        own = λ c. omega (arith, h.progress.own c, kept.progress.own c);
        others = λ u c apart. kept.progress.others u c apart ∙ h.progress.others u c apart;
      };
      chunks = let after_it = kept.fewer in let before_it = h.fewer in omega (arith, after_it, before_it);
    }

    -- the machine to which it leads
    pub leads : with_run q run ≡ after has_run
    leads =
        runs_on m t p h.segment h.inside h.domain q (record q.segment { frames = run.frames }) run.inside
        ∙ ap (λ (s : Segment). with_running p (record s { frames = run.frames }) run.inside) (runs_there m t p h.segment h.inside h.domain q).1

    -- what became of the lowest frame, and of what is thrown
    pub lowest_stays : LowestStays h.segment.frames run.frames
    lowest_stays = raised_lowest x old run r unwound raises_here

    pub throws_on : FitsUnwound around run unwound
    throws_on = kept.fits

    pub caught_answers : FramesAnswer m.classes h.segment.frames → unwound ≡ Unwinding.Caught → FramesAnswer m.classes run.frames
    caught_answers answers caught =
        caught_answered m.classes x old run r answers (subst (λ (u : Unwound). RaisesIn x old r run u) caught raises_here)

-- ---- The running segment itself, whatever its flags become.

pub meets : (m : Machine) (t : ThreadNo) (p : RunningSegment m t) (f : FrameState) → TopFits m p.home.inside p.segment f
    → MayMeetRaise m.classes p.home.inside.heap f
meets m t p f (inl top) = inl top
meets m t p f (inr (revoked, call)) = inr call

abbrev pub meets_at : (m : Machine) (t : ThreadNo) (sealed : IsSealed m) → HasSoundClasses m → (p : RunningSegment m t) (segment : Segment)
    → segment.shared.number ≡ p.segment.shared.number → segment.shared.domain ≡ p.segment.shared.domain → segment.frames ≡ p.segment.frames
    → IsMet m t
meets_at m t sealed sound p segment number domain frames = record {
  place = p;
  sealed = sealed;
  sound = sound;
  segment = segment;
  inside = p.home.inside;
  number = number;
  domain = domain;
  keeps = stays_inside (surroundings m p.home.domain) (setting_of p) p.home.inside
      (sealed.domains.insides p.home.domain p.home.inside (home_on m t p sealed) p.home.is_inside);
  frames = subst (AreSealedFrames (surroundings m p.home.domain) (MayMeetRaise m.classes p.home.inside.heap) p.home.inside.heap) (sym frames)
      (frames_weaker (surroundings m p.home.domain) p.home.inside.heap (TopFits m p.home.inside p.segment)
      (MayMeetRaise m.classes p.home.inside.heap) (meets m t p) p.segment.frames (running_frames m t p sealed));
  in_progress = subst (λ (fs : List FrameState). AreInProgress t (record { inside = p.home.inside; frames = fs })) (sym frames)
      (in_progress m t p sealed);
  progress = subst (λ (fs : List FrameState). KeepsProgress t (run_of p) (record { inside = p.home.inside; frames = fs })) (sym frames)
      (record { own = λ c. refl; others = λ u c apart. refl });
  fewer = subst (λ (fs : List FrameState). frames_chunks fs ≤ frames_chunks p.segment.frames) (sym frames) (omega arith);
}
