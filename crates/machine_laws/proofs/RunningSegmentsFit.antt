-- What the running segment may rest on in a known machine: it is sealed, its calls are answered, and the classes that its frames initialise are
-- in progress.
use Rattle.std.proofs.Common.{◌≡◌, ℕ, ◌+◌, ◌≤◌, ◌==◌, inl, inr, Bool, true, false, cond, List, [], ◌∷◌, ◌++◌, sum_by, find, Option, Some, None, slice_get, Contains, refl, sym, ap, subst, ◌∙◌, arith, eq-eqb}
use Rattle.std.specs.Prelude.{count_by}
use Rattle.std.proofs.lemmas.List.Sums.{sum_by_push}
use Rattle.std.proofs.lemmas.Bool.{eqb-true}
use Rattle.std.proofs.lemmas.Option.{same_Some}
use Rattle.jk_model.specs.declared.identifiers.ClassId.{ClassId}
use Rattle.jk_model.specs.declared.identifiers.DomainId.{DomainId}
use Rattle.jk_model.specs.declared.identifiers.ThreadNo.{ThreadNo}
use Rattle.jk_model_classes.specs.declared.records.ClassRecord.{ClassRecord}
use Rattle.jk_model_domains.specs.Objects.{NamedObject}
use Rattle.jk_model_frames.specs.Frames.{FrameState}
use Rattle.jk_model_heaps.specs.Workings.{Inside}
use Rattle.jk_model_sealing.specs.AnsweringFrames.{FramesAnswer}
use Rattle.jk_model_sealing.specs.ClassesInProgress.{initialises, progress_by}
use Rattle.jk_model_sealing.specs.FittingFrames.{FitsAsTop, FramesFit}
use Rattle.jk_model_sealing.specs.SealedInsides.{Surroundings}
use Rattle.jk_model_sealing.specs.SealedRuns.{AreSealedFrames}
use Rattle.jk_model_machine_state.specs.Machines.{DomainState, Machine, Segment, Thread}
use Rattle.jk_model_machine_state.specs.Places.{LiveDomain, RunningSegment, run_of, setting_of}
use Rattle.jk_model_runs.specs.AnsweredCalls.{SegmentsAnswer}
use Rattle.jk_model_runs.specs.Sealed.{IsSealed, IsSealedSegment, SegmentsFit, TopFits, initialisers_of, segment_initialisers, surroundings}
use Rattle.list_lemmas.proofs.FoundItems.{Finds, finds}
use Rattle.list_lemmas.proofs.ItemsOfLists.{Contains-at, Contains-none}
use Rattle.row_laws.specs.KeptRuns.{ActsWell}
use Rattle.machine_laws.specs.KnownMachines.{IsKnownMachine}

-- ---- The thread of a number.

pub thread_place : (m : Machine) (t : ThreadNo) (p : RunningSegment m t) → (i : ℕ) × (slice_get m.threads i ≡ Some p.thread) × (p.thread.number.0 ≡ t.0)
thread_place m t p = by (find has_number m.threads) p.is_thread (finds has_number m.threads)
  where
    has_number : Thread → Bool
    has_number e = e.number.0 == t.0

    by : (o : Option Thread) → o ≡ Some p.thread → Finds has_number m.threads o
        → (i : ℕ) × (slice_get m.threads i ≡ Some p.thread) × (p.thread.number.0 ≡ t.0)
    by None e h = absurd cc
    by (Some x) e h =
        let same : x ≡ p.thread = same_Some x p.thread e in
        (h.0, h.1 ∙ ap (λ (y : Thread). Some y) same, subst (λ (y : Thread). y.number.0 ≡ t.0) same (eqb-true x.number.0 t.0 h.2))

pub same_thread_number : (t u : ThreadNo) → t.0 ≡ u.0 → t ≡ u
same_thread_number t u e = λ i. record { 0 = e i }

-- ---- Segments in a row.

-- the lower ones have called, and the top one fits as it should
pub lower_fit : (m : Machine) (lower : List Segment) (s : Segment) → SegmentsFit m (lower ++ s ∷ [])
    → IsSealedSegment m (λ inside f. TopFits m inside s f) s
lower_fit m [] s h = h
lower_fit m (a ∷ []) s h = h.1
lower_fit m (a ∷ b ∷ lower) s h = lower_fit m (b ∷ lower) s h.1

pub top_answers : (classes : List ClassRecord) (lower : List Segment) (s : Segment) → SegmentsAnswer classes (lower ++ s ∷ [])
    → FramesAnswer classes s.frames
top_answers classes [] s h = h
top_answers classes (a ∷ []) s h = h.2
top_answers classes (a ∷ b ∷ lower) s h = top_answers classes (b ∷ lower) s h.2

-- ---- Frames whose top one fits as this says fit as that says.

module _ (classes : List ClassRecord) (heap : List NamedObject) (P Q : FrameState → Type 0) (weaker : (f : FrameState) → P f → Q f) where
  pub rows_weaker : (frames : List FrameState) → FramesFit P classes heap frames → FramesFit Q classes heap frames
  rows_weaker [] h = tt
  rows_weaker (f ∷ []) h = weaker f h
  rows_weaker (f ∷ above ∷ more) h = (h.0, rows_weaker (above ∷ more) h.1)

pub frames_weaker : (around : Surroundings) (heap : List NamedObject) (P Q : FrameState → Type 0) → ((f : FrameState) → P f → Q f)
    → (frames : List FrameState) → AreSealedFrames around P heap frames → AreSealedFrames around Q heap frames
frames_weaker around heap P Q weaker frames h = record {
  fit = rows_weaker around.classes heap P Q weaker frames h.fit;
  initialise = h.initialise;
  at_home = h.at_home;
  known = h.known;
}

-- ---- The domain of a segment is the one of its number.

pub one_domain : (m : Machine) (d : DomainId) (a b : LiveDomain m d) → a.domain ≡ b.domain
one_domain m d a b = same_Some a.domain b.domain (sym a.is_domain ∙ b.is_domain)

pub one_inside : (m : Machine) (d : DomainId) (a b : LiveDomain m d) → a.inside ≡ b.inside
one_inside m d a b =
    same_Some a.inside b.inside (sym a.is_inside ∙ ap (λ (x : DomainState). x.inside) (one_domain m d a b) ∙ b.is_inside)

-- a segment's frames, said of the home that another place has
pub frames_at : (m : Machine) (Top : Inside → FrameState → Type 0) (s : Segment) (home : LiveDomain m s.shared.domain) → IsSealedSegment m Top s
    → AreSealedFrames (surroundings m home.domain) (Top home.inside) home.inside.heap s.frames
frames_at m Top s home h =
    subst (λ (x : Inside). AreSealedFrames (surroundings m home.domain) (Top x) x.heap s.frames) (one_inside m s.shared.domain h.home home)
    (subst (λ (x : DomainState). AreSealedFrames (surroundings m x) (Top h.home.inside) h.home.inside.heap s.frames)
    (one_domain m s.shared.domain h.home home) h.frames)

-- ---- Classes in progress.

counted_by : (b : Bool) (n : ℕ) → b ≡ true → cond b n 0 ≡ n
counted_by true n e = refl
counted_by false n e = absurd cc

pub counted_here : (d : DomainId) (c : ClassId) (s : Segment) → s.shared.domain.0 ≡ d.0
    → segment_initialisers d c s ≡ count_by (initialises c) s.frames
counted_here d c s same = counted_by (s.shared.domain.0 == d.0) (count_by (initialises c) s.frames) (eq-eqb s.shared.domain.0 d.0 same)

-- ---- In a sealed machine.

module _ (m : Machine) (t : ThreadNo) (p : RunningSegment m t) (sealed : IsSealed m) where
  pub home_there : Contains m.domains p.home.domain
  home_there = Contains-at m.domains p.segment.shared.domain.0 p.home.domain p.home.is_domain

  pub thread_there : Contains m.threads p.thread
  thread_there = let place = thread_place m t p in Contains-at m.threads place.0 p.thread place.1

  pub in_progress : (c : ClassId) → count_by (initialises c) p.segment.frames ≤ progress_by t p.home.inside.own c
  in_progress c =
      let d = p.home.domain.number in
      let all : initialisers_of d c p.thread ≡ progress_by p.thread.number p.home.inside.own c =
      sealed.initialisers.one p.thread p.home.domain p.home.inside c thread_there home_there p.home.is_inside in
      let number : p.thread.number ≡ t = same_thread_number p.thread.number t (thread_place m t p).2 in
      let by_t : progress_by p.thread.number p.home.inside.own c ≡ progress_by t p.home.inside.own c =
      ap (λ (u : ThreadNo). progress_by u p.home.inside.own c) number in
      let split : initialisers_of d c p.thread ≡ sum_by (segment_initialisers d c) p.lower + segment_initialisers d c p.segment =
      ap (λ (xs : List Segment). sum_by (segment_initialisers d c) xs) p.are_segments
      ∙ sum_by_push (segment_initialisers d c) p.lower p.segment in
      let here : segment_initialisers d c p.segment ≡ count_by (initialises c) p.segment.frames =
      counted_here d c p.segment (ap (λ (n : DomainId). n.0) (sym p.home.numbered)) in
      at_most (count_by (initialises c) p.segment.frames) (segment_initialisers d c p.segment) (sum_by (segment_initialisers d c) p.lower)
      (initialisers_of d c p.thread) (progress_by p.thread.number p.home.inside.own c) (progress_by t p.home.inside.own c) here split all by_t
    where
      at_most : (n here lower all by_thread by : ℕ) → here ≡ n → all ≡ lower + here → all ≡ by_thread → by_thread ≡ by → n ≤ by
      at_most n here lower all by_thread by a b c d = omega arith

  -- the running segment's frames, as its top one is found
  pub running_frames : AreSealedFrames (surroundings m p.home.domain) (TopFits m p.home.inside p.segment) p.home.inside.heap p.segment.frames
  running_frames =
      frames_at m (λ inside f. TopFits m inside p.segment f) p.segment p.home
      (lower_fit m p.lower p.segment (subst (SegmentsFit m) p.are_segments (sealed.threads.segments p.thread thread_there)))

-- ---- The law.

module _ (m : Machine) (t : ThreadNo) (p : RunningSegment m t) (known : IsKnownMachine m) where
  sealed : IsSealed m
  sealed = known.0.0

  pub acts_well : p.segment.shared.revoked ≡ false → ActsWell (surroundings m p.home.domain) (setting_of p) t (run_of p)
  acts_well calm = record {
    setting = record {
      classes = refl;
      ranges = refl;
      stand_ins = λ s i there none lists. absurd (Contains-none s there);
      codes = known.1.codes;
      table = known.1.tables p.home.domain (home_there m t p sealed);
    };
    sealed = record {
      inside = sealed.domains.insides p.home.domain p.home.inside (home_there m t p sealed) p.home.is_inside;
      frames = frames_weaker (surroundings m p.home.domain) p.home.inside.heap (TopFits m p.home.inside p.segment)
          (FitsAsTop m.classes p.home.inside.heap) runs p.segment.frames
          (running_frames m t p sealed);
    };
    answers = top_answers m.classes p.lower p.segment
        (subst (SegmentsAnswer m.classes) p.are_segments (known.0.1.segments p.thread (thread_there m t p sealed)));
    progress = in_progress m t p sealed;
  }
    where
      runs : (f : FrameState) → TopFits m p.home.inside p.segment f → FitsAsTop m.classes p.home.inside.heap f
      runs f (inl top) = top
      runs f (inr (revoked, call)) = absurd (never p.segment.shared.revoked calm revoked)
        where
          never : (b : Bool) → b ≡ false → b ≡ true → ⊥
          never b e h = cc
