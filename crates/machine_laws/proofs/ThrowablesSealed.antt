-- A throwable leaves the top segment of a thread: the machine is sealed after its way down, and its calls are answered.
use Rattle.std.proofs.Common.{◌≡◌, ℕ, ◌+◌, true, List, [], ◌∷◌, Contains, slice_get, sum_by, refl, sym, ap, subst, ◌∙◌, arith}
use Rattle.std.specs.List.{AllByRecursion}
use Rattle.std.specs.Prelude.{⊤}
use Rattle.std.proofs.lemmas.List.Sums.{sum_by_push}
use Rattle.std.proofs.lemmas.Option.{same_Some}
use Rattle.jk_model.specs.declared.identifiers.ThreadNo.{ThreadNo}
use Rattle.jk_model.specs.declared.output.Line.{Line}
use Rattle.jk_model.specs.declared.steps.Raise.{Raise}
use Rattle.jk_model_heaps.specs.declared.shapes.Unwound.{Unwound}
use Rattle.jk_model_heaps.specs.declared.shapes.Unwound.TheVariants as Unwinding
use Rattle.jk_model.specs.declared.values.Value.{Value}
use Rattle.jk_model.specs.declared.values.Value.TheVariants as Held
use Rattle.jk_model_domains.specs.Objects.{NamedObject, Plain}
use Rattle.jk_model_heaps.specs.Workings.{Inside, Run, with_heap}
use Rattle.jk_model_running.specs.Raising.{RaisesIn}
use Rattle.jk_model_sealing.specs.AnsweringFrames.{FramesAnswer}
use Rattle.jk_model_sealing.specs.SealedInsides.{IsKnownValue}
use Rattle.jk_model_sharing.specs.Segments.{with_revoked}
use Rattle.jk_model_machine_state.specs.Machines.{DomainState, Machine, Segment, Thread, caps_of, without_thread}
use Rattle.jk_model_machine_state.specs.Places.{RunningSegment, run_of, setting_of, with_run, without_top}
use Rattle.jk_model_crossings.specs.Passages.{Passes}
use Rattle.jk_model_crossings.specs.Throwing.{Brings, Throws, TopTwo, passed_down}
use Rattle.jk_model_runs.specs.AnsweredCalls.{AreCallsAnswered}
use Rattle.jk_model_runs.specs.Sealed.{IsSealed, initialisers_of, segment_initialisers, surroundings}
use Rattle.list_lemmas.proofs.ItemsOfLists.{Contains-at}
use Rattle.list_lemmas.proofs.LastItems.{one_last}
use Rattle.heap_laws.proofs.StillFits.{frames_sealed, meets_raise}
use Rattle.heap_laws.specs.RaisableObjects.{IsThrowable, MayBeRaised, MayMeetRaise}
use Rattle.row_laws.specs.UnwoundFrames.{FitsUnwound}
use Rattle.machine_laws.specs.CallsAndAnswers.{IsLeft, IsThrown}
use Rattle.machine_laws.specs.SoundMachines.{AreOthersAnswered, HasSoundClasses}
use Rattle.machine_laws.proofs.CopiesTaken.{HasInside, grows, keeps_taker, throwable_copied}
use Rattle.machine_laws.proofs.LowestSegmentsLeft.{no_initialisers}
use Rattle.machine_laws.proofs.RaisesWhereMet.{IsMet, has_run, leads, meets_at, met, throws_on}
use Rattle.machine_laws.proofs.RunningSegmentsFit.{top_answers}
use Rattle.machine_laws.proofs.RunsAgain.{inside_there, runs_there}
use Rattle.machine_laws.proofs.SealedAfterRuns.{sealed_after}
use Rattle.machine_laws.proofs.SegmentsAnswered.{caught_answers, ended_answered, others_left, own_answered, running_answered}
use Rattle.machine_laws.proofs.SegmentsThatRan.{after}
use Rattle.machine_laws.proofs.ThreadsEnded.{InitialisesNone, sealed_without}
use Rattle.machine_laws.proofs.TopSegmentsTaken.{below_there, leads_there, one_thread, sealed_there, stands_there, taken_sealed, without}
use Rattle.machine_laws.proofs.WorldsKept.{running_keeps, sound_classes_stay}

-- ---- What is raised where a segment is met.

-- no frame of the top segment is left, and a throwable of its domain has left it
pub record HasThrown (m : Machine) (t : ThreadNo) (a : ℕ) : Type 0 where
  pub left : (q : RunningSegment m t) → q.segment.frames ≡ []
  pub throwable : (q : RunningSegment m t) → IsThrowable m.classes q.home.inside.heap a

abbrev pub Remains : Machine → ThreadNo → Unwound → Type 0
Remains m t Unwinding.Caught = ⊤
Remains m t (Unwinding.Uncaught a) = HasThrown m t a

-- what it leads to
pub record LeadsWell (m : Machine) (t : ThreadNo) (unwound : Unwound) : Type 0 where
  pub sealed : IsSealed m
  pub sound : HasSoundClasses m
  pub remains : Remains m t unwound

module _ (m : Machine) (t : ThreadNo) (h : IsMet m t) (r : Raise) (can : MayBeRaised m.classes h.inside.heap r) where
  remains_by : (q : RunningSegment (met m t h) t) (run : Run) (u : Unwound) → FitsUnwound (surroundings m h.place.home.domain) run u → Remains (with_run q run) t u
  remains_by q run Unwinding.Caught fits = tt
  remains_by q run (Unwinding.Uncaught a) fits = record {
    left = λ z.
        ap (λ (s : Segment). s.frames) (runs_there (met m t h) t q (record q.segment { frames = run.frames }) run.inside refl z).1 ∙ fits.0;
    throwable = λ z.
        subst (λ (x : Inside). IsThrowable m.classes x.heap a)
        (sym (inside_there (met m t h) t q (record q.segment { frames = run.frames }) run.inside refl z)) fits.1;
  }

  at_met : (q : RunningSegment (met m t h) t) (run : Run) (u : Unwound) → RaisesIn (setting_of q) (run_of q) r run u → LeadsWell (with_run q run) t u
  at_met q run u raises = record {
    sealed = subst IsSealed (sym (leads m t h q r can run u raises)) (sealed_after m t (has_run m t h q r can run u raises));
    sound = subst HasSoundClasses (sym (leads m t h q r can run u raises))
        (sound_classes_stay m (after (has_run m t h q r can run u raises))
        (running_keeps h.place (record h.segment { frames = run.frames }) run.inside) h.sound);
    remains = remains_by q run u (throws_on m t h q r can run u raises);
  }

  -- in a machine that is the same
  pub leads_well : (mid : Machine) → mid ≡ met m t h → (q : RunningSegment mid t) (run : Run) (u : Unwound)
      → RaisesIn (setting_of q) (run_of q) r run u → LeadsWell (with_run q run) t u
  leads_well mid is =
      subst
      (λ (x : Machine). (q : RunningSegment x t) (run : Run) (u : Unwound) → RaisesIn (setting_of q) (run_of q) r run u
      → LeadsWell (with_run q run) t u) (sym is) at_met

-- ---- The machine without the top segment.

-- what is raised in the segment below, where it stands, and in which machine
pub record IsBrought (m : Machine) (t : ThreadNo) (sealed : IsSealed m) (s : TopTwo m t) (left : s.left.segment.frames ≡ []) (r : Raise) (mid : Machine)
    : Type 0 where
  pub met_there : IsMet (without m t sealed s left) t
  pub may : MayBeRaised m.classes met_there.inside.heap r
  pub is : mid ≡ met (without m t sealed s left) t met_there

module _ (m : Machine) (t : ThreadNo) (sealed : IsSealed m) (sound : HasSoundClasses m) (s : TopTwo m t) (left : s.left.segment.frames ≡ []) where
  abbrev there : Machine
  there = without m t sealed s left

  abbrev place : RunningSegment there t
  place = below_there m t sealed s left

  sound_there : HasSoundClasses there
  sound_there = record { linked = sound.linked; codes = sound.codes; tables = sound.tables }

  abbrev stands_met : IsMet there t
  stands_met = meets_at there t (sealed_there m t sealed s left) sound_there place s.below.segment refl refl refl

  abbrev pub giver : HasInside m
  giver = record {
    domain = s.left.home.domain;
    inside = s.left.home.inside;
    there = Contains-at m.domains s.left.segment.shared.domain.0 s.left.home.domain s.left.home.is_domain;
    is_inside = s.left.home.is_inside;
  }

  abbrev pub taker : HasInside m
  taker = record {
    domain = s.below.home.domain;
    inside = s.below.home.inside;
    there = Contains-at m.domains s.below.segment.shared.domain.0 s.below.home.domain s.below.home.is_domain;
    is_inside = s.below.home.is_inside;
  }

  module _ (given : List Value) (known : AllByRecursion (IsKnownValue (caps_of m) s.left.home.inside.heap) given) (heap : List NamedObject)
      (values : List Value) (passes : Passes (passed_down s given) heap values) where
    abbrev copied_met : IsMet there t
    copied_met = record {
      place = place;
      sealed = sealed_there m t sealed s left;
      sound = sound_there;
      segment = s.below.segment;
      inside = with_heap s.below.home.inside heap;
      number = refl;
      domain = refl;
      keeps = keeps_taker m sealed sound giver taker given known heap values passes (setting_of place) refl;
      frames = frames_sealed s.below.home.inside.heap heap (grows m sealed sound giver taker given known heap values passes)
          (MayMeetRaise m.classes s.below.home.inside.heap) (MayMeetRaise m.classes heap)
          (meets_raise s.below.home.inside.heap heap (grows m sealed sound giver taker given known heap values passes) m.classes)
          (surroundings there s.below.home.domain) s.below.segment.frames stands_met.frames;
      in_progress = stands_met.in_progress;
      progress = record { own = stands_met.progress.own; others = stands_met.progress.others };
      fewer = stands_met.fewer;
    }

  -- something stands for it in the segment below
  pub stands_brought : (r : Raise) → MayBeRaised m.classes s.below.home.inside.heap r → IsBrought m t sealed s left r (without_top s.left)
  stands_brought r may = record { met_there = stands_met; may = may; is = stands_there m t sealed s left }

  pub brought : (a : ℕ) → IsThrowable m.classes s.left.home.inside.heap a → (r : Raise) (mid : Machine) → Brings s a r mid
      → IsBrought m t sealed s left r mid
  brought a throws r mid (Brings.is_death b death) = stands_brought r tt
  brought a throws r mid (Brings.is_uncopiable b alive not) = stands_brought r tt
  brought a throws r mid (Brings.is_too_large b alive large) = stands_brought r tt
  brought a throws r mid (Brings.is_copied b alive heap c passes) =
      let known : AllByRecursion (IsKnownValue (caps_of m) s.left.home.inside.heap) (Held.Obj a ∷ []) =
      ((Plain throws.0 throws.1, throws.2), tt) in
      record {
        met_there = copied_met (Held.Obj a ∷ []) known heap (Held.Obj c ∷ []) passes;
        may = throwable_copied m sealed sound giver taker (Held.Obj a ∷ []) known heap (Held.Obj c ∷ []) passes a c passes.copy.values.0 throws;
        is = sym (leads_there m t sealed s left s.below.segment (with_heap s.below.home.inside heap));
      }

-- ---- The way down.

module _ (m : Machine) (t : ThreadNo) (sealed : IsSealed m) (p : RunningSegment m t) where
  -- the lowest segment initialises nothing where no frame of it is left
  lone_idle : p.lower ≡ [] → p.segment.frames ≡ [] → (e : Thread) → Contains m.threads e → e.number.0 ≡ t.0 → InitialisesNone e
  lone_idle lowest left e on same d c =
      let f : Segment → ℕ = segment_initialisers d c in
      let below : sum_by f p.lower ≡ 0 = ap (sum_by f) lowest in
      let all : initialisers_of d c p.thread ≡ sum_by f p.lower + f p.segment = ap (sum_by f) p.are_segments ∙ sum_by_push f p.lower p.segment in
      let own : f p.segment ≡ 0 = no_initialisers d c p.segment left in
      let one : initialisers_of d c e ≡ initialisers_of d c p.thread = ap (initialisers_of d c) (one_thread m t sealed p e on same) in
      omega (arith, below, all, own, one)

  pub ended_sealed : p.lower ≡ [] → p.segment.frames ≡ [] → IsSealed (without_thread t m)
  ended_sealed lowest left = sealed_without m t sealed (lone_idle lowest left)

pub throws_sealed : (t : ThreadNo) (n : ℕ) (m : Machine) (a : ℕ) (lines : List Line) (new : Machine) → Throws t n m a lines new → IsSealed m
    → HasSoundClasses m → HasThrown m t a → IsSealed new
throws_sealed t n m a lines new (Throws.ends w b p class lowest orphan) sealed sound thrown = ended_sealed w t sealed p lowest (thrown.left p)
throws_sealed t n m a lines new (Throws.ends_orphan w b p lowest orphan) sealed sound thrown = ended_sealed w t sealed p lowest (thrown.left p)
throws_sealed t n m a lines new (Throws.drops w b s orphan) sealed sound thrown = taken_sealed w t sealed s (thrown.left s.left)
throws_sealed t n m a lines new (Throws.caught w mid b s r orphan brings p run raised) sealed sound thrown =
    let left = thrown.left s.left in
    let x = brought w t sealed sound s left b (thrown.throwable s.left) r mid brings in
    (leads_well (without w t sealed s left) t x.met_there r x.may mid x.is p run Unwinding.Caught raised).sealed
throws_sealed t n m a lines new (Throws.goes_on k w mid end b c said s r orphan brings p run raised further) sealed sound thrown =
    let left = thrown.left s.left in
    let x = brought w t sealed sound s left b (thrown.throwable s.left) r mid brings in
    let l = leads_well (without w t sealed s left) t x.met_there r x.may mid x.is p run (Unwinding.Uncaught c) raised in
    throws_sealed t k (with_run p run) c said end further l.sealed l.sound l.remains

-- ---- Calls are answered after it.

pub below_answered : (m : Machine) (t : ThreadNo) (s : TopTwo m t) → AreOthersAnswered m t → FramesAnswer m.classes s.below.segment.frames
below_answered m t s h =
    top_answers m.classes s.below.lower s.below.segment (own_answered (without_top s.left) t s.below (h s.left))

brings_answered : (m : Machine) (t : ThreadNo) (s : TopTwo m t) → AreOthersAnswered m t → (a : ℕ) (r : Raise) (mid : Machine) → Brings s a r mid
    → AreCallsAnswered mid
brings_answered m t s h a r mid (Brings.is_death b death) = h s.left
brings_answered m t s h a r mid (Brings.is_uncopiable b alive not) = h s.left
brings_answered m t s h a r mid (Brings.is_too_large b alive large) = h s.left
brings_answered m t s h a r mid (Brings.is_copied b alive heap c passes) =
    running_answered (without_top s.left) t s.below (h s.left) s.below.segment (with_heap s.below.home.inside heap) refl (λ result gives. gives)
    (below_answered m t s h)

pub throws_answered : (t : ThreadNo) (n : ℕ) (m : Machine) (a : ℕ) (lines : List Line) (new : Machine) → Throws t n m a lines new
    → AreOthersAnswered m t → AreCallsAnswered new
throws_answered t n m a lines new (Throws.ends w b p class lowest orphan) h = ended_answered w t p h
throws_answered t n m a lines new (Throws.ends_orphan w b p lowest orphan) h = ended_answered w t p h
throws_answered t n m a lines new (Throws.drops w b s orphan) h =
    running_answered (without_top s.left) t s.below (h s.left) (record s.below.segment { shared = with_revoked true s.below.segment.shared })
    s.below.home.inside refl (λ result gives. gives) (below_answered w t s h)
throws_answered t n m a lines new (Throws.caught w mid b s r orphan brings p run raised) h =
    caught_answers mid t p (brings_answered w t s h b r mid brings) r run raised
throws_answered t n m a lines new (Throws.goes_on k w mid end b c said s r orphan brings p run raised further) h =
    throws_answered t k (with_run p run) c said end further
    (others_left mid t p (brings_answered w t s h b r mid brings) (record p.segment { frames = run.frames }) run.inside refl)

-- ---- The law.

-- the running segment of a thread is one
pub one_running : (m : Machine) (t : ThreadNo) (p q : RunningSegment m t) → (q.segment ≡ p.segment) × (q.home.inside ≡ p.home.inside)
one_running m t p q = (segments, same_Some q.home.inside p.home.inside (sym q.home.is_inside ∙ ap (λ (d : DomainState). d.inside) domains ∙ p.home.is_inside))
  where
    threads : q.thread ≡ p.thread
    threads = same_Some q.thread p.thread (sym q.is_thread ∙ p.is_thread)

    segments : q.segment ≡ p.segment
    segments =
        (one_last q.lower p.lower q.segment p.segment (sym q.are_segments ∙ ap (λ (e : Thread). e.segments) threads ∙ p.are_segments)).1

    domains : q.home.domain ≡ p.home.domain
    domains =
        same_Some q.home.domain p.home.domain
        (sym q.home.is_domain ∙ ap (λ (x : Segment). slice_get m.domains x.shared.domain.0) segments ∙ p.home.is_domain)

pub has_thrown : (m : Machine) (t : ThreadNo) (p : RunningSegment m t) (a : ℕ) → IsLeft p → IsThrown p a → HasThrown m t a
has_thrown m t p a left thrown = record {
  left = λ q. ap (λ (x : Segment). x.frames) (one_running m t p q).0 ∙ left;
  throwable = λ q.
      subst (λ (x : Inside). IsThrowable m.classes x.heap a) (sym (one_running m t p q).1)
      (thrown.throwable.class, thrown.throwable.fields, thrown.throwable.is_object, thrown.below);
}
