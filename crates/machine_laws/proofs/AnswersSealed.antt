-- The lowest frame of a thread's top segment has returned: the machine is sealed where its answer has gone down, and calls stay answered.
use Rattle.std.proofs.Common.{◌≡◌, ℕ, inl, inr, true, List, [], ◌∷◌, ◌++◌, append_assoc, Option, Some, None, refl, sym, ap, subst, ◌∙◌, arith}
use Rattle.std.specs.List.{AllByRecursion}
use Rattle.jk_model.specs.declared.identifiers.ThreadNo.{ThreadNo}
use Rattle.jk_model.specs.declared.output.Line.{Line}
use Rattle.jk_model.specs.declared.steps.Raise.TheVariants as Raised
use Rattle.jk_model.specs.declared.steps.Standing.TheVariants as Stands
use Rattle.jk_model.specs.declared.values.Value.{Value}
use Rattle.jk_model_classes.specs.declared.records.ClassRecord.{ClassRecord}
use Rattle.jk_model_classes.specs.declared.records.TypeRef.{TypeRef}
use Rattle.jk_model_classes.specs.Worlds.{NamedClass}
use Rattle.jk_model_domains.specs.Objects.{NamedObject}
use Rattle.jk_model_domains.specs.OwnStates.{OwnState}
use Rattle.jk_model_domains.specs.ValueTypes.{HoldsDeclared}
use Rattle.jk_model_frames.specs.Frames.{FrameState, frames_chunks}
use Rattle.jk_model_heaps.specs.Capabilities.{CapRange}
use Rattle.jk_model_heaps.specs.CalledFrames.{as_entries, resumed}
use Rattle.jk_model_heaps.specs.Workings.{Inside, with_heap}
use Rattle.jk_model_sealing.specs.AnsweringFrames.{AwaitsResult, FramesAnswer}
use Rattle.jk_model_sealing.specs.ClassesInProgress.{progress_by}
use Rattle.jk_model_sealing.specs.FittingFrames.{FitsAsTop, FitsAtCall}
use Rattle.jk_model_sealing.specs.SealedInsides.{IsKnownValue, IsSealedInside, Surroundings}
use Rattle.jk_model_sealing.specs.SealedRuns.{AreSealedFrames}
use Rattle.jk_model_sharing.specs.Segments.{with_revoked}
use Rattle.jk_model_machine_state.specs.Machines.{Machine, Segment, caps_of}
use Rattle.jk_model_machine_state.specs.Places.{RunningSegment, setting_of, with_running, without_top}
use Rattle.jk_model_crossings.specs.Answers.{Receives, Returns}
use Rattle.jk_model_crossings.specs.Throwing.{TopTwo}
use Rattle.jk_model_runs.specs.AnsweredCalls.{AreCallsAnswered}
use Rattle.jk_model_runs.specs.Sealed.{CallerFits, IsSealed, IsSealedSegment, SegmentsFit, TopFits, surroundings}
use Rattle.list_lemmas.proofs.ItemsOfLists.{Contains-at}
use Rattle.list_lemmas.proofs.LastItems.{each-append, one_last}
use Rattle.heap_laws.proofs.CopiesFit.{copied_values_fit}
use Rattle.heap_laws.proofs.StillFits.{fits_at_call, frames_sealed}
use Rattle.heap_laws.specs.ClassesInProgress.{count_initialisers}
use Rattle.heap_laws.specs.FittingOutcomes.{IsResult}
use Rattle.heap_laws.specs.KeptInsides.{KeepsInside}
use Rattle.row_laws.proofs.CallersResume.{resumes}
use Rattle.row_laws.proofs.InstructionsFollowed.{value_known}
use Rattle.row_laws.proofs.ActingSegments.{stays_inside}
use Rattle.row_laws.proofs.FramesInARow.{answers_replaced, chunks_same, count_same, fit_top}
use Rattle.machine_laws.specs.CallsAndAnswers.{Awaits, IsAnswerOf, IsLeft, IsTaken}
use Rattle.machine_laws.specs.SoundMachines.{AreOthersAnswered, HasSoundClasses}
use Rattle.machine_laws.proofs.CopiesTaken.{keeps_taker, values_known}
use Rattle.machine_laws.proofs.LowestFramesStay.{gives_by, lowest_method, same_lowest}
use Rattle.machine_laws.proofs.RaisesSealed.{raises_answered, raises_sealed}
use Rattle.machine_laws.proofs.RaisesWhereMet.{some_frames}
use Rattle.machine_laws.proofs.RunningSegmentsFit.{frames_at, frames_weaker, thread_there}
use Rattle.machine_laws.proofs.SealedAfterRuns.{sealed_after}
use Rattle.machine_laws.proofs.SegmentsAnswered.{ended_answered, running_answered}
use Rattle.machine_laws.proofs.SegmentsThatRan.{HasRun}
use Rattle.machine_laws.proofs.ThrowablesSealed.{below_answered, ended_sealed, giver, one_running, stands_brought, taker}
use Rattle.machine_laws.proofs.TopFramesReplaced.{frames_replaced}
use Rattle.machine_laws.proofs.TopSegmentsTaken.{below_there, leads_there, lower_is, sealed_there, taken_sealed, without}

-- ---- A frame that waits for an answer goes on with it.

-- a value of the type, which is known, or none where there is no type
pub record SuitsCall (around : Surroundings) (heap : List NamedObject) (f : FrameState) (v : Option Value) : Type 0 where
  pub result : Option TypeRef
  pub awaits : AwaitsResult around.classes f result
  pub is : IsResult around heap result v

pub frames_resume : (m : Machine) → HasSoundClasses m → (table : List NamedClass) (caps : List CapRange) (heap : List NamedObject) (callers : List FrameState)
    (caller : FrameState) (v : Option Value)
    → AreSealedFrames (record { classes = m.classes; table = table; caps = caps }) (FitsAtCall m.classes heap) heap (callers ++ caller ∷ [])
    → SuitsCall (record { classes = m.classes; table = table; caps = caps }) heap caller v
    → AreSealedFrames (record { classes = m.classes; table = table; caps = caps }) (FitsAsTop m.classes heap) heap (callers ++ resumed v caller ∷ [])
frames_resume m sound table caps heap callers caller v frames suits =
    let around : Surroundings = record { classes = m.classes; table = table; caps = caps } in
    let call : FitsAtCall m.classes heap caller = fit_top m.classes heap (FitsAtCall m.classes heap) callers caller frames.fit in
    frames_replaced around heap (FitsAtCall m.classes heap) (FitsAsTop m.classes heap) callers caller (resumed v caller) (refl, refl) (λ h. h) (λ h. h)
    (λ known. (known.0, each-append (IsKnownValue caps heap) caller.stack (as_entries v) known.1 (value_known around heap suits.result v suits.is)))
    (inr (inl call.no_need, resumes around sound.codes heap caller call suits.result v suits.awaits suits.is)) frames

-- ---- The segment below stands at its call.

pub calls_from : (m : Machine) (front : List Segment) (s above : Segment) → SegmentsFit m (front ++ s ∷ above ∷ []) → IsSealedSegment m (CallerFits m) s
calls_from m [] s above h = h.0
calls_from m (a ∷ []) s above h = h.1.0
calls_from m (a ∷ b ∷ front) s above h = calls_from m (b ∷ front) s above h.1

module _ (m : Machine) (t : ThreadNo) (sealed : IsSealed m) (sound : HasSoundClasses m) (s : TopTwo m t) (left : s.left.segment.frames ≡ []) where
  abbrev there : Machine
  there = without m t sealed s left

  abbrev place : RunningSegment there t
  place = below_there m t sealed s left

  abbrev around : Surroundings
  around = surroundings m s.below.home.domain

  abbrev old : Inside
  old = s.below.home.inside

  stands : AreSealedFrames around (FitsAtCall m.classes old.heap) old.heap s.below.segment.frames
  stands =
      frames_at m (CallerFits m) s.below.segment
      (record {
        domain = s.below.home.domain;
        is_domain = s.below.home.is_domain;
        numbered = s.below.home.numbered;
        inside = s.below.home.inside;
        is_inside = s.below.home.is_inside;
      })
      (calls_from m s.below.lower s.below.segment s.left.segment
      (subst (SegmentsFit m)
      (s.left.are_segments ∙ ap (λ (ss : List Segment). ss ++ s.left.segment ∷ []) (lower_is m t sealed s left)
      ∙ append_assoc s.below.lower (s.below.segment ∷ []) (s.left.segment ∷ []))
      (sealed.threads.segments s.left.thread (thread_there m t s.left sealed))))

  -- it takes an answer
  module _ (inside : Inside) (keeps : KeepsInside around (setting_of place) old inside) (same : inside.own ≡ old.own) (v : Option Value)
      (callers : List FrameState) (caller : FrameState) (are : s.below.segment.frames ≡ callers ++ caller ∷ [])
      (suits : SuitsCall around inside.heap caller v) where
    abbrev resumes_there : Segment
    resumes_there = record s.below.segment { frames = callers ++ resumed v caller ∷ [] }

    abbrev has_run : HasRun there t
    has_run = record {
      place = place;
      sealed = sealed_there m t sealed s left;
      segment = resumes_there;
      inside = inside;
      number = refl;
      domain = refl;
      keeps = keeps;
      frames = frames_weaker around inside.heap (FitsAsTop m.classes inside.heap) (TopFits there inside resumes_there) (λ f top. inl top)
          (callers ++ resumed v caller ∷ [])
          (frames_resume m sound s.below.home.domain.table (caps_of m) inside.heap callers caller v
          (frames_sealed old.heap inside.heap keeps.grown (FitsAtCall m.classes old.heap) (FitsAtCall m.classes inside.heap)
          (fits_at_call old.heap inside.heap keeps.grown m.classes) around (callers ++ caller ∷ [])
          (subst (AreSealedFrames around (FitsAtCall m.classes old.heap) old.heap) are stands)) suits);
      progress = record {
        own = λ c.
            let count = count_same c callers caller (resumed v caller) refl in
            let before = ap (count_initialisers c) are in
            let states = ap (λ (own : OwnState). progress_by t own c) same in
            omega (arith, count, before, states);
        others = λ u c apart. ap (λ (own : OwnState). progress_by u own c) same;
      };
      chunks =
          let cost = chunks_same callers caller (resumed v caller) refl in
          let before = ap frames_chunks are in
          omega (arith, cost, before);
    }

    pub takes_sealed : IsSealed (with_running s.below resumes_there inside)
    takes_sealed = subst IsSealed (leads_there m t sealed s left resumes_there inside) (sealed_after there t has_run)

-- ---- What is taken.

-- the caller that awaits is the one that receives
pub suits_by : (m : Machine) (table : List NamedClass) (caps : List CapRange) (heap target : List NamedObject) (frames callers : List FrameState) (caller : FrameState)
    (v w : Option Value) → (a : Awaits m.classes heap frames v) → frames ≡ callers ++ caller ∷ []
    → ((o : Option TypeRef) → IsAnswerOf m.classes heap o v → IsResult (record { classes = m.classes; table = table; caps = caps }) target o w)
    → SuitsCall (record { classes = m.classes; table = table; caps = caps }) target caller w
suits_by m table caps heap target frames callers caller v w a are turn = record {
  result = a.result;
  awaits = subst (λ (f : FrameState). AwaitsResult m.classes f a.result)
      (one_last a.callers callers a.caller caller (sym a.are_frames ∙ are)).1 a.awaits;
  is = turn a.result a.answer;
}

pub no_answer : (classes : List ClassRecord) (heap target : List NamedObject) (taking : Surroundings) (o : Option TypeRef) → IsAnswerOf classes heap o None
    → IsResult taking target o None
no_answer classes heap target taking None h = tt
no_answer classes heap target taking (Some t) h = absurd h

pub an_answer : (classes : List ClassRecord) (heap target : List NamedObject) (taking : Surroundings) (v w : Value)
    → ((t : TypeRef) → HoldsDeclared classes heap v t → HoldsDeclared taking.classes target w t) → IsKnownValue taking.caps target w
    → (o : Option TypeRef) → IsAnswerOf classes heap o (Some v) → IsResult taking target o (Some w)
an_answer classes heap target taking v w fits known (Some t) h = (fits t h, known)
an_answer classes heap target taking v w fits known None h = absurd h

-- ---- The way down.

left_of : (m : Machine) (t : ThreadNo) (p : RunningSegment m t) → IsLeft p → (q : RunningSegment m t) → q.segment.frames ≡ []
left_of m t p gone q = ap (λ (x : Segment). x.frames) (one_running m t p q).0 ∙ gone

taker_sealed : (m : Machine) (t : ThreadNo) → IsSealed m → (s : TopTwo m t)
    → IsSealedInside (surroundings m s.below.home.domain) s.below.home.domain.quotas.heap s.below.home.inside
taker_sealed m t sealed s =
    sealed.domains.insides s.below.home.domain s.below.home.inside
    (Contains-at m.domains s.below.segment.shared.domain.0 s.below.home.domain s.below.home.is_domain) s.below.home.is_inside

pub returns_sealed : (m : Machine) (t : ThreadNo) (p : RunningSegment m t) (v : Option Value) (n : ℕ) (lines : List Line) (new : Machine) → IsSealed m
    → HasSoundClasses m → IsLeft p → IsTaken m t v → Returns m t v n lines new → IsSealed new
returns_sealed m t p v n lines new sealed sound gone taken (Returns.ends w q lowest) = ended_sealed m t sealed q lowest (left_of m t p gone q)
returns_sealed m t p v n lines new sealed sound gone taken (Returns.drops w s orphan) = taken_sealed m t sealed s (left_of m t p gone s.left)
returns_sealed m t p v n lines new sealed sound gone taken (Returns.gives_nothing s end orphan r) =
    let left = left_of m t p gone s.left in
    subst IsSealed (sym r.leads)
    (takes_sealed m t sealed sound s left (with_heap s.below.home.inside s.below.home.inside.heap)
    (stays_inside (surroundings m s.below.home.domain) (setting_of (below_there m t sealed s left)) s.below.home.inside
    (taker_sealed m t sealed s)) refl None r.callers r.caller r.are_frames
    (suits_by m s.below.home.domain.table (caps_of m) s.left.home.inside.heap s.below.home.inside.heap s.below.segment.frames r.callers r.caller None
    None (taken s orphan).0 r.are_frames
    (no_answer m.classes s.left.home.inside.heap s.below.home.inside.heap (surroundings m s.below.home.domain))))
returns_sealed m t p v n lines new sealed sound gone taken (Returns.gives x w s heap end orphan passes r) =
    let left = left_of m t p gone s.left in
    let known : AllByRecursion (IsKnownValue (caps_of m) s.left.home.inside.heap) (x ∷ []) = ((taken s orphan).1, tt) in
    let from = giver m t sealed sound s left in
    let to = taker m t sealed sound s left in
    subst IsSealed (sym r.leads)
    (takes_sealed m t sealed sound s left (with_heap s.below.home.inside heap)
    (keeps_taker m sealed sound from to (x ∷ []) known heap (w ∷ []) passes (setting_of (below_there m t sealed s left)) refl) refl (Some w) r.callers
    r.caller r.are_frames
    (suits_by m s.below.home.domain.table (caps_of m) s.left.home.inside.heap heap s.below.segment.frames r.callers r.caller (Some x) (Some w)
    (taken s orphan).0 r.are_frames
    (an_answer m.classes s.left.home.inside.heap heap (surroundings m s.below.home.domain) x w
    (λ type holds.
    copied_values_fit m.classes (record { heap = s.left.home.inside.heap; values = x ∷ [] }) s.below.home.inside.heap
    (record { heap = heap; values = w ∷ [] }) passes.pairs x w type passes.copy passes.copy.values.0 holds)
    (values_known m sealed sound from to (x ∷ []) known heap (w ∷ []) passes).0)))
returns_sealed m t p v n lines new sealed sound gone taken (Returns.is_uncopiable x s k said end orphan not raised) =
    let left = left_of m t p gone s.left in
    let b = stands_brought m t sealed sound s left (Raised.Standing Stands.NotCopiable) tt in
    raises_sealed (without m t sealed s left) t b.met_there (Raised.Standing Stands.NotCopiable) b.may (without_top s.left) b.is k said end raised
returns_sealed m t p v n lines new sealed sound gone taken (Returns.is_too_large x s k said end orphan large raised) =
    let left = left_of m t p gone s.left in
    let b = stands_brought m t sealed sound s left (Raised.Standing Stands.OutOfMemoryError) tt in
    raises_sealed (without m t sealed s left) t b.met_there (Raised.Standing Stands.OutOfMemoryError) b.may (without_top s.left) b.is k said end raised

-- ---- Calls are answered after it.

receives_answered : (m : Machine) (t : ThreadNo) (s : TopTwo m t) → AreOthersAnswered m t → (heap : List NamedObject) (v : Option Value)
    (new : Machine) → Receives s.below heap v new → AreCallsAnswered new
receives_answered m t s h heap v new r =
    let below = below_answered m t s h in
    let answers = answers_replaced m.classes r.callers r.caller (resumed v r.caller) (refl, refl)
    (subst (FramesAnswer m.classes) r.are_frames below) in
    subst AreCallsAnswered (sym r.leads)
    (running_answered (without_top s.left) t s.below (h s.left) (record s.below.segment { frames = r.callers ++ resumed v r.caller ∷ [] })
    (with_heap s.below.home.inside heap) refl
    (gives_by m.classes s.below.segment.frames (r.callers ++ resumed v r.caller ∷ [])
    (inr (same_lowest r.callers r.caller (resumed v r.caller) [] [] refl ∙ ap lowest_method (sym r.are_frames)))
    (some_frames m.classes (r.callers ++ resumed v r.caller ∷ []) answers)) answers)

pub returns_answered : (m : Machine) (t : ThreadNo) (v : Option Value) (n : ℕ) (lines : List Line) (new : Machine) → AreOthersAnswered m t
    → Returns m t v n lines new → AreCallsAnswered new
returns_answered m t v n lines new h (Returns.ends w p lowest) = ended_answered m t p h
returns_answered m t v n lines new h (Returns.drops w s orphan) =
    running_answered (without_top s.left) t s.below (h s.left) (record s.below.segment { shared = with_revoked true s.below.segment.shared })
    s.below.home.inside refl (λ result gives. gives) (below_answered m t s h)
returns_answered m t v n lines new h (Returns.gives_nothing s end orphan r) =
    receives_answered m t s h s.below.home.inside.heap None end r
returns_answered m t v n lines new h (Returns.gives x w s heap end orphan passes r) = receives_answered m t s h heap (Some w) end r
returns_answered m t v n lines new h (Returns.is_uncopiable x s k said end orphan not raised) =
    raises_answered (without_top s.left) t (Raised.Standing Stands.NotCopiable) k said end (h s.left) raised
returns_answered m t v n lines new h (Returns.is_too_large x s k said end orphan large raised) =
    raises_answered (without_top s.left) t (Raised.Standing Stands.OutOfMemoryError) k said end (h s.left) raised
