-- Calls are answered where the running segment has become another one that gives what it gave, whether the machine is sealed or not; and all but
-- that which the top segment of a thread answers, whatever that segment has become.
use Rattle.std.proofs.Common.{◌≡◌, ◌≢◌, ◌==◌, Bool, true, false, cond, List, [], ◌∷◌, ◌++◌, map, Contains, Some, refl, sym, ap, subst, ◌∙◌, eq-eqb, ne_eqb}
use Rattle.std.proofs.lemmas.Bool.{eqb-true}
use Rattle.jk_model.specs.declared.identifiers.ThreadNo.{ThreadNo}
use Rattle.jk_model.specs.declared.steps.Raise.{Raise}
use Rattle.jk_model_classes.specs.declared.records.ClassRecord.{ClassRecord}
use Rattle.jk_model_heaps.specs.declared.shapes.Unwound.TheVariants as Unwinding
use Rattle.jk_model_heaps.specs.Workings.{Inside, Run}
use Rattle.jk_model_running.specs.Raising.{RaisesIn}
use Rattle.jk_model_sealing.specs.AnsweringFrames.{FramesAnswer}
use Rattle.jk_model_machine_state.specs.Machines.{Machine, Segment, Thread, without_thread}
use Rattle.jk_model_machine_state.specs.Places.{RunningSegment, run_of, setting_of, with_run, with_running, without_top}
use Rattle.jk_model_runs.specs.AnsweredCalls.{AreCallsAnswered, SegmentsAnswer}
use Rattle.list_lemmas.proofs.ItemsByPlace.{comes_from, mapped_at}
use Rattle.list_lemmas.proofs.ItemsOfLists.{Contains-at, place_of}
use Rattle.machine_laws.specs.RunsInMachines.{GivesStill}
use Rattle.machine_laws.specs.SoundMachines.{AreOthersAnswered}
use Rattle.machine_laws.proofs.LowestFramesStay.{gives_by, raised_lowest}
use Rattle.machine_laws.proofs.RaisesKeep.{caught_answered}
use Rattle.machine_laws.proofs.RaisesWhereMet.{some_frames}
use Rattle.machine_laws.proofs.RunningSegmentsFit.{thread_place, top_answers}
use Rattle.machine_laws.proofs.RunsAgain.{runs_there, set_segments}
use Rattle.machine_laws.proofs.RunsAnswered.{top_answered}
use Rattle.machine_laws.proofs.ThreadsEnded.{answered_without}

-- ---- Segments in a row.

lower_answered : (classes : List ClassRecord) (lower : List Segment) (s : Segment) → SegmentsAnswer classes (lower ++ s ∷ [])
    → SegmentsAnswer classes lower
lower_answered classes [] s h = tt
lower_answered classes (a ∷ []) s h = h.0
lower_answered classes (a ∷ b ∷ lower) s h = (h.0, h.1, lower_answered classes (b ∷ lower) s h.2)

-- ---- Where the segments of a thread become others.

-- each thread is another one, or has these segments
pub each_set : (t : ThreadNo) (segments : List Segment) (threads : List Thread) (P : List Segment → Type 0) → P segments
    → ((e : Thread) → Contains threads e → e.number.0 ≢ t.0 → P e.segments) → (e : Thread) → Contains (map (set_segments t segments) threads) e
    → P e.segments
each_set t segments threads P new old e on =
    let at = place_of (map (set_segments t segments) threads) e on in
    let from = comes_from (set_segments t segments) threads at.0 e at.1 in
    subst (λ (x : Thread). P x.segments) from.gives
    (by from.from (Contains-at threads at.0 from.from from.there) (from.from.number.0 == t.0) refl)
  where
    differs : (x : Thread) → (x.number.0 == t.0) ≡ false → x.number.0 ≢ t.0
    differs x e same = never (x.number.0 == t.0) e (eq-eqb x.number.0 t.0 same)
      where
        never : (b : Bool) → b ≡ false → b ≡ true → ⊥
        never b e h = cc

    by : (x : Thread) → Contains threads x → (b : Bool) → (x.number.0 == t.0) ≡ b → P (cond b (record x { segments = segments }) x).segments
    by x there true e = new
    by x there false e = old x there (differs x e)

module _ (m : Machine) (t : ThreadNo) (p : RunningSegment m t) (h : AreCallsAnswered m) where
  pub own_answered : SegmentsAnswer m.classes (p.lower ++ p.segment ∷ [])
  own_answered =
      let place = thread_place m t p in
      subst (SegmentsAnswer m.classes) p.are_segments (h.segments p.thread (Contains-at m.threads place.0 p.thread place.1))

  pub running_answered : (segment : Segment) (inside : Inside) → segment.shared.orphan ≡ p.segment.shared.orphan
      → GivesStill m.classes p.segment.frames segment.frames → FramesAnswer m.classes segment.frames
      → AreCallsAnswered (with_running p segment inside)
  running_answered segment inside orphan gives answers = record {
    segments = each_set t (p.lower ++ segment ∷ []) m.threads (SegmentsAnswer m.classes)
        (top_answered m.classes p.segment segment orphan gives answers p.lower own_answered) (λ e there differ. h.segments e there);
  }

  -- whatever has become of the running segment
  pub others_left : (segment : Segment) (inside : Inside) → segment.shared.domain ≡ p.segment.shared.domain
      → AreOthersAnswered (with_running p segment inside) t
  others_left segment inside same q = record {
    segments = each_set t q.lower (with_running p segment inside).threads (SegmentsAnswer m.classes)
        (subst (SegmentsAnswer m.classes) (sym (runs_there m t p segment inside same q).0) (lower_answered m.classes p.lower p.segment own_answered))
        (λ e on differ.
        let at = place_of (with_running p segment inside).threads e on in
        let from = comes_from (set_segments t (p.lower ++ segment ∷ [])) m.threads at.0 e at.1 in
        by e differ from.from (Contains-at m.threads at.0 from.from from.there) (from.from.number.0 == t.0) refl from.gives);
  }
    where
      by : (e : Thread) → e.number.0 ≢ t.0 → (x : Thread) → Contains m.threads x → (b : Bool) → (x.number.0 == t.0) ≡ b
          → cond b (record x { segments = p.lower ++ segment ∷ [] }) x ≡ e → SegmentsAnswer m.classes e.segments
      by e differ x there true same is = absurd (differ (ap (λ (y : Thread). y.number.0) (sym is) ∙ eqb-true x.number.0 t.0 same))
      by e differ x there false other is = subst (λ (y : Thread). SegmentsAnswer m.classes y.segments) is (h.segments x there)

  -- something is raised in it, and is caught there
  pub caught_answers : (r : Raise) (run : Run) → RaisesIn (setting_of p) (run_of p) r run Unwinding.Caught → AreCallsAnswered (with_run p run)
  caught_answers r run raises =
      let answers = caught_answered m.classes (setting_of p) (run_of p) run r (top_answers m.classes p.lower p.segment own_answered) raises in
      running_answered (record p.segment { frames = run.frames }) run.inside refl
      (gives_by m.classes p.segment.frames run.frames (raised_lowest (setting_of p) (run_of p) run r Unwinding.Caught raises)
      (some_frames m.classes run.frames answers)) answers

-- ---- Where all but the top one is answered.

module _ (m : Machine) (t : ThreadNo) (p : RunningSegment m t) (h : AreOthersAnswered m t) where
  -- the thread ends
  pub ended_answered : AreCallsAnswered (without_thread t m)
  ended_answered = answered_without m t (λ e there differ. (h p).segments e (stays e there differ))
    where
      stays : (e : Thread) → Contains m.threads e → e.number.0 ≢ t.0 → Contains (without_top p).threads e
      stays e there differ =
          let at = place_of m.threads e there in
          Contains-at (without_top p).threads at.0 e (mapped_at (set_segments t p.lower) m.threads at.0 e at.1 ∙ ap (λ (x : Thread). Some x) (kept (e.number.0 == t.0) (ne_eqb e.number.0 t.0 differ)))
        where
          kept : (b : Bool) → b ≡ false → cond b (record e { segments = p.lower }) e ≡ e
          kept true is = absurd cc
          kept false is = refl
