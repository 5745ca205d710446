-- Where a segment has run and its lowest frame gives what it gave, all calls are answered.
use Rattle.std.proofs.Common.{◌≡◌, ◌⊎◌, inl, inr, true, List, [], ◌∷◌, ◌++◌, subst, ◌∙◌}
use Rattle.jk_model.specs.declared.identifiers.ThreadNo.{ThreadNo}
use Rattle.jk_model_classes.specs.declared.records.ClassRecord.{ClassRecord}
use Rattle.jk_model_sealing.specs.AnsweringFrames.{FramesAnswer}
use Rattle.jk_model_machine_state.specs.Machines.{Machine, Segment}
use Rattle.jk_model_runs.specs.AnsweredCalls.{AreCallsAnswered, SegmentAnswers, SegmentsAnswer}
use Rattle.list_lemmas.proofs.ItemsOfLists.{Contains-at}
use Rattle.machine_laws.specs.RunsInMachines.{GivesStill}
use Rattle.machine_laws.proofs.SegmentsThatRan.{HasRun, after, thread_there}
use Rattle.machine_laws.proofs.ThreadsAfterRuns.{each_thread}

module _ (classes : List ClassRecord) (old new : Segment) (same : new.shared.orphan ≡ old.shared.orphan) (gives : GivesStill classes old.frames new.frames)
    (answers : FramesAnswer classes new.frames) where
  above_answers : (a : Segment) → SegmentAnswers classes a old → SegmentAnswers classes a new
  above_answers a h =
      let lowest = gives h.answers.0 (h.lowest, h.others, h.are_above, h.answers.2) in
      record {
        callers = h.callers;
        caller = h.caller;
        are_below = h.are_below;
        lowest = lowest.0;
        others = lowest.1;
        are_above = lowest.2;
        answers = (h.answers.0, h.answers.1, lowest.3);
      }

  orphan_or : (a : Segment) → (old.shared.orphan ≡ true) ⊎ SegmentAnswers classes a old → (new.shared.orphan ≡ true) ⊎ SegmentAnswers classes a new
  orphan_or a (inl orphan) = inl (same ∙ orphan)
  orphan_or a (inr h) = inr (above_answers a h)

  pub top_answered : (lower : List Segment) → SegmentsAnswer classes (lower ++ old ∷ []) → SegmentsAnswer classes (lower ++ new ∷ [])
  top_answered [] h = answers
  top_answered (a ∷ []) h = (h.0, orphan_or a h.1, answers)
  top_answered (a ∷ b ∷ lower) h = (h.0, h.1, top_answered (b ∷ lower) h.2)

pub calls_answered : (m : Machine) (t : ThreadNo) (r : HasRun m t) → r.segment.shared.orphan ≡ r.place.segment.shared.orphan
    → GivesStill m.classes r.place.segment.frames r.segment.frames → FramesAnswer m.classes r.segment.frames → AreCallsAnswered m
    → AreCallsAnswered (after r)
calls_answered m t r same gives answers h = record {
  segments = each_thread m t r (λ e. SegmentsAnswer m.classes e.segments)
      (top_answered m.classes r.place.segment r.segment same gives answers r.place.lower
      (subst (SegmentsAnswer m.classes) r.place.are_segments (h.segments r.place.thread (thread_there m t r))))
      (λ i e differ at. h.segments e (Contains-at m.threads i e at));
}
