-- Calls that are answered stay so with more classes behind.
use Rattle.std.proofs.Common.{List, [], ◌∷◌, ◌++◌, Option, inl, inr, subst}
use Rattle.jk_model_classes.specs.declared.records.ClassRecord.{ClassRecord}
use Rattle.jk_model_classes.specs.declared.records.TypeRef.{TypeRef}
use Rattle.jk_model_classes.specs.Lookups.{MethodIs}
use Rattle.jk_model_frames.specs.Frames.{FrameState}
use Rattle.jk_model_heaps.specs.RunningCode.{RunsCode}
use Rattle.jk_model_machine_state.specs.Machines.{Segment}
use Rattle.jk_model_runs.specs.AnsweredCalls.{SegmentAnswers, SegmentsAnswer}
use Rattle.jk_model_sealing.specs.AnsweringFrames.{AwaitsResult, EachAnswers, FrameAnswers, FramesAnswer, GivesResult}
use Rattle.class_growth.specs.ScopesOver.{among}
use Rattle.class_growth.proofs.MoreClasses.{method-still}
use Rattle.class_growth.proofs.ScopesKept.{scope-still}

module _ (classes more : List ClassRecord) where
  abbrev all : List ClassRecord
  all = classes ++ more

  abbrev runs_still : (f : FrameState) → RunsCode classes f → RunsCode all f
  runs_still f code = record {
    method = code.method;
    is_method = code.is_method;
    scope = among code.scope all;
    is_scope = scope-still classes more code.method code.scope code.is_scope;
    instr = code.instr;
    stands = code.stands;
  }

  awaits_still : (f : FrameState) (result : Option TypeRef) → AwaitsResult classes f result → AwaitsResult all f result
  awaits_still f result (code, member, called, (c, leads, is), gives) = (
    runs_still f code,
    member,
    called,
    (c, leads, method-still classes more member called (subst (λ (cs : List ClassRecord). MethodIs cs member called) code.is_scope.all is)),
    gives,
  )

  gives_still : (f : FrameState) (result : Option TypeRef) → GivesResult classes f result → GivesResult all f result
  gives_still f result (m, method, is, of, gives) = (m, method, is, method-still classes more m method of, gives)

  answers_still : (f above : FrameState) → FrameAnswers classes f above → FrameAnswers all f above
  answers_still f above (result, awaits, gives) = (result, awaits_still f result awaits, gives_still above result gives)

  each_answers_still : (frames : List FrameState) → EachAnswers classes frames → EachAnswers all frames
  each_answers_still [] h = tt
  each_answers_still (f ∷ []) h = tt
  each_answers_still (f ∷ above ∷ more_frames) (inl starts, rest) = (inl starts, each_answers_still (above ∷ more_frames) rest)
  each_answers_still (f ∷ above ∷ more_frames) (inr answers, rest) =
      (inr (answers_still f above answers), each_answers_still (above ∷ more_frames) rest)

  frames_answer_still : (frames : List FrameState) → FramesAnswer classes frames → FramesAnswer all frames
  frames_answer_still [] h = absurd h
  frames_answer_still (f ∷ frames) (plain, each) = (plain, each_answers_still (f ∷ frames) each)

  segment_answers_still : (s above : Segment) → SegmentAnswers classes s above → SegmentAnswers all s above
  segment_answers_still s above h = record {
    callers = h.callers;
    caller = h.caller;
    are_below = h.are_below;
    lowest = h.lowest;
    others = h.others;
    are_above = h.are_above;
    answers = answers_still h.caller h.lowest h.answers;
  }

  pub segments_answer_still : (segments : List Segment) → SegmentsAnswer classes segments → SegmentsAnswer all segments
  segments_answer_still [] h = tt
  segments_answer_still (s ∷ []) h = frames_answer_still s.frames h
  segments_answer_still (s ∷ above ∷ rest) (frames, inl orphan, later) =
      (frames_answer_still s.frames frames, inl orphan, segments_answer_still (above ∷ rest) later)
  segments_answer_still (s ∷ above ∷ rest) (frames, inr answers, later) =
      (frames_answer_still s.frames frames, inr (segment_answers_still s above answers), segments_answer_still (above ∷ rest) later)
