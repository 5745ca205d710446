-- Steps that ask nothing of what domains share and print nothing, in the words of the functions that take them.
use Rattle.std.specs.Prelude.{◌≡◌, List, None, Result, Ok, Err}
use Rattle.jk_model.specs.declared.identifiers.ClassId.{ClassId}
use Rattle.jk_model.specs.declared.identifiers.ThreadNo.{ThreadNo}
use Rattle.jk_model_classes.specs.declared.records.ClassRecord.{ClassRecord}
use Rattle.jk_model_domains.specs.OwnStates.{OwnState}
use Rattle.jk_model_frames.specs.Frames.{FrameState}
use Rattle.jk_model_heaps.specs.RunningCode.{InstrNeeds}
use Rattle.jk_model_heaps.specs.Workings.{Run, Setting}
use Rattle.jk_model_running.specs.Initialising.{IsReady}
use Rattle.jk_model_running.specs.LocalSteps.{LocalStep}
use Rattle.jk_model_running.specs.Ways.{Asks, Crosses, Ended, GoesOn, Left, Says, Terminates}
use Rattle.jk_model_running.specs.Ways.{Went as Way}
use Rattle.frame_store.specs.FrameContents.{FrameContent, TopFrame}
use Rattle.step_contents.specs.Contents.{Becomes, Contents, Here}
use Rattle.step_contents.specs.PlacesInCode.{IsPlaceIn, PlaceInCode}
use Rattle.step_contents.specs.Settings.{IsSetting}
use Rattle.segment_steps.specs.ActingSegments.{MayAct}
use Rattle.segment_steps.specs.declared.meeting.Runs.{Runs}
use Rattle.segment_steps.specs.declared.went.Went.{Went}
use Rattle.segment_steps.specs.declared.went.Went.TheVariants as Goes

-- ---- Before.

-- The segment's top frame, which has no need, stands there, and the class that the instruction needs is ready.
pub record StandsReady (frames : FrameContent) (classes : List ClassRecord) (own : OwnState) (r : Runs) (at : PlaceInCode) : Type 0 where
  pub frame : FrameState
  pub top : TopFrame frames r.segment frame
  pub head : at.head ≡ frame.head
  pub no_need : at.head.need ≡ None
  pub place : IsPlaceIn classes at
  pub ready : (c : ClassId) → InstrNeeds at.scope at.instr c → IsReady own r.thread c

-- ---- After.

-- what the step comes to, in code; it doesn't say a text here, or ask for anything
abbrev pub IsWent : Way → Went → Type 0
IsWent GoesOn went = went ≡ Goes.GoesOn
IsWent (Says text) went = ⊥
IsWent (Ended v) went = went ≡ Goes.Returned v
IsWent (Left a) went = went ≡ Goes.Left a
IsWent (Crosses k m) went = went ≡ Goes.Crosses k m
IsWent (Asks request) went = ⊥
IsWent Terminates went = went ≡ Goes.Terminates

pub record Stepped {old : Contents} {here : Here} (x : Setting) (t : ThreadNo) (may : MayAct old here) (new : Contents) (went : Went)
    : Type 0 where
  pub run : Run
  pub way : Way
  pub steps : LocalStep x t may.run run way
  pub is_went : IsWent way went
  pub becomes : Becomes old new here may.run run

-- One step of the thread in the segment.
abbrev pub Steps : Contents → Contents → Here → ThreadNo → Went → Type 0
Steps old new here t went = (x : Setting) (may : MayAct old here) → IsSetting old here x → Stepped x t may new went

-- what a step comes to where it may print: where the sink fails, it is done all the same
abbrev pub went_so : {E : Type 0} → Result Went E → Went
went_so (Ok went) = went
went_so (Err e) = Goes.GoesOn
