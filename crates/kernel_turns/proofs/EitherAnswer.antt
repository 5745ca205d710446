-- What a step that may fail at the sink comes to, whichever it answers.
use Rattle.std.specs.Prelude.{IfOk, List, OnErr, Result, Ok, Err}
use Rattle.jk_model.specs.declared.identifiers.ThreadNo.{ThreadNo}
use Rattle.jk_model.specs.declared.output.Line.{Line}
use Rattle.step_contents.specs.Contents.{Contents, Here, LeftBehind}
use Rattle.segment_steps.specs.ActingSegments.{ActsSo}
use Rattle.segment_steps.specs.StepsAlone.{went_so}
use Rattle.segment_steps.specs.declared.went.Went.{Went}
use Rattle.segment_steps.specs.declared.went.Went.TheVariants as Goes

pub acts_either : {E : Type 0} (old : Contents) (here : Here) (t : ThreadNo) (left : LeftBehind) (GoOut : List Line → Type 0) (result : Result Went E)
    → IfOk result (λ went. ActsSo old here t left went GoOut) → OnErr result (ActsSo old here t left Goes.GoesOn GoOut)
    → ActsSo old here t left (went_so result) GoOut
acts_either old here t left GoOut (Ok went) ok err = ok
acts_either old here t left GoOut (Err e) ok err = err
