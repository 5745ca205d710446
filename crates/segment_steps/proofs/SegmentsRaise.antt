-- Something is raised in a segment that acts and is as it was.
use Rattle.std.proofs.Common.{refl}
use Rattle.jk_model.specs.declared.identifiers.ThreadNo.{ThreadNo}
use Rattle.jk_model.specs.declared.steps.Raise.{Raise}
use Rattle.jk_model_heaps.specs.declared.shapes.Unwound.{Unwound}
use Rattle.jk_model_heaps.specs.Workings.{Run, Setting}
use Rattle.jk_model_running.specs.LocalSteps.{LocalStep}
use Rattle.jk_model_running.specs.Raising.{RaisesIn, after_raising}
use Rattle.class_init.specs.KeptStates.{HasRooms}
use Rattle.heap_laws.proofs.GrownHeaps.{grown_self}
use Rattle.step_contents.specs.Conditions.{MayRaise, around}
use Rattle.step_contents.specs.Contents.{Becomes, Contents, Here}
use Rattle.step_contents.specs.Settings.{IsSetting}
use Rattle.segment_steps.specs.ActingSegments.{MayAct}
use Rattle.segment_steps.specs.RaisingHere.{RaisedHere}
use Rattle.segment_steps.specs.StepsAlone.{Stepped}
use Rattle.segment_steps.specs.declared.went.Went.{Went}
use Rattle.segment_steps.proofs.ChangesInTurn.{becomes_then, free_after, holds_after}
use Rattle.segment_steps.proofs.FramesReplaced.{meeting_sealed}
use Rattle.segment_steps.proofs.InstructionsLeave.{raised_went}
use Rattle.segment_steps.proofs.KnownAfterwards.{known_after, setting_after}

module _ (old mid : Contents) (here : Here) (may : MayAct old here) (becomes : Becomes old mid here may.run may.run)
    (rooms : HasRooms here.world.classes may.domain.names.table mid.own) where
  abbrev pub raise_still : MayRaise mid here
  raise_still = record {
    domain = known_after old mid here may.run.inside becomes.inside may.domain rooms;
    run = may.run;
    holds = holds_after old mid here may.run may.run becomes;
    sealed = record {
      inside = may.sealed.inside;
      frames =
          meeting_sealed (around may.domain) may.run.inside.heap may.run.frames (grown_self may.run.inside.heap) may.sealed.frames;
    };
    states = may.states;
  }

  pub raised_still : (new : Contents) (raise : Raise) (went : Went) (t : ThreadNo) (x : Setting) → IsSetting old here x
      → RaisedHere mid new here raise went
      → ((run : Run) (unwound : Unwound) → RaisesIn x may.run raise run unwound → LocalStep x t may.run run (after_raising unwound))
      → Stepped x t may new went
  raised_still new raise went t x is raised step =
      let free = free_after old mid here may.run.frames may.run.frames becomes.frames refl in
      let done = raised x raise_still (setting_after old mid here may.run.inside becomes.inside free x is) in
      record {
        run = done.0;
        way = after_raising done.1;
        steps = step done.0 done.1 done.2;
        is_went = raised_went done.1 went done.3;
        becomes = becomes_then old mid new here may.run may.run done.0 becomes done.4;
      }
