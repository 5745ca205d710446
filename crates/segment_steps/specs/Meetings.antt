-- What a thread meets before its top segment acts.
use Rattle.std.specs.Prelude.{◌≡◌, List, MatchOption, Option, Some, None, option_map}
use Rattle.jk_model.specs.declared.identifiers.ClassId.{ClassId}
use Rattle.jk_model_classes.specs.declared.records.ClassRecord.{ClassRecord}
use Rattle.jk_model_frames.specs.Frames.{FrameState}
use Rattle.jk_model_domains.specs.declared.states.Look.TheVariants as Sees
use Rattle.jk_model_domains.specs.OwnStates.{IsLook, OwnState, state_of}
use Rattle.jk_model_running.specs.Initialising.{FrameNeeds}
use Rattle.step_contents.specs.StandingFrames.{IsPlaceOf, place_of}
use Rattle.segment_steps.specs.declared.meeting.Meeting.{Meeting}
use Rattle.segment_steps.specs.declared.meeting.Runs.{Runs}

-- the frame needs this class before it goes on, or none
abbrev pub NeedsOf : List ClassRecord → FrameState → Option ClassId → Type 0
NeedsOf classes f None = (c : ClassId) → FrameNeeds classes f c → ⊥
NeedsOf classes f (Some c) = FrameNeeds classes f c

-- At a top frame the thread meets this.
pub record Meets (classes : List ClassRecord) (own : OwnState) (r : Runs) (f : FrameState) (met : Meeting) : Type 0 where
  pub head : met.head ≡ f.head
  pub at : IsPlaceOf classes f.head (option_map place_of met.at)
  pub needed : NeedsOf classes f met.needed
  pub look : MatchOption met.needed (met.look ≡ Sees.Ready) (λ (c : ClassId). IsLook r.thread (state_of own c) met.look)
