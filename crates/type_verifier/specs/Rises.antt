-- What a place or a node has after a frame or locals were joined into what it had.
use Rattle.std.specs.Prelude.{◌≡◌, ◌<◌, Bool, false, IsTrue, List, Option, Some, None}
use Rattle.jk_model_classes.specs.declared.records.ClassRecord.{ClassRecord}
use Rattle.jk_model_typing.specs.declared.frames.VType.{VType}
use Rattle.jk_model_typing.specs.declared.frames.FrameType.{FrameType}
use Rattle.jk_model_typing.specs.FrameTypes.{EachFits}
use Rattle.type_frames.specs.FrameJoins.{HaveNoJoin, IsFrameJoin}
use Rattle.type_frames.specs.Heights.{frame_height}
use Rattle.type_verifier.specs.declared.covers.Seen.{Seen}

-- there is a frame, and none that it and this one fit
abbrev pub CannotRise : List ClassRecord → Option FrameType → FrameType → Type 0
CannotRise classes old from = (f : FrameType) × (old ≡ Some f) × HaveNoJoin classes f from

-- a frame that was there rose to the least that it and another fit; `rose` says that it changed
pub record IsRise (classes : List ClassRecord) (f from : FrameType) (rose : Bool) (g : FrameType) : Type 0 where
  pub join : IsFrameJoin classes f from g
  pub same : rose ≡ false → g ≡ f
  pub falls : IsTrue rose → frame_height classes g < frame_height classes f

-- where there was none, a copy is there
abbrev pub RisesTo : List ClassRecord → Option FrameType → FrameType → Bool → Option FrameType → Type 0
RisesTo classes None from rose new = IsTrue rose × (new ≡ Some from)
RisesTo classes (Some f) from rose new = (g : FrameType) × (new ≡ Some g) × IsRise classes f from rose g

-- locals and a flag fit those of a node
abbrev pub SeenBy : List ClassRecord → List VType → Bool → Seen → Type 0
SeenBy classes locals fresh c = EachFits classes locals c.locals × (IsTrue fresh → IsTrue c.fresh)

-- what a node had fits this
abbrev pub HadFits : List ClassRecord → Option Seen → Seen → Type 0
HadFits classes old d = (c : Seen) → old ≡ Some c → SeenBy classes c.locals c.fresh d

-- a node has the least that these locals and what it had fit
pub record IsNodeRise (classes : List ClassRecord) (old : Option Seen) (locals : List VType) (fresh : Bool) (new : Option Seen) : Type 0 where
  pub now : Seen
  pub is : new ≡ Some now
  pub right : SeenBy classes locals fresh now
  pub left : HadFits classes old now
  pub least : (d : Seen) → SeenBy classes locals fresh d → HadFits classes old d → SeenBy classes now.locals now.fresh d
