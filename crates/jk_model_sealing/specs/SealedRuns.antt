-- What holds of one segment and its domain's inside at every moment. What is asked of the segment's top frame is a parameter: it runs, or
-- it waits for a segment above.
use Rattle.std.specs.Prelude.{ℕ, ⊤, List, Option, Some, None}
use Rattle.std.specs.List.{AllByRecursion}
use Rattle.jk_model.specs.declared.identifiers.ClassId.{ClassId}
use Rattle.jk_model.specs.declared.identifiers.MemberId.{MemberId}
use Rattle.jk_model_classes.specs.Worlds.{IsNamed, NamedClass}
use Rattle.jk_model_frames.specs.Frames.{FrameState}
use Rattle.jk_model_domains.specs.Objects.{NamedObject}
use Rattle.jk_model_heaps.specs.Capabilities.{CapRange}
use Rattle.jk_model_heaps.specs.Workings.{Run}
use Rattle.jk_model_sealing.specs.FittingFrames.{FramesFit, InitialisesWell}
use Rattle.jk_model_sealing.specs.SealedInsides.{IsKnownValue, IsSealedInside, Surroundings}

-- ---- The classes that a frame speaks of are in the domain's names.

abbrev pub IsKnownClass : List NamedClass → Option ClassId → Type 0
IsKnownClass table None = ⊤
IsKnownClass table (Some c) = IsNamed table c

abbrev pub KnowsClassOf : List NamedClass → Option MemberId → Type 0
KnowsClassOf table None = ⊤
KnowsClassOf table (Some m) = IsNamed table m.class

abbrev pub IsAtHome : List NamedClass → FrameState → Type 0
IsAtHome table f = KnowsClassOf table f.head.method × IsKnownClass table f.head.need × IsKnownClass table f.head.initialises

-- each object that the frame names is in the heap and each capability was given out, also where typing says nothing of a value
abbrev pub NamesKnown : List CapRange → List NamedObject → FrameState → Type 0
NamesKnown caps heap f = AllByRecursion (IsKnownValue caps heap) f.locals × AllByRecursion (IsKnownValue caps heap) f.stack

-- ---- The frames of a segment of a domain, in its heap.

pub record AreSealedFrames (around : Surroundings) (Top : FrameState → Type 0) (heap : List NamedObject) (frames : List FrameState) : Type 0 where
  pub fit : FramesFit Top around.classes heap frames
  pub initialise : AllByRecursion (InitialisesWell around.classes) frames
  pub at_home : AllByRecursion (IsAtHome around.table) frames
  pub known : AllByRecursion (NamesKnown around.caps heap) frames

-- a segment that runs, within a quota of words
pub record IsSealedRun (around : Surroundings) (quota : ℕ) (Top : FrameState → Type 0) (run : Run) : Type 0 where
  pub inside : IsSealedInside around quota run.inside
  pub frames : AreSealedFrames around Top run.inside.heap run.frames
