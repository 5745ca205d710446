-- What is known where an instruction is done.
use Rattle.std.specs.Prelude.{◌≡◌, Contains, None}
use Rattle.jk_model.specs.declared.identifiers.ClassId.{ClassId}
use Rattle.jk_model_classes.specs.declared.sharing.Stub.{Stub}
use Rattle.jk_model_classes.specs.Classes.{IsInterface, record_of}
use Rattle.jk_model_heaps.specs.Workings.{Setting, Working}
use Rattle.jk_model_sealing.specs.FittingFrames.{FitsHere}
use Rattle.jk_model_sealing.specs.SealedInsides.{IsSealedInside, Surroundings}
use Rattle.jk_model_sealing.specs.SealedRuns.{IsAtHome, NamesKnown}
use Rattle.heap_laws.specs.SoundCodes.{AreSoundCodes}
use Rattle.heap_laws.specs.SoundTables.{IsSoundTable}

-- The setting is of these surroundings, whose classes and names are sound.
pub record IsKnownSetting (around : Surroundings) (x : Setting) : Type 0 where
  pub classes : x.classes ≡ around.classes
  pub ranges : x.caps.ranges ≡ around.caps
  -- what stands in for the stub of a class that isn't there shows interfaces
  pub stand_ins : (s : Stub) (i : ClassId) → Contains x.caps.stand_ins s → record_of around.classes s.class ≡ None → Contains s.interfaces i
      → IsInterface around.classes i
  pub codes : AreSoundCodes around.classes
  pub table : IsSoundTable around.classes around.table

-- A frame runs, which has no need: the domain is sealed inside, and the frame's values are known and fit where it stands.
pub record RunsWell (around : Surroundings) (x : Setting) (w : Working) : Type 0 where
  pub setting : IsKnownSetting around x
  pub inside : IsSealedInside around x.quota w.inside
  pub no_need : w.frame.head.need ≡ None
  pub fits : FitsHere around.classes w.inside.heap w.frame
  pub at_home : IsAtHome around.table w.frame
  pub known : NamesKnown around.caps w.inside.heap w.frame
