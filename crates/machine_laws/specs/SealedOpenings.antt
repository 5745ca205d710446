-- Domains that are opened: the new one is sealed inside, and the others stay so with more classes.
use Rattle.std.specs.Prelude.{◌≡◌, ◌≤◌, ℕ, List, ◌++◌}
use Rattle.jk_model_classes.specs.declared.records.ClassRecord.{ClassRecord}
use Rattle.jk_model_classes.specs.Classes.{AreOrdered}
use Rattle.jk_model_classes.specs.Worlds.{NamedClass}
use Rattle.jk_model_frames.specs.Frames.{FrameState}
use Rattle.jk_model_domains.specs.Objects.{NamedObject}
use Rattle.jk_model_heaps.specs.Capabilities.{CapRange}
use Rattle.jk_model_heaps.specs.Workings.{Inside}
use Rattle.jk_model_openings.specs.OpenedDomains.{IsOpening}
use Rattle.jk_model_sealing.specs.FittingFrames.{FitsAsTop, FitsAtCall}
use Rattle.jk_model_sealing.specs.SealedInsides.{IsSealedInside, Surroundings}
use Rattle.jk_model_sealing.specs.SealedRuns.{AreSealedFrames}
use Rattle.class_growth.specs.ClosedClasses.{IsClosed}
use Rattle.heap_laws.specs.SoundCodes.{AreSoundCodes}
use Rattle.heap_laws.specs.SoundTables.{IsSoundTable}

-- ---- A new domain.

abbrev pub OpeningsAreSealed : Type 0
OpeningsAreSealed =
    (around : Surroundings) (quota : ℕ) (inside : Inside) → AreSoundCodes around.classes → IsSoundTable around.classes around.table
    → IsOpening around.classes around.table quota inside → IsSealedInside around quota inside

-- there is one: an opening costs 44 words, which each quota has
abbrev pub OpeningsAreThere : Type 0
OpeningsAreThere =
    (classes : List ClassRecord) (table : List NamedClass) (quota : ℕ) → AreSoundCodes classes → IsSoundTable classes table → 44 ≤ quota
    → (inside : Inside) × IsOpening classes table quota inside

-- ---- More classes behind closed ones, and more capabilities.

-- the same classes in front, the same names, and capabilities that were given out are
pub record IsWidened (old new : Surroundings) : Type 0 where
  pub more : List ClassRecord
  pub classes : new.classes ≡ old.classes ++ more
  pub closed : IsClosed old.classes
  pub ordered : AreOrdered new.classes
  pub table : new.table ≡ old.table
  pub ranges : List CapRange
  pub caps : new.caps ≡ old.caps ++ ranges

abbrev pub InsidesStaySealed : Type 0
InsidesStaySealed =
    (old new : Surroundings) (quota : ℕ) (inside : Inside) → IsWidened old new → AreSoundCodes old.classes → AreSoundCodes new.classes
    → IsSoundTable old.classes old.table → IsSealedInside old quota inside → IsSealedInside new quota inside

abbrev pub FramesStaySealed : Type 0
FramesStaySealed =
    (old new : Surroundings) (heap : List NamedObject) (frames : List FrameState) → IsWidened old new → AreSoundCodes old.classes
    → AreSoundCodes new.classes → IsSoundTable old.classes old.table
    → (AreSealedFrames old (FitsAsTop old.classes heap) heap frames → AreSealedFrames new (FitsAsTop new.classes heap) heap frames)
    × (AreSealedFrames old (FitsAtCall old.classes heap) heap frames → AreSealedFrames new (FitsAtCall new.classes heap) heap frames)
