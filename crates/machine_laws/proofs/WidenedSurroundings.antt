-- Insides and frames stay sealed in surroundings that are widened.
use Rattle.std.proofs.Common.{◌≤◌, ℕ, List, ◌++◌, length, sym, subst}
use Rattle.jk_model.specs.SystemTable.{system_classes}
use Rattle.jk_model.specs.declared.identifiers.ClassId.{ClassId}
use Rattle.jk_model_classes.specs.declared.records.ClassRecord.{ClassRecord}
use Rattle.jk_model_classes.specs.Classes.{AreOrdered, HasClass}
use Rattle.jk_model_classes.specs.Worlds.{IsNamed, NamedClass}
use Rattle.jk_model_frames.specs.Frames.{FrameState}
use Rattle.jk_model_domains.specs.Objects.{NamedObject}
use Rattle.jk_model_heaps.specs.Workings.{Inside}
use Rattle.jk_model_sealing.specs.FittingFrames.{FitsAsTop, FitsAtCall}
use Rattle.jk_model_sealing.specs.SealedInsides.{IsSealedInside, Surroundings}
use Rattle.jk_model_sealing.specs.SealedRuns.{AreSealedFrames}
use Rattle.heap_laws.specs.SoundCodes.{AreSoundCodes}
use Rattle.heap_laws.specs.SoundTables.{IsSoundTable}
use Rattle.class_growth.proofs.MoreClasses.{has_class-by_record}
use Rattle.machine_laws.specs.SealedOpenings.{IsWidened}
use Rattle.machine_laws.proofs.FramesStaySealed.{at_call_still, frames_stay, many_classes, top_still}
use Rattle.machine_laws.proofs.InsidesStaySealed.{inside_still, widened_is}

-- each class that the names mean is there
pub named_there : (classes : List ClassRecord) (table : List NamedClass) → IsSoundTable classes table → (c : ClassId) → IsNamed table c
    → HasClass classes c
named_there classes table sound c named = let at = sound.closed c named in has_class-by_record classes c at.0 at.1

module _ (old new : Surroundings) (w : IsWidened old new) (codes : AreSoundCodes old.classes) (sound : IsSoundTable old.classes old.table) where
  abbrev there : (c : ClassId) → IsNamed old.table c → HasClass old.classes c
  there c named = named_there old.classes old.table sound c named

  pub inside_widened : (quota : ℕ) (inside : Inside) → IsSealedInside old quota inside → IsSealedInside new quota inside
  inside_widened quota inside h =
      subst (λ (around : Surroundings). IsSealedInside around quota inside) (widened_is old new w)
      (inside_still old w.more w.ranges codes.ordered w.closed there quota inside h)

  in_order : AreOrdered (old.classes ++ w.more)
  in_order = subst AreOrdered w.classes w.ordered

  many : length system_classes ≤ length old.classes
  many = many_classes old.classes codes.system

  -- whatever is asked of the top frame
  pub frames_widened : (Top Then : FrameState → Type 0) → ((f : FrameState) → Top f → Then f) → (heap : List NamedObject) (frames : List FrameState)
      → AreSealedFrames old Top heap frames → AreSealedFrames new Then heap frames
  frames_widened Top Then last heap frames h =
      subst (λ (around : Surroundings). AreSealedFrames around Then heap frames) (widened_is old new w)
      (frames_stay old w.more w.ranges in_order w.closed many there Top Then last heap frames h)

  pub top_widened : (heap : List NamedObject) (f : FrameState) → FitsAsTop old.classes heap f → FitsAsTop new.classes heap f
  top_widened heap f h =
      subst (λ (classes : List ClassRecord). FitsAsTop classes heap f) (sym w.classes) (top_still old.classes w.more in_order w.closed many heap f h)

  pub call_widened : (heap : List NamedObject) (f : FrameState) → FitsAtCall old.classes heap f → FitsAtCall new.classes heap f
  call_widened heap f h =
      subst (λ (classes : List ClassRecord). FitsAtCall classes heap f) (sym w.classes)
      (at_call_still old.classes w.more in_order w.closed many heap f h)
