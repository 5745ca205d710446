-- What holds of the parts of a kernel by themselves, whatever is known of the machine for which they stand: all of `AreKernelParts` but that this
-- machine is sealed, and that its classes are sound.
use Rattle.std.specs.Prelude.{◌≡◌, ℕ, ◌+◌, ◌*◌, ◌≤◌, List, length, Contains, Option, Some, codes, slice_get}
use Rattle.jk_model.specs.declared.descriptors.MethodType.{MethodType}
use Rattle.jk_model.specs.Descriptors.{IsMethodText}
use Rattle.jk_model.specs.SystemTable.{system_classes}
use Rattle.jk_model_classes.specs.declared.sharing.Stub.{Stub}
use Rattle.jk_model_classes.specs.Classes.{HasClass}
use Rattle.jk_model_classes.specs.Worlds.{DomainRecord, IsWorld, WorldRecord}
use Rattle.jk_model_sharing.specs.SharedStates.{SharedState}
use Rattle.class_init.specs.KeptStates.{HasRooms, KeptState}
use Rattle.object_store.specs.HeapContents.{HeapContent}
use Rattle.frame_store.specs.FrameContents.{FrameContent}
use Rattle.machine_parts.specs.FittingParts.{AreFittingParts}
use Rattle.kernel_parts.specs.SoundKernels.{KernelContent, parts_of}

abbrev pub content_of : WorldRecord → List (Option KeptState) → SharedState → HeapContent → FrameContent → MethodType → KernelContent
content_of world owns shared heap frames main = record {
  world = world;
  owns = owns;
  shared = shared;
  heap = heap;
  frames = frames;
  main_kind = main;
}

pub record AreTidyParts (k : KernelContent) : Type 0 where
  pub fitting : AreFittingParts (parts_of k)
  -- what loading a folder asks
  pub world : IsWorld k.world (length k.world.domains)
  pub few_classes : length k.world.classes ≤ length system_classes + 512 * length k.world.domains
  -- each literal of a live domain has room for its object
  pub rooms : (i : ℕ) (names : DomainRecord) (own : KeptState) → slice_get k.world.domains i ≡ Some names → slice_get k.owns i ≡ Some (Some own)
      → HasRooms k.world.classes names.table own
  pub main : IsMethodText (codes "([Ljava/lang/String;)V") k.main_kind
  -- no stub stands in for that of a class that isn't there
  pub stubs : (s : Stub) → Contains k.shared.stubs s → HasClass k.world.classes s.class
