-- What holds of a kernel at every moment, and of the machine for which its parts stand. Contracts see `KernelParts` as that machine,
-- `kernel_machine` of its content, of which `AreKernelParts` holds. Of the kernel over such parts holds `IsSoundKernel` besides.
use Rattle.std.specs.Prelude.{◌≡◌, ℕ, ◌+◌, ◌*◌, ◌≤◌, List, length, map, Contains, Option, Some, codes, option_map, slice_get}
use Rattle.jk_model.specs.declared.descriptors.MethodType.{MethodType}
use Rattle.jk_model.specs.Descriptors.{IsMethodText}
use Rattle.jk_model.specs.SystemTable.{system_classes}
use Rattle.jk_model_classes.specs.declared.records.ClassRecord.{ClassRecord}
use Rattle.jk_model_classes.specs.declared.sharing.Stub.{Stub}
use Rattle.jk_model_classes.specs.Classes.{HasClass}
use Rattle.jk_model_classes.specs.Worlds.{DomainRecord, IsWorld, WorldRecord}
use Rattle.jk_model_heaps.specs.Capabilities.{Capability}
use Rattle.jk_model_sharing.specs.SharedStates.{SharedState}
use Rattle.jk_model_machine_state.specs.Machines.{DomainState, Machine}
use Rattle.jk_model_runs.specs.AnsweredCalls.{AreCallsAnswered}
use Rattle.jk_model_runs.specs.Sealed.{IsSealed}
use Rattle.class_init.specs.KeptStates.{HasRooms, KeptState}
use Rattle.object_store.specs.HeapContents.{HeapContent}
use Rattle.frame_store.specs.FrameContents.{FrameContent}
use Rattle.machine_laws.specs.SoundMachines.{HasSoundClasses}
use Rattle.machine_parts.specs.FittingParts.{AreFittingParts}
use Rattle.machine_parts.specs.MachineParts.{MachineParts, machine_of}

-- ---- Of the parts, as contracts see them.

pub record KernelContent : Type 0 where
  pub world : WorldRecord
  -- at each domain's number what is kept of its own state; nothing of one that was killed
  pub owns : List (Option KeptState)
  pub shared : SharedState
  pub heap : HeapContent
  pub frames : FrameContent
  -- the type of `main`
  pub main_kind : MethodType

abbrev pub parts_of : KernelContent → MachineParts
parts_of k = record {
  world = k.world;
  owns = map (option_map (λ (own : KeptState). own.state)) k.owns;
  shared = k.shared;
  heap = k.heap;
  frames = k.frames;
}

abbrev pub kernel_machine : KernelContent → Machine
kernel_machine k = machine_of (parts_of k)

-- What holds of the parts at every moment, also where one domain is replayed alone and others stand in.
pub record AreSoundParts (k : KernelContent) : Type 0 where
  pub fitting : AreFittingParts (parts_of k)
  pub sealed : IsSealed (kernel_machine k)
  pub sound : HasSoundClasses (kernel_machine k)
  -- what loading a folder asks
  pub world : IsWorld k.world (length k.world.domains)
  pub few_classes : length k.world.classes ≤ length system_classes + 512 * length k.world.domains
  -- each literal of a live domain has room for its object, so that no step takes memory
  pub rooms : (i : ℕ) (names : DomainRecord) (own : KeptState) → slice_get k.world.domains i ≡ Some names → slice_get k.owns i ≡ Some (Some own)
      → HasRooms k.world.classes names.table own
  pub main : IsMethodText (codes "([Ljava/lang/String;)V") k.main_kind

-- What holds of `KernelParts`: no stub stands in for that of a class that isn't there.
pub record AreKernelParts (k : KernelContent) : Type 0 where
  pub sound : AreSoundParts k
  pub stubs : (s : Stub) → Contains k.shared.stubs s → HasClass k.world.classes s.class

-- ---- Of a kernel over such parts, in whose machine every domain runs and none stands in for another.

pub record IsSoundKernel (m : Machine) : Type 0 where
  pub answered : AreCallsAnswered m
  -- no capability is of a class that isn't there
  pub capabilities : (d : DomainState) (c : Capability) → Contains m.domains d → Contains d.caps.made c → HasClass m.classes c.class
  pub few_domains : length m.domains ≤ 65535
