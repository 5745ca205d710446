-- The pools of a machine are those of its stores, so that there is a place in the one exactly where there is one in the other.
use Rattle.std.specs.Prelude.{◌≡◌}
use Rattle.jk_model_openings.specs.PoolsOfMachines.{heap_pool, stack_pool}
use Rattle.object_store.specs.HeapContents.{IsHeapContent}
use Rattle.object_store.specs.HeapContents.{pool_of as pool_of_heaps}
use Rattle.frame_store.specs.FrameContents.{IsContent}
use Rattle.frame_store.specs.FrameContents.{pool_of as pool_of_frames}
use Rattle.machine_parts.specs.FittingParts.{AreFittingParts}
use Rattle.machine_parts.specs.MachineParts.{MachineParts, machine_of}

abbrev pub PoolsAreOfParts : Type 0
PoolsAreOfParts =
    (p : MachineParts) → AreFittingParts p → IsHeapContent p.heap → IsContent p.frames
    → (heap_pool (machine_of p) ≡ pool_of_heaps p.heap) × (stack_pool (machine_of p) ≡ pool_of_frames p.frames)
