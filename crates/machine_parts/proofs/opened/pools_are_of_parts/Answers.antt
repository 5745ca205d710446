-- By the lemmas on both pools.
use Rattle.machine_parts.proofs.PoolsSame.{heap_pools, stack_pools}
use Rattle.machine_parts.proofs.opened.pools_are_of_parts.Goals as goal

pub returns : goal.returns
returns c = λ p fit heaps frames. (heap_pools p fit heaps, stack_pools p fit frames)
