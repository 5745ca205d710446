-- The entries so far stand before what is left, and fewer indices are left each time.
use Rattle.std.proofs.Common.{◌-◌, length}
use Rattle.const_pool.proofs.EntriesMakePool.{IsSoFar}
use Rattle.const_pool.proofs.entries.entries_of.Given as goal

abbrev pub invariant-loop-alloc : goal.invariant-loop-alloc
invariant-loop-alloc l = IsSoFar l.count l.bytes l.entries l.rest

abbrev pub decreases-loop-alloc : goal.decreases-loop-alloc
decreases-loop-alloc l = l.count - length l.entries
