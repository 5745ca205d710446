-- The first counts are read.
use Rattle.heap_ops.proofs.CountsRead.{ReadSoFar}
use Rattle.heap_ops.proofs.array_trees.read_counts.Given as goal

abbrev pub invariant-loop-i : goal.invariant-loop-i
invariant-loop-i g l = ReadSoFar (g.F.SegmentFrames.content l.fn.frames) l.s l.counts l.i
