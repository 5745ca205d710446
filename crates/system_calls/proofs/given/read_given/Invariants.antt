-- So many values are read.
use Rattle.std.proofs.Common.{◌≡◌, length}
use Rattle.system_calls.proofs.GivenRead.{ReadSoFar}
use Rattle.system_calls.proofs.given.read_given.Given as goal

abbrev pub invariant-loop-i : goal.invariant-loop-i
invariant-loop-i g l = ReadSoFar (g.F.SegmentFrames.content l.frames) l.s l.count l.values l.i × (length l.values ≡ 5)
