-- The readings so far are those of the lines before the rest, and the rest gets shorter.
use Rattle.std.proofs.Common.{length}
use Rattle.asm_reader.proofs.LinesInTurn.{AreSoFar}
use Rattle.asm_reader.proofs.lines.read_lines.Given as goal

abbrev pub invariant-loop-line : goal.invariant-loop-line
invariant-loop-line l = AreSoFar l.text l.rest l.readings

abbrev pub decreases-loop-line : goal.decreases-loop-line
decreases-loop-line l = length l.rest
