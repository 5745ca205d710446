-- How the answer of a step is told.
use Rattle.std.proofs.Common.{List, Err}
use Rattle.jk_model.specs.declared.output.Line.{Line}
use Rattle.kernel_events.specs.PrintedLines.{Prints, SinkState}

-- what went out doesn't depend on how the error is told
pub failed_as : {E G : Type 0} (a b : SinkState) (lines : List Line) (e : E) (e' : G) → Prints a b (Err e) lines → Prints a b (Err e') lines
failed_as a b lines e e' p = record {
  ok = tt;
  pieces = tt;
  part = p.part;
  pieces_part = p.pieces_part;
  cause = p.cause;
  calm = tt;
  faults = p.faults;
}
