-- Before the first line nothing is printed.
use Rattle.std.proofs.Common.{◌<◌, ◌^◌, [], Ok, refl, sym, append-nil}
use Rattle.jk_model.proofs.AppendsInTurn.{Appends-nil}
use Rattle.jk_model.proofs.CountsNeverFall.{NeverFalls-refl}
use Rattle.kernel_events.specs.PrintedLines.{Prints, SinkState}

pub printed_none : {E : Type 0} (s : SinkState) → s.faults < 2 ^ 64 → Prints {E = E} s s (Ok tt) []
printed_none s fits = record {
  ok = Appends-nil s.bytes;
  pieces = sym (append-nil s.pieces);
  part = tt;
  pieces_part = tt;
  cause = tt;
  calm = refl;
  faults = NeverFalls-refl s.faults fits;
}
