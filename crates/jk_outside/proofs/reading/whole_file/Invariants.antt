-- What was read so far stands in order, and each turn gave a byte, or failed.
use Rattle.std.proofs.Common.{◌≡◌, ◌<◌, ◌≤◌, ◌⊎◌, [], length}
use Rattle.jk_outside.specs.DiskStates.{count_after}
use Rattle.jk_outside.specs.Reading.{ReadsOn}
use Rattle.jk_outside.specs.Systems.{GoesOn, LogsFault, LogsOnly, Reads, Step}
use Rattle.jk_outside.proofs.reading.whole_file.Given as goal

abbrev pub invariant-loop-turn : goal.invariant-loop-turn
invariant-loop-turn g l = record {
  within : length l.bytes ≤ l.limit;
  counted : l.taken ≡ count_after l.initial.taken (length l.bytes);
  on : ReadsOn (g.S.System.bytes_left l.initial.file) (g.S.System.bytes_left l.file) [] l.bytes;
  room : 0 < length l.piece.items;
  log : LogsOnly (λ (step : Step). step.asks ≡ Reads) (g.S.System.log l.initial.system) (g.S.System.log l.system);
  well : LogsOnly GoesOn (g.S.System.log l.initial.system) (g.S.System.log l.system);
  stays : g.S.System.places l.system ≡ g.S.System.places l.initial.system;
  turns : (l._turn ≤ length l.bytes) ⊎ LogsFault (g.S.System.log l.initial.system) (g.S.System.log l.system);
}
