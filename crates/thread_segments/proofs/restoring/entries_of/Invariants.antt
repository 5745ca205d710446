-- The domains so far are entered, and there is room for the others.
use Rattle.std.proofs.Common.{◌≡◌, ◌+◌, ◌-◌, ◌≤◌, length, map, take, vec_capacity, vec_len}
use Rattle.thread_segments.specs.RestoredParts.{entry_told}
use Rattle.thread_segments.proofs.restoring.entries_of.Given as goal

abbrev pub invariant-loop-part : goal.invariant-loop-part
invariant-loop-part l = record {
  items : l.domains.items ≡ map entry_told (take l.part-index l.parts);
  room : vec_len l.domains + (length l.parts - l.part-index) ≤ vec_capacity l.domains;
}
