-- The classes so far are those of the numbers so far.
use Rattle.std.proofs.Common.{◌≡◌, map, take}
use Rattle.system_records.specs.Numbers.{numbered}
use Rattle.system_records.proofs.numbers.class_ids.Given as goal

abbrev pub invariant-loop-number : goal.invariant-loop-number
invariant-loop-number l = l.ids ≡ map numbered (take l.number-index l.numbers)
