-- The units in front of the index are walked.
use Rattle.std.proofs.Common.{take}
use Rattle.descriptors.proofs.NamesAreWalks.{WalksTo}
use Rattle.descriptors.proofs.names.name_length.Given as goal

abbrev pub invariant-loop-i : goal.invariant-loop-i
invariant-loop-i l = WalksTo l.at_start (take l.i l.units)
