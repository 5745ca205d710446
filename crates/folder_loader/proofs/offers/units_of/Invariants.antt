-- The units so far are the bytes so far.
use Rattle.std.proofs.Common.{◌≡◌, take}
use Rattle.folder_loader.proofs.offers.units_of.Given as goal

abbrev pub invariant-loop-byte : goal.invariant-loop-byte
invariant-loop-byte l = l.units ≡ take l.byte-index l.bytes
