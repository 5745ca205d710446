-- The units so far are the bytes so far.
use Rattle.std.proofs.Common.{◌≡◌, take}
use Rattle.resolver_rules.proofs.grammar.name_units.Given as goal

abbrev pub invariant-loop-byte : goal.invariant-loop-byte
invariant-loop-byte l = l.units.items ≡ take l.byte-index l.bytes
