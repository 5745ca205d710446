-- The units so far are those of the characters so far.
use Rattle.std.proofs.Common.{◌≡◌, flat_map}
use Rattle.std.specs.Char.Escape.{encode_utf16}
use Rattle.resolver_rules.proofs.folder.utf16.Given as goal

abbrev pub invariant-loop-c : goal.invariant-loop-c
invariant-loop-c l = l.units.items ≡ flat_map encode_utf16 l.yielded
