-- Two bytes of these ranges are the encoding of the unit that is made of their low bits.
use Rattle.std.proofs.Common.{◌+◌, ◌*◌, refl}
use Rattle.unit_text.proofs.OneReading.{two_at}
use Rattle.unit_text.proofs.units.two_bytes.Goals as goal

pub returns-in-192-to-223 : goal.returns-in-192-to-223
returns-in-192-to-223 c =
    two_at c.args.bytes.now (c.from.result * 64 + c.from-in-192-to-223.result) c.in-192-to-223.len_at_least
    (search) (search) (search) (search) (rw (c.from.ensures, c.from-in-192-to-223.ensures) refl)
