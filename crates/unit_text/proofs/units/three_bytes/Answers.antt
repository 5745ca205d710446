-- Three bytes of these ranges are the encoding of the unit that is made of their low bits.
use Rattle.std.proofs.Common.{◌+◌, ◌*◌, refl}
use Rattle.unit_text.proofs.OneReading.{three_at}
use Rattle.unit_text.proofs.units.three_bytes.Goals as goal

pub returns-in-224-to-239 : goal.returns-in-224-to-239
returns-in-224-to-239 c =
    three_at c.args.bytes.now (c.from.result * 4096 + c.from-in-224-to-239.result * 64 + c.from-in-224-to-239-2.result)
    c.in-224-to-239.len_at_least (search) (search) (search) (search) (search) (search)
    (rw (c.from.ensures, c.from-in-224-to-239.ensures, c.from-in-224-to-239-2.ensures) refl)
