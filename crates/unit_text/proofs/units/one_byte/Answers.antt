-- A byte from 01 to 7f is the encoding of the unit that it is.
use Rattle.unit_text.proofs.OneReading.{one_at}
use Rattle.unit_text.proofs.units.one_byte.Goals as goal

pub returns-in-1-to-127 : goal.returns-in-1-to-127
returns-in-1-to-127 c = one_at c.args.bytes.now c.from.result c.in-1-to-127.len_at_least (search) (search) c.from.ensures
