-- Lines have one reading.
use Rattle.asm_reader.proofs.OneReading as one
use Rattle.asm_reader.proofs.laws.one_reading.Goals as goal

pub returns : goal.returns
returns c = one.one_reading
