-- What one answer says of each text and each place.
use Rattle.unit_text.proofs.OneReading.{only_text, only_place}
use Rattle.unit_text.proofs.units.units_of.Goals as goal

pub returns-clause-only : goal.returns-clause-only
returns-clause-only c = only_text c.args.bytes.now c.read.result c.read.ensures

pub returns-clause-only_bad : goal.returns-clause-only_bad
returns-clause-only_bad c = only_place c.args.bytes.now c.read.result c.read.ensures
