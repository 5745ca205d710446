-- What one answer says of each type and each place.
use Rattle.descriptors.proofs.OneTypeOrPlace.{only_method, only_bad_method}
use Rattle.descriptors.proofs.methods.method_type.Goals as goal

pub returns-clause-only : goal.returns-clause-only
returns-clause-only c = only_method c.args.units.now c.read.result c.read.ensures

pub returns-clause-only_bad : goal.returns-clause-only_bad
returns-clause-only_bad c = only_bad_method c.args.units.now c.read.result c.read.ensures
