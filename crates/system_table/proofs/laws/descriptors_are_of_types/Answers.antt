-- Each descriptor is that of a type of a list.
use Rattle.system_table.proofs.DescriptorsAreTypes.{fields, methods}
use Rattle.system_table.proofs.laws.descriptors_are_of_types.Goals as goal

pub returns-clause-fields : goal.returns-clause-fields
returns-clause-fields c = fields

pub returns-clause-methods : goal.returns-clause-methods
returns-clause-methods c = methods
