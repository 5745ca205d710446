-- The record's name is that of the class.
use Rattle.system_table.proofs.FirstOfAName.{named}
use Rattle.system_table.proofs.find.has_name.Goals as goal

pub returns : goal.returns
returns c = named c.args.n c.system_class.result c.args.name.now c.is_text.result c.system_class.ensures c.is_text.ensures
