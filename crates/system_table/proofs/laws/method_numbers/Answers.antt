-- The numbers are counted.
use Rattle.std.proofs.Common.{refl}
use Rattle.system_table.proofs.laws.method_numbers.Goals as goal

pub returns : goal.returns
returns c = refl
