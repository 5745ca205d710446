-- One of the two is null.
use Rattle.std.proofs.Common.{pos, negsuc, refl}
use Rattle.jk_model.specs.declared.values.Value.TheVariants as Held
use Rattle.jk_model_system_rows.specs.ArrayCopies.{ArrayCopy, at_null}
use Rattle.jk_model_system_rows.proofs.examples.copies_at_null.Goals as goal

abbrev from_null : ArrayCopy
from_null = record { source = Held.Null; from = pos 0; target = Held.Obj 6; to = pos 0; count = pos 1 }

abbrev to_null : ArrayCopy
to_null = record { source = Held.Obj 6; from = negsuc 0; target = Held.Null; to = pos 0; count = pos 1 }

pub returns-clause-source : goal.returns-clause-source
returns-clause-source c = (from_null, refl, at_null refl refl)

pub returns-clause-target : goal.returns-clause-target
returns-clause-target c = (to_null, refl, at_null refl refl)
