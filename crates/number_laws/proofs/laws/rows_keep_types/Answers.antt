-- The law is proved constructor by constructor.
use Rattle.number_laws.proofs.TypesKept.{rows_kept}
use Rattle.number_laws.proofs.laws.rows_keep_types.Goals as goal

pub returns : goal.returns
returns c = λ s heap place i f g before after next typed row. rows_kept s heap place i f g before after next typed row
