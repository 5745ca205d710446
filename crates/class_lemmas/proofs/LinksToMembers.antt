-- A link to a method tells which method it is.
use Rattle.std.proofs.Common.{◌≡◌}
use Rattle.jk_model.specs.declared.identifiers.ClassId.{ClassId}
use Rattle.jk_model.specs.declared.identifiers.MemberId.{MemberId}
use Rattle.jk_model_classes.specs.declared.records.Link.TheVariants as To

pub one_linked : (c d : ClassId) (m n : MemberId) → To.Method c m ≡ To.Method d n → m ≡ n
one_linked c d m n e = cc
