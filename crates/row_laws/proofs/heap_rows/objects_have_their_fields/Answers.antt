-- By the order of fields.
use Rattle.row_laws.proofs.FieldsOfObjects.{has_field}
use Rattle.row_laws.proofs.heap_rows.objects_have_their_fields.Goals as goal

pub returns : goal.returns
returns c = λ around heap a class values m field object fields is plain up. has_field around heap a class values m field object fields is plain up
