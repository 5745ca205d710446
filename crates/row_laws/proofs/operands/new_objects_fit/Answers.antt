-- By the frame that `new` leaves.
use Rattle.row_laws.proofs.FreshObjects.{made_fit}
use Rattle.row_laws.proofs.operands.new_objects_fit.Goals as goal

pub returns : goal.returns
returns c = λ s heap new place i f g before after class a typed shape makes grown of replaces.
    made_fit s heap new place i f g before after class a typed shape makes grown of replaces
