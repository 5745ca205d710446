-- The numbers of the parts' classes differ.
use Rattle.std.proofs.Common.{ap}
use Rattle.jk_model.specs.declared.identifiers.ClassId.{ClassId}
use Rattle.class_init.proofs.PartOfAClass.{parts_differ}
use Rattle.class_init.proofs.class_parts.ClassParts.differ.Goals as goal

pub returns : goal.returns
returns c =
    rw (← c.self.view_is)
    (λ i j a b p q e. parts_differ c.self.inside.parts.items c.self.inside.numbers.keys c.self.invariant i j a b p q (ap (λ (x : ClassId). x.0) e))
