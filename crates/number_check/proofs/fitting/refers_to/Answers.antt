-- An object of the heap is of java/lang/Object.
use Rattle.std.proofs.Common.{◌≡◌, inl, inr}
use Rattle.number_check.proofs.ReferencesFit.{object_fits}
use Rattle.number_check.proofs.fitting.refers_to.Goals as goal

pub returns-in-Obj-eq1 : goal.returns-in-Obj-eq1
returns-in-Obj-eq1 c = λ yes s.
    let named : c.in-Obj-eq1.field-0 ≡ 1 = cc in
    object_fits s c.args.v c.in-Obj-eq1.field-0 c.args.t c.in-Obj-eq1.is (inl named) (c.is_one_type.ensures yes)

pub returns-in-Obj-eq2 : goal.returns-in-Obj-eq2
returns-in-Obj-eq2 c = λ yes s.
    let named : c.in-Obj-eq2.field-0 ≡ 2 = cc in
    object_fits s c.args.v c.in-Obj-eq2.field-0 c.args.t c.in-Obj-eq2.is (inr named) (c.is_one_type-in-Obj-eq2.ensures yes)
