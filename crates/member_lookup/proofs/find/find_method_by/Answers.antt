-- The walk is that of an interface or that of a class.
use Rattle.std.proofs.Common.{◌≡◌, false, true}
use Rattle.jk_model_classes.specs.Classes.{method_walk, class_method_walk, interface_method_walk}
use Rattle.member_lookup.proofs.WalksOfMethods.{walk-of_interface, walk-of_class}
use Rattle.member_lookup.proofs.find.find_method_by.Goals as goal

pub returns-then-is_interface : goal.returns-then-is_interface
returns-then-is_interface c =
    let walk : method_walk c.args.t.now c.args.c ≡ interface_method_walk c.args.t.now c.args.c =
    walk-of_interface c.args.t.now c.args.c (c.is_interface.ensures.0 c.if-is_interface.true) in
    rw walk c.method_of_interface.ensures

pub returns-else-is_interface : goal.returns-else-is_interface
returns-else-is_interface c =
    let walk : method_walk c.args.t.now c.args.c ≡ class_method_walk c.args.t.now c.args.c =
    walk-of_class c.args.t.now c.args.c
    (λ is. let not : false ≡ true = rw c.if-is_interface.false at (c.is_interface.ensures.1 is) in cc) in
    rw walk c.method_of_class.ensures
