-- The interface and those above it are asked, and then java/lang/Object.
use Rattle.jk_model_classes.specs.Lookups.{IsMethodOf}
use Rattle.member_lookup.proofs.WalksOfMethods.{interface-found, interface-then_object}
use Rattle.member_lookup.proofs.find.method_of_interface.Goals as goal

pub returns-in-Some : goal.returns-in-Some
returns-in-Some c =
    interface-found (IsMethodOf c.args.t.now c.args.key.now.name c.args.key.now.kind) c.args.t.now c.args.c _
    (rw (← c.in_ok-interface_walk.ensures.some.1) (rw c.in-Some.is at c.first_method.ensures))

pub returns-in-None : goal.returns-in-None
returns-in-None c =
    interface-then_object (IsMethodOf c.args.t.now c.args.key.now.name c.args.key.now.kind) c.args.t.now c.args.c _
    (rw (← c.in_ok-interface_walk.ensures.some.1) (rw c.in-None.is at c.first_method.ensures)) c.first_method-in-None.ensures
