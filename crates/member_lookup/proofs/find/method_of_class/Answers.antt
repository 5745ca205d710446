-- The class and its parents upwards are asked, and then the whole walk, on which the first is the first among the interfaces.
use Rattle.jk_model_classes.specs.Lookups.{IsMethodOf}
use Rattle.member_lookup.proofs.WalksOfMethods.{class-found, class-then_interfaces}
use Rattle.member_lookup.proofs.find.method_of_class.Goals as goal

pub returns-in-Some : goal.returns-in-Some
returns-in-Some c = class-found (IsMethodOf c.args.t.now c.args.key.now.name c.args.key.now.kind) c.args.t.now c.args.c _
    (rw c.in-Some.is at c.first_method_upwards.ensures)

pub returns-in_ok-walk-in-None : goal.returns-in_ok-walk-in-None
returns-in_ok-walk-in-None c =
    class-then_interfaces (IsMethodOf c.args.t.now c.args.key.now.name c.args.key.now.kind) c.args.t.now c.args.c _
    (rw c.in-None.is at c.first_method_upwards.ensures) (rw (← c.in_ok-walk-in-None.ensures.some.1) c.first_method.ensures)
