-- The class implements jk/Remote where that was found and is implemented.
use Rattle.shared_interfaces.proofs.NumbersOfClasses.{implements_found, none_found}
use Rattle.shared_interfaces.proofs.remote_numbers.is_remote.Goals as goal

pub returns-in-Some : goal.returns-in-Some
returns-in-Some c =
    implements_found c.args.classes.now c.args.c c.args.numbers.now.remote c.requires.remote c.in-Some.remote
    c.implements.result c.in-Some.is c.implements.ensures

pub returns-in-None : goal.returns-in-None
returns-in-None c =
    (λ t. absurd cc, λ h. absurd (none_found c.args.classes.now c.args.c c.args.numbers.now.remote c.requires.remote c.in-None.is h))
