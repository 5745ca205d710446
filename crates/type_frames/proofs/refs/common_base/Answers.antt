-- What is above a class is a class.
use Rattle.type_frames.proofs.NearestClass.{bases_of_classes}
use Rattle.type_frames.proofs.refs.common_base.Goals as goal

pub returns-in-Class-Class : goal.returns-in-Class-Class
returns-in-Class-Class c =
    rw (c.in-Class-Class.is-0, c.in-Class-Class.is-1)
    (bases_of_classes c.args.t.now c.ordered.ensures.ordered c.in-Class-Class.a c.in-Class-Class.b c.common_class.result c.common_class.ensures)
