-- By the records of classes, and what is known of capabilities.
use Rattle.row_laws.proofs.InstancesDecided.{instance_decided}
use Rattle.row_laws.proofs.operands.instances_are_decided.Goals as goal

pub returns : goal.returns
returns c = λ around x heap v t known. instance_decided x.classes x.caps heap v t
