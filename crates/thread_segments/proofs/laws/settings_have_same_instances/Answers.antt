-- Stubs of classes that aren't there are stand-ins, and others stand in for nothing.
use Rattle.thread_segments.proofs.SameInstances.{same_instances}
use Rattle.thread_segments.proofs.laws.settings_have_same_instances.Goals as goal

pub returns : goal.returns
returns c = same_instances
