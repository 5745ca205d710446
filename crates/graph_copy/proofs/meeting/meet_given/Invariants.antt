-- The objects of so many values are met.
use Rattle.std.proofs.Common.{None, take}
use Rattle.graph_copy.specs.MetObjects.{Meets}
use Rattle.graph_copy.proofs.meeting.meet_given.Given as goal

abbrev pub invariant-loop-i : goal.invariant-loop-i
invariant-loop-i g l = Meets (g.H.ObjectStore.content l.fn.store) (g.H.ObjectStore.content l.store) l.d (take l.i l.values) None l.head
