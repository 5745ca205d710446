-- So many throwables stand behind the PrintStream.
use Rattle.kernel_openings.proofs.StandingSoFar.{StandingSoFar}
use Rattle.kernel_openings.proofs.standing_objects.make_standing.Given as goal

abbrev pub invariant-loop-s : goal.invariant-loop-s
invariant-loop-s g l =
    StandingSoFar (g.H.ObjectStore.content l.fn.heap) (g.H.ObjectStore.content l.heap) l.t l.d l.fn.own l.own l.s-index
