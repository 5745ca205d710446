-- The texts of so many words are made.
use Rattle.kernel_openings.proofs.WordsSoFar.{WordsSoFar}
use Rattle.kernel_openings.proofs.start_words.make_words.Given as goal

abbrev pub invariant-loop-i : goal.invariant-loop-i
invariant-loop-i g l = WordsSoFar (g.H.ObjectStore.content l.fn.heap) (g.H.ObjectStore.content l.heap) l.t l.d l.words l.array l.i
