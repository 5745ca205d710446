-- The links so far are those of the entries so far, and what is remembered is right.
use Rattle.std.specs.BTreeMap.{get}
use Rattle.std.specs.Ordering.{nat_cmp}
use Rattle.class_linker.specs.LinksSoFar.{LinksSoFar}
use Rattle.class_linker.proofs.links.links_of.Given as goal

abbrev pub invariant-loop-entry : goal.invariant-loop-entry
invariant-loop-entry l = LinksSoFar l.l (λ key. get nat_cmp l.fields key) (λ key. get nat_cmp l.methods key) l.entry-index l.links
