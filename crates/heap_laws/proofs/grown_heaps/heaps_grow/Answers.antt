-- By the lemmas on growth.
use Rattle.heap_laws.proofs.AlikeObjects.{alike_after, alike_self}
use Rattle.heap_laws.proofs.GrownHeaps.{grown_after, grown_self, making_grows, writing_grows}
use Rattle.heap_laws.proofs.grown_heaps.heaps_grow.Goals as goal

pub returns-clause-alike : goal.returns-clause-alike
returns-clause-alike c = alike_self

pub returns-clause-alike_twice : goal.returns-clause-alike_twice
returns-clause-alike_twice c = alike_after

pub returns-clause-nothing : goal.returns-clause-nothing
returns-clause-nothing c = grown_self

pub returns-clause-twice : goal.returns-clause-twice
returns-clause-twice c = grown_after

pub returns-clause-made : goal.returns-clause-made
returns-clause-made c = making_grows

pub returns-clause-written : goal.returns-clause-written
returns-clause-written c = writing_grows
