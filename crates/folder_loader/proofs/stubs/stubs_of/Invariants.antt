-- The stubs of the classes below this number.
use Rattle.folder_loader.proofs.StubsInTurn.{AreStubsUpTo}
use Rattle.folder_loader.proofs.stubs.stubs_of.Given as goal

abbrev pub invariant-loop-number : goal.invariant-loop-number
invariant-loop-number l = AreStubsUpTo l.t l.fn.first.0 l.number l.stubs
