-- The list has what is kept of the walk so far.
use Rattle.std.proofs.Common.{take}
use Rattle.stub_maker.specs.Kept.{IsKept, IsShown}
use Rattle.stub_maker.proofs.stubs.shown_on_walk.Given as goal

abbrev pub invariant-loop-i : goal.invariant-loop-i
invariant-loop-i l = IsKept (IsShown l.t l.remote) (take l.i-index l.walk) l.shown.items
