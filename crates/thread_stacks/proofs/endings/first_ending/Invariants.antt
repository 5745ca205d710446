-- No thread so far is one.
use Rattle.std.proofs.Common.{◌≡◌, None, find, take}
use Rattle.thread_stacks.specs.Stacks.{runs_only_in}
use Rattle.thread_stacks.proofs.endings.first_ending.Given as goal

abbrev pub invariant-loop-entry : goal.invariant-loop-entry
invariant-loop-entry l = find (runs_only_in l.slots l.d) (take l.entry-index l.entries) ≡ None
