-- The live threads so far are listed.
use Rattle.std.proofs.Common.{◌≡◌, map, take}
use Rattle.thread_stacks.specs.StackParts.{thread_part}
use Rattle.thread_stacks.specs.Stacks.{threads_of}
use Rattle.thread_stacks.proofs.parts.all_parts.Given as goal

abbrev pub invariant-loop-entry : goal.invariant-loop-entry
invariant-loop-entry l = l.parts ≡ map thread_part (threads_of l.slots (take l.entry-index l.entries))
