-- The entry that was found names its top segment.
use Rattle.std.proofs.Common.{sym}
use Rattle.thread_stacks.specs.Places.{has_key}
use Rattle.thread_stacks.specs.Stacks.{thread_key}
use Rattle.thread_stacks.proofs.FoundInStacks.{found_at}
use Rattle.thread_stacks.proofs.endings.is_lowest_of_ending.Goals as goal

pub has_only-requires-clause-top : goal.has_only-requires-clause-top
has_only-requires-clause-top c =
    let at = found_at (has_key thread_key c.args.slot.thread) c.args.entries.now c.in-Some.entry (sym c.in-Some.ensures) in
    c.requires.tops at.place c.in-Some.entry at.there
