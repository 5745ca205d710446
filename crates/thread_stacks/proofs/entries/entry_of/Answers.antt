-- The entry is the one at the place that the search found.
use Rattle.std.proofs.Common.{◌<◌, length, arith, sym}
use Rattle.std.proofs.lemmas.Option.{slice_get-get_or}
use Rattle.thread_stacks.specs.Places.{has_key}
use Rattle.thread_stacks.specs.Stacks.{thread_key}
use Rattle.thread_stacks.proofs.FoundInStacks.{only_found, only_within}
use Rattle.thread_stacks.proofs.entries.entry_of.Goals as goal

pub bounds-entries-place : goal.bounds-entries-place
bounds-entries-place c = only_within (has_key thread_key c.args.t.0) c.args.entries.now c.in-Some.place c.in-Some.ensures

pub offset_bounds-entries-place : goal.offset_bounds-entries-place
offset_bounds-entries-place c =
    let below : c.in-Some.place < length c.args.entries.now =
    only_within (has_key thread_key c.args.t.0) c.args.entries.now c.in-Some.place c.in-Some.ensures in
    omega arith

pub returns-in-Some : goal.returns-in-Some
returns-in-Some c =
    sym (only_found (has_key thread_key c.args.t.0) c.args.entries.now c.in-Some.place _ c.in-Some.ensures
    (slice_get-get_or c.args.entries.now c.in-Some.place _
    (only_within (has_key thread_key c.args.t.0) c.args.entries.now c.in-Some.place c.in-Some.ensures)))
