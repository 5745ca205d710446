-- The slot is the one at the place that the search found.
use Rattle.std.proofs.Common.{◌<◌, length, arith, sym}
use Rattle.std.proofs.lemmas.Option.{slice_get-get_or}
use Rattle.thread_stacks.specs.Places.{has_key}
use Rattle.thread_stacks.specs.Stacks.{slot_key}
use Rattle.thread_stacks.proofs.FoundInStacks.{only_found, only_within}
use Rattle.thread_stacks.proofs.slots.slot_of.Goals as goal

pub bounds-slots-place : goal.bounds-slots-place
bounds-slots-place c = only_within (has_key slot_key c.args.s.0) c.args.slots.now c.in-Some.place c.in-Some.ensures

pub offset_bounds-slots-place : goal.offset_bounds-slots-place
offset_bounds-slots-place c =
    let below : c.in-Some.place < length c.args.slots.now =
    only_within (has_key slot_key c.args.s.0) c.args.slots.now c.in-Some.place c.in-Some.ensures in
    omega arith

pub returns-in-Some : goal.returns-in-Some
returns-in-Some c =
    sym (only_found (has_key slot_key c.args.s.0) c.args.slots.now c.in-Some.place _ c.in-Some.ensures
    (slice_get-get_or c.args.slots.now c.in-Some.place _
    (only_within (has_key slot_key c.args.s.0) c.args.slots.now c.in-Some.place c.in-Some.ensures)))
