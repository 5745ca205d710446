-- One flag of one slot is set, or none.
use Rattle.std.proofs.Common.{◌≡◌, ◌∙◌, true, List, None, Option, Some, is_some, map, ap, sym}
use Rattle.std.specs.Prelude.{if◌then◌else◌}
use Rattle.jk_model.specs.declared.identifiers.SegmentNo.{SegmentNo}
use Rattle.thread_stacks.specs.declared.segments.Flag.TheVariants.{Orphan, Revoked}
use Rattle.thread_stacks.specs.declared.slots.Slot.{Slot}
use Rattle.thread_stacks.specs.StackChanges.{if_hit, slot_flagged}
use Rattle.thread_stacks.proofs.FlagsOfSegments.{flags_map}
use Rattle.thread_stacks.proofs.Relinked.{none_hit}
use Rattle.thread_stacks.proofs.slots.warn_neighbours.Goals as goal

-- which flag it is
by_above : (above below : Option SegmentNo) (xs : List Slot) (now : Option SegmentNo) → above ≡ now
    → map (λ (s : Slot). if is_some now then if_hit above (slot_flagged Orphan true) s else if_hit below (slot_flagged Revoked true) s) xs
    ≡ map (λ (s : Slot). if is_some above then if_hit above (slot_flagged Orphan true) s else if_hit below (slot_flagged Revoked true) s) xs
by_above above below xs now is =
    ap (λ (o : Option SegmentNo). map (λ (s : Slot). if is_some o then if_hit above (slot_flagged Orphan true) s
    else if_hit below (slot_flagged Revoked true) s) xs) (sym is)

pub returns-in-Some-clause-warned : goal.returns-in-Some-clause-warned
returns-in-Some-clause-warned c =
    let was = c.args.was in
    let xs = c.args.slots.now.items in
    flags_map xs c.set_flag_among.new.slots.items c.in-Some.above Orphan true c.requires c.set_flag_among.ensures.flagged
    ∙ ap (λ (o : Option SegmentNo). map (if_hit o (slot_flagged Orphan true)) xs) (sym c.in-Some.is)
    ∙ by_above was.above was.below xs (Some c.in-Some.above) c.in-Some.is

pub returns-in-Some-below-clause-warned : goal.returns-in-Some-below-clause-warned
returns-in-Some-below-clause-warned c =
    let was = c.args.was in
    let xs = c.args.slots.now.items in
    flags_map xs c.set_flag_among-in-Some-below.new.slots.items c.in-Some-below.below Revoked true c.requires c.set_flag_among-in-Some-below.ensures.flagged
    ∙ ap (λ (o : Option SegmentNo). map (if_hit o (slot_flagged Revoked true)) xs) (sym c.in-Some-below.is)
    ∙ by_above was.above was.below xs None c.in_default.is

pub returns-in_default-below-clause-warned : goal.returns-in_default-below-clause-warned
returns-in_default-below-clause-warned c =
    let was = c.args.was in
    let xs = c.args.slots.now.items in
    none_hit was.below (slot_flagged Revoked true) xs c.in_default-below.is ∙ by_above was.above was.below xs None c.in_default.is
