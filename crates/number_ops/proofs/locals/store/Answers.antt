-- The local is there, and the one after it where the value is a long.
use Rattle.std.proofs.Common.{◌+◌, ◌<◌, ap, ◌∙◌, arith}
use Rattle.jk_model_domains.specs.NumberRows.{value_slots}
use Rattle.number_ops.proofs.LocalsUsed.{local_of_many, many_after, many_at, many_set, stored_long, stored_short, within_many}
use Rattle.number_laws.proofs.FrameParts.{same_index}
use Rattle.number_laws.proofs.SlotsOfValues.{at_least_one}
use Rattle.number_ops.proofs.SlotsTaken.{popped_is}
use Rattle.number_ops.proofs.locals.store.Goals as goal

pub pop-v-requires : goal.pop-v-requires
pop-v-requires g c = (c.requires.finds.1, c.requires.finds.3)

pub local_of-n-requires : goal.local_of-n-requires
local_of-n-requires g c =
    let many = within_many _ _ _ _ c.requires.finds.4 c.requires.most in
    (c.requires.finds.0, c.requires.finds.2, omega (arith, many, at_least_one c.requires.finds.1))

pub set_local-requires : goal.set_local-requires
set_local-requires g c =
    let same = same_index _ _ _ c.requires.finds.2 c.local_of-n.ensures in
    local_of_many _ _ _ _ (many_after _ _ _ _ _ c.requires.finds.4 c.pop-v.ensures) (omega (arith, same, at_least_one c.requires.finds.1))

pub overflow_add-n : goal.overflow_add-n
overflow_add-n g c =
    let many = within_many _ _ _ _ c.requires.finds.4 c.requires.most in
    let same = same_index _ _ _ c.requires.finds.2 c.local_of-n.ensures in
    let long = ap value_slots (popped_is _ _ _ _ _ c.requires.finds.3 c.pop-v.ensures ∙ c.in-Long.is) in
    let fits : c.local_of-n.result + 1 < 65536 = omega (arith, many, same, long, c.ranges.max_locals.fits) in
    record { fits = fits }

pub set_local-requires-in-Long : goal.set_local-requires-in-Long
set_local-requires-in-Long g c =
    let same = same_index _ _ _ c.requires.finds.2 c.local_of-n.ensures in
    let long = ap value_slots (popped_is _ _ _ _ _ c.requires.finds.3 c.pop-v.ensures ∙ c.in-Long.is) in
    local_of_many _ _ _ _ (many_set _ _ _ _ _ _ (many_after _ _ _ _ _ c.requires.finds.4 c.pop-v.ensures) c.set_local.ensures)
    (omega (arith, same, long))

pub returns-in-Long : goal.returns-in-Long
returns-in-Long g c =
    let same = same_index _ _ _ c.requires.finds.2 c.local_of-n.ensures in
    let taken = popped_is _ _ _ _ _ c.requires.finds.3 c.pop-v.ensures in
    stored_long _ _ _ _ _ c.args.i.now c.local_of-n.result _ _ c.pop-v.ensures c.set_local.ensures c.set_local-in-Long.ensures c.in-Long.is
    c.requires.op c.local_of-n.ensures (many_at _ _ _ _ _ _ same taken c.requires.finds.4)

pub returns-in_default : goal.returns-in_default
returns-in_default g c =
    let same = same_index _ _ _ c.requires.finds.2 c.local_of-n.ensures in
    let taken = popped_is _ _ _ _ _ c.requires.finds.3 c.pop-v.ensures in
    stored_short _ _ _ _ c.args.i.now c.local_of-n.result _ c.pop-v.ensures c.set_local.ensures c.in_default.not-Long c.requires.op
    c.local_of-n.ensures (many_at _ _ _ _ _ _ same taken c.requires.finds.4)
