-- Entries are taken and put back, those on top twice.
use Rattle.std.proofs.Common.{◌+◌, ℕ, [], ◌++◌, length, sym, ◌∙◌, arith}
use Rattle.number_ops.specs.Entries.{entries_of}
use Rattle.number_ops.proofs.EntriesOnTop.{less_room, on_top, pops, pushes, room_pushed}
use Rattle.number_ops.proofs.SlotsTaken.{both_popped, first_popped}
use Rattle.number_ops.proofs.moves.copy.Goals as goal

pub take_slots-copied-requires-clause-few : goal.take_slots-copied-requires-clause-few
take_slots-copied-requires-clause-few g c = c.requires.few_copied

pub take_slots-copied-requires-clause-finds : goal.take_slots-copied-requires-clause-finds
take_slots-copied-requires-clause-finds g c =
    (c.requires.finds.1, c.requires.finds.3, on_top _ _ c.requires.finds.0 c.requires.finds.1 _ c.requires.finds.4)

pub take_slots-skipped-requires-clause-few : goal.take_slots-skipped-requires-clause-few
take_slots-skipped-requires-clause-few g c = c.requires.few

pub take_slots-skipped-requires-clause-finds : goal.take_slots-skipped-requires-clause-finds
take_slots-skipped-requires-clause-finds g c =
    let next = first_popped _ _ _ c.requires.finds.0 c.requires.finds.1 _ _ c.requires.finds.4 c.take_slots-copied.ensures.taken
    (c.requires.finds.3 ∙ sym c.take_slots-copied.ensures.slots) in
    (c.requires.finds.0, c.requires.finds.2, on_top _ _ [] c.requires.finds.0 _ next)

pub put-requires : goal.put-requires
put-requires g c =
    let both = both_popped _ _ _ _ c.requires.finds.0 c.requires.finds.1 _ _ _ c.requires.finds.4 c.take_slots-copied.ensures.taken
    c.take_slots-skipped.ensures.taken (c.requires.finds.3 ∙ sym c.take_slots-copied.ensures.slots)
    (c.requires.finds.2 ∙ sym c.take_slots-skipped.ensures.slots) in
    less_room _ _ [] _ _ both.room (omega (arith, both.many_copied, both.many_skipped))

pub put-requires-2 : goal.put-requires-2
put-requires-2 g c =
    let both = both_popped _ _ _ _ c.requires.finds.0 c.requires.finds.1 _ _ _ c.requires.finds.4 c.take_slots-copied.ensures.taken
    c.take_slots-skipped.ensures.taken (c.requires.finds.3 ∙ sym c.take_slots-copied.ensures.slots)
    (c.requires.finds.2 ∙ sym c.take_slots-skipped.ensures.slots) in
    room_pushed _ _ _ (entries_of c.take_slots-copied.result) _ _ both.room c.put.ensures (omega (arith, both.many_copied, both.many_skipped))

pub put-requires-3 : goal.put-requires-3
put-requires-3 g c =
    let both = both_popped _ _ _ _ c.requires.finds.0 c.requires.finds.1 _ _ _ c.requires.finds.4 c.take_slots-copied.ensures.taken
    c.take_slots-skipped.ensures.taken (c.requires.finds.3 ∙ sym c.take_slots-copied.ensures.slots)
    (c.requires.finds.2 ∙ sym c.take_slots-skipped.ensures.slots) in
    let top : ℕ = length (entries_of c.take_slots-copied.result) in
    let low : ℕ = length (entries_of c.take_slots-skipped.result) in
    let next = room_pushed _ _ _ (entries_of c.take_slots-copied.result) _ (low + top) both.room c.put.ensures
    (omega (arith, both.many_copied, both.many_skipped)) in
    room_pushed _ _ _ (entries_of c.take_slots-skipped.result) (low + top) top next c.put-2.ensures (omega arith)

pub returns : goal.returns
returns g c =
    let low = entries_of c.take_slots-skipped.result in
    let top = entries_of c.take_slots-copied.result in (
      low,
      top,
      c.take_slots-skipped.ensures.slots,
      c.take_slots-copied.ensures.slots,
      pushes _ _ _ _ (low ++ top) (top ++ low) top
          (pushes _ _ _ _ (low ++ top) top low
          (pushes _ _ _ _ (low ++ top) [] top (pops _ _ _ _ top low c.take_slots-copied.ensures.taken c.take_slots-skipped.ensures.taken) c.put.ensures)
          c.put-2.ensures) c.put-3.ensures,
    )
