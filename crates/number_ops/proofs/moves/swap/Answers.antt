-- Two entries are exchanged.
use Rattle.std.proofs.Common.{[], ◌∷◌, refl, sym, ap, ◌∙◌, inr, lit≤}
use Rattle.jk_model_domains.specs.NumberRows.{value_slots}
use Rattle.number_ops.proofs.EntriesOnTop.{first_of_two, less_room, pushes, room_of_two, room_pushed, second_of_two, two_turned}
use Rattle.number_ops.proofs.SlotsTaken.{popped_is}
use Rattle.number_ops.proofs.moves.swap.Goals as goal

pub pop-w-requires : goal.pop-w-requires
pop-w-requires g c = (c.requires.1, second_of_two _ _ c.requires.0 c.requires.1 2 c.requires.4)

pub pop-v-requires : goal.pop-v-requires
pop-v-requires g c = (c.requires.0, first_of_two _ _ _ c.requires.0 c.requires.1 _ 2 c.requires.4 c.pop-w.ensures)

pub push-requires : goal.push-requires
push-requires g c = less_room _ _ [] 2 1 (room_of_two _ _ _ _ c.requires.0 c.requires.1 _ _ 2 c.requires.4 c.pop-w.ensures c.pop-v.ensures) (lit≤ tt)

pub push-requires-2 : goal.push-requires-2
push-requires-2 g c =
    room_pushed _ _ _ (c.pop-w.result ∷ []) 2 1 (room_of_two _ _ _ _ c.requires.0 c.requires.1 _ _ 2 c.requires.4 c.pop-w.ensures c.pop-v.ensures)
    c.push.ensures (lit≤ tt)

pub returns : goal.returns
returns g c =
    let w = popped_is _ _ _ _ _ (second_of_two _ _ c.requires.0 c.requires.1 2 c.requires.4) c.pop-w.ensures in
    let v = popped_is _ _ _ _ _ (first_of_two _ _ _ c.requires.0 c.requires.1 _ 2 c.requires.4 c.pop-w.ensures) c.pop-v.ensures in (
      c.pop-v.result ∷ c.pop-w.result ∷ [],
      c.pop-w.result ∷ c.pop-v.result ∷ [],
      inr (inr (refl, (c.pop-v.result, c.pop-w.result, ap value_slots (sym v) ∙ c.requires.2, ap value_slots (sym w) ∙ c.requires.3, refl, refl))),
      pushes _ _ _ _ (c.pop-v.result ∷ c.pop-w.result ∷ []) (c.pop-w.result ∷ []) (c.pop-v.result ∷ [])
          (two_turned _ _ _ _ _ _ _ _ c.pop-w.ensures c.pop-v.ensures c.push.ensures) c.push-2.ensures,
    )
