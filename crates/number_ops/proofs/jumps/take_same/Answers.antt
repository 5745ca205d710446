-- The two entries on top are compared.
use Rattle.std.proofs.Common.{[], ◌∷◌, refl}
use Rattle.number_ops.proofs.EntriesOnTop.{less_on_top, on_top_after, two_popped}
use Rattle.number_ops.proofs.jumps.take_same.Goals as goal

pub pop-w-requires : goal.pop-w-requires
pop-w-requires g c = (c.requires.1, less_on_top _ _ (c.requires.0 ∷ []) (c.requires.1 ∷ []) c.requires.2)

pub pop-v-requires : goal.pop-v-requires
pop-v-requires g c = (c.requires.0, on_top_after _ _ _ (c.requires.0 ∷ []) (c.requires.1 ∷ []) _ c.requires.2 c.pop-w.ensures refl)

pub returns : goal.returns
returns g c =
    (c.pop-v.result, c.pop-w.result, c.is_same_reference.ensures, two_popped _ _ _ _ _ _ c.pop-w.ensures c.pop-v.ensures)
