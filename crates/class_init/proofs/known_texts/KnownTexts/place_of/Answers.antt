-- The entries say where the text stands.
use Rattle.class_init.proofs.PlaceOfAText.{place_says}
use Rattle.class_init.proofs.known_texts.KnownTexts.place_of.Goals as goal

pub returns : goal.returns
returns c =
    rw (← c.self.view_is)
    (place_says c.self.inside.entries.items c.args.units.now c.place_from.result (rw c.as_slice.ensures.value at c.place_from.ensures))
