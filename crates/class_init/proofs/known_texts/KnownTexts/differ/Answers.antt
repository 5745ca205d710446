-- The texts of the entries differ.
use Rattle.class_init.proofs.PlaceOfAText.{texts_differ}
use Rattle.class_init.proofs.known_texts.KnownTexts.differ.Goals as goal

pub returns : goal.returns
returns c = rw (← c.self.view_is) (texts_differ c.self.inside.entries.items c.self.invariant.texts_differ)
