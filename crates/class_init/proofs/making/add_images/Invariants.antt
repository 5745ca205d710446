-- The texts of the first images are there.
use Rattle.std.proofs.Common.{take}
use Rattle.class_init.specs.TextsAdded.{AddsTexts, HasText, IsOfSome}
use Rattle.class_init.proofs.making.add_images.Given as goal

abbrev pub invariant-loop-image : goal.invariant-loop-image
invariant-loop-image l = AddsTexts (IsOfSome HasText (take l.image-index l.images)) l.fn.texts l.texts
