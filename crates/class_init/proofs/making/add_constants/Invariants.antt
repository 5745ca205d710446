-- The texts of the first fields are there.
use Rattle.std.proofs.Common.{take}
use Rattle.class_init.specs.TextsAdded.{AddsTexts, HasConstant, IsOfSome}
use Rattle.class_init.proofs.making.add_constants.Given as goal

abbrev pub invariant-loop-field : goal.invariant-loop-field
invariant-loop-field l = AddsTexts (IsOfSome HasConstant (take l.field-index l.fields)) l.fn.texts l.texts
