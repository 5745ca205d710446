-- The texts of the first links are there.
use Rattle.std.proofs.Common.{take}
use Rattle.class_init.specs.TextsAdded.{AddsTexts, LeadsTo, IsOfSome}
use Rattle.class_init.proofs.making.add_linked.Given as goal

abbrev pub invariant-loop-link : goal.invariant-loop-link
invariant-loop-link l = AddsTexts (IsOfSome LeadsTo (take l.link-index l.links)) l.fn.texts l.texts
