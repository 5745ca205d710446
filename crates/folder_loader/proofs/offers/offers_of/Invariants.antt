-- The offers of the lines before this place.
use Rattle.std.proofs.Common.{take}
use Rattle.folder_loader.specs.OffersOfLines.{AreOffersOf}
use Rattle.folder_loader.proofs.offers.offers_of.Given as goal

abbrev pub invariant-loop-line : goal.invariant-loop-line
invariant-loop-line l = AreOffersOf l.table (take l.line-index l.lines) l.offers.items
