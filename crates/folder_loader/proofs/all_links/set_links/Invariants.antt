-- The classes so far have their links, and those of the others are at hand.
use Rattle.std.proofs.Common.{◌≡◌, length}
use Rattle.folder_loader.proofs.LinksInTurn.{HaveLinksUpTo}
use Rattle.folder_loader.proofs.all_links.set_links.Given as goal

abbrev pub invariant-loop-place : goal.invariant-loop-place
invariant-loop-place l =
    (length l.links ≡ length l.fn.links) × (length l.world.classes ≡ length l.fn.world.classes)
    × HaveLinksUpTo l.fn.first l.fn.links l.fn.world l.place l.links l.world
