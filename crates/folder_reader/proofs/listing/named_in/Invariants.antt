-- The entries so far are those with names before this place.
use Rattle.std.proofs.Common.{◌≡◌, take}
use Rattle.folder_reader.specs.Paths.{children}
use Rattle.folder_reader.proofs.listing.named_in.Given as goal

abbrev pub invariant-loop-entry : goal.invariant-loop-entry
invariant-loop-entry l = l.below.items ≡ children l.above (take l.entry-index l.entries)
