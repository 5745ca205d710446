-- So many values are replaced.
use Rattle.std.proofs.Common.{◌≡◌, map}
use Rattle.graph_copy.specs.Filled.{image_of}
use Rattle.graph_copy.proofs.PlacesFilled.{filled}
use Rattle.graph_copy.proofs.filling.replace.Given as goal

abbrev pub invariant-loop-i : goal.invariant-loop-i
invariant-loop-i g l =
    l.values ≡ filled l.i (map (image_of ((g.H.ObjectStore.content l.store).mark l.from)) l.fn.values) l.fn.values
