-- The lists so far stand at the end.
use Rattle.std.proofs.Common.{◌≡◌, ◌++◌, take}
use Rattle.folder_loader.proofs.thrown.add_lists.Given as goal

abbrev pub invariant-loop-list : goal.invariant-loop-list
invariant-loop-list l = l.declared ≡ l.fn.declared ++ take l.list-index l.lists
