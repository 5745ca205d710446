-- The folders before this place were looked at.
use Rattle.std.proofs.Common.{◌≡◌, ◌≤◌, ◌-◌, [], Some, take, vec_len}
use Rattle.jk_model.specs.Outside.{Tree}
use Rattle.jk_outside.specs.Counts.{HasTaken}
use Rattle.folder_reader.specs.AskedOnce.{AsksSome, whole_paths}
use Rattle.folder_reader.specs.Calls.{Moves}
use Rattle.folder_reader.specs.Paths.{paths_of}
use Rattle.folder_reader.specs.Walks.{AreFound, AreLevelled, IsToldWalk}
use Rattle.folder_reader.proofs.walk.found_below.Given as goal

abbrev pub invariant-loop-next : goal.invariant-loop-next
invariant-loop-next g l = record {
  few : vec_len l.found ≤ 4097;
  within : l.next ≤ vec_len l.found;
  found : AreFound l.root l.found.items;
  levels : AreLevelled l.found.items;
  counted : HasTaken (g.F.Files.tree l.fn.files) (vec_len l.found - 1) (g.F.Files.taken l.fn.files) (g.F.Files.taken l.files);
  walk : IsToldWalk (g.F.Files.tree l.fn.files) l.root l.found.items l.next;
  moves : Moves l.root (g.F.Files.tree l.fn.files) (g.F.Files.tree l.files) (g.F.Files.faults l.fn.files) (g.F.Files.faults l.files)
      (g.F.Files.taken l.fn.files) (g.F.Files.taken l.files) (g.F.Files.asked l.fn.files) (g.F.Files.asked l.files);
  asks : AsksSome (g.F.Files.asked l.fn.files) (g.F.Files.asked l.files) (whole_paths l.root (paths_of (take l.next l.found.items))) [];
  calm : (t : Tree) → g.F.Files.tree l.fn.files ≡ Some t → g.F.Files.faults l.files ≡ g.F.Files.faults l.fn.files;
}

abbrev pub decreases-loop-next : goal.decreases-loop-next
decreases-loop-next g l = 4097 - l.next
