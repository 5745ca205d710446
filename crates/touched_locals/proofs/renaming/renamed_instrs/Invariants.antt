-- The instructions so far are renamed.
use Rattle.std.proofs.Common.{◌≡◌, length}
use Rattle.touched_locals.proofs.KeptByList.{RenamedSoFar}
use Rattle.touched_locals.proofs.renaming.renamed_instrs.Given as goal

abbrev pub invariant-loop-i : goal.invariant-loop-i
invariant-loop-i l = record {
  as_many : length l.renamed ≡ l.i-index;
  each : RenamedSoFar l.kept l.count l.instrs l.renamed;
}
