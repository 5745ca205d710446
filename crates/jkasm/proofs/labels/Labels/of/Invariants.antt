-- What the table has so far, and what is known of the labels of the lines that are left, is what is known of all.
use Rattle.std.proofs.Common.{◌≤◌, drop}
use Rattle.jkasm.specs.Labels.{FAR}
use Rattle.jkasm.specs.Outline.{items_of, codes_to_end}
use Rattle.jkasm.proofs.LabelsInTurn.{IsToldBy}
use Rattle.jkasm.proofs.labels.Labels.of.Given as goal

abbrev pub invariant-loop-reading : goal.invariant-loop-reading
invariant-loop-reading l = record {
  near : l.at ≤ FAR;
  told : IsToldBy (codes_to_end (items_of l.later)) (codes_to_end (items_of (drop l.reading-index l.later))) l.at l.labels;
}
