-- The best so far is the first of the classes that the offers so far expose.
use Rattle.std.proofs.Common.{◌-◌, length}
use Rattle.shared_interfaces.specs.Earliest.{IsEarliest}
use Rattle.shared_interfaces.specs.Shapes.{ExposedBefore}
use Rattle.shared_interfaces.proofs.references.first_exposed.Given as goal

abbrev pub invariant-loop-start : goal.invariant-loop-start
invariant-loop-start l = IsEarliest l.w.classes (ExposedBefore l.start l.w l.home l.first l.offers) l.best

abbrev pub decreases-loop-start : goal.decreases-loop-start
decreases-loop-start l = length l.offers - l.start
