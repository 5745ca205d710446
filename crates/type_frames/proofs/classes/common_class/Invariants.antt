-- The classes above both are those that were above both at first.
use Rattle.std.proofs.Common.{◌+◌}
use Rattle.jk_model.specs.declared.identifiers.ClassId.{ClassId}
use Rattle.jk_model_classes.specs.Classes.{IsSubclass}
use Rattle.type_frames.proofs.classes.common_class.Given as goal

abbrev pub invariant-loop-right : goal.invariant-loop-right
invariant-loop-right l = record {
  left : IsSubclass l.t l.fn.a l.left;
  right : IsSubclass l.t l.fn.b l.right;
  same : (d : ClassId) → IsSubclass l.t l.fn.a d → IsSubclass l.t l.fn.b d → IsSubclass l.t l.left d × IsSubclass l.t l.right d;
}

abbrev pub decreases-loop-right : goal.decreases-loop-right
decreases-loop-right l = l.left.0 + l.right.0
