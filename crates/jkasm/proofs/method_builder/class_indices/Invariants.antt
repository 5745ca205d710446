-- The indices so far are those of the classes so far.
use Rattle.std.proofs.Common.{take}
use Rattle.std.specs.List.{AllByRecursion, flat_map}
use Rattle.jk_model.specs.ClassFile.{IsU2}
use Rattle.jkasm.specs.Assembled.{Agree}
use Rattle.jkasm.specs.Constants.{ClassAt, for_class}
use Rattle.jkasm.specs.PoolGrowth.{Takes}
use Rattle.jkasm.proofs.method_builder.class_indices.Given as goal

abbrev pub invariant-loop-class : goal.invariant-loop-class
invariant-loop-class l = record {
  says : Agree (λ class i. ClassAt l.pool i class) (take l.class-index l.classes) l.indices;
  fit : AllByRecursion IsU2 l.indices;
  takes : Takes l.initial.pool l.pool (flat_map for_class (take l.class-index l.classes));
}
