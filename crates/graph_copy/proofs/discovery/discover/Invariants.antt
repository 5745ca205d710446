-- So much is found, and objects of the class that is known may be copied; the words that are not found yet grow fewer.
use Rattle.std.proofs.Common.{◌≡◌, ◌-◌, Some}
use Rattle.jk_model_heaps.specs.Heaps.{heap_words}
use Rattle.jk_model_heaps.specs.declared.shapes.Shape.TheVariants as Of
use Rattle.graph_copy.specs.declared.kinds.KnownClass.{KnownClass}
use Rattle.graph_copy.specs.AskedOfCopies.{table_of}
use Rattle.graph_copy.specs.Discovered.{walk_of}
use Rattle.graph_copy.specs.FoundSoFar.{FoundSoFar}
use Rattle.graph_copy.specs.Judged.{MayPass}
use Rattle.graph_copy.specs.Kinds.{IsKnown}
use Rattle.graph_copy.proofs.discovery.discover.Given as goal

abbrev pub invariant-loop-todo : goal.invariant-loop-todo
invariant-loop-todo g l = record {
  found : FoundSoFar (g.H.ObjectStore.content l.fn.store) (g.H.ObjectStore.content l.store) (walk_of l.w l.from l.to l.values) l.todo l.done l.sum;
  known : IsKnown l.w.classes l.last;
  judged : (k : KnownClass) → l.last ≡ Some k → MayPass l.w.classes (table_of l.w l.from) (table_of l.w l.to) (Of.Plain k.class);
}

abbrev pub decreases-loop-todo : goal.decreases-loop-todo
decreases-loop-todo g l = heap_words l.w.classes ((g.H.ObjectStore.content l.fn.store).heap l.from) - l.sum
