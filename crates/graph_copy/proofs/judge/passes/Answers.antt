-- An object of the class that is known may be copied.
use Rattle.std.proofs.Common.{refl, sym, subst}
use Rattle.jk_model_heaps.specs.declared.shapes.Shape.{Shape}
use Rattle.graph_copy.specs.AskedOfCopies.{table_of}
use Rattle.graph_copy.specs.Judged.{MayPass}
use Rattle.graph_copy.proofs.judge.passes.Goals as goal

pub returns-in-Some : goal.returns-in-Some
returns-in-Some c = (
  λ told.
      subst (λ (p : Shape). MayPass c.args.w.now.classes (table_of c.args.w.now c.args.from) (table_of c.args.w.now c.args.to) p)
      (sym c.in-Some.ensures.of_class) (c.requires.judged c.in-Some.ensures.known c.in-Some.ensures.is),
  λ may. refl,
)
