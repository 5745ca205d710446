-- One text more, or all have been looked up.
use Rattle.std.proofs.Common.{[], ◌∷◌, Option, ap, arith, length, length-append}
use Rattle.jk_model.specs.declared.identifiers.ClassId.{ClassId}
use Rattle.class_linker.specs.TextsSaid.{Answers, SaysClass}
use Rattle.class_linker.proofs.TextsAreSaid.{at_more}
use Rattle.class_linker.proofs.classes.classes_in.Goals as goal

pub loop-i-preserved : goal.loop-i-preserved
loop-i-preserved c = (
  omega (arith, ap length c.in_ok-push.ensures.ok, length-append c.loop-i.classes (c.class_at.result ∷ [])),
  at_more (λ i (found : Option ClassId). Answers (SaysClass c.args.names.now c.args.c.now.pool i) found) c.loop-i.classes _ c.loop-i.i c.class_at.result
      c.loop-i.invariant.0 c.class_at.ensures c.in_ok-push.ensures.ok c.loop-i.invariant.1,
)

pub returns : goal.returns
returns c = record { as_many = omega arith; each = c.loop-i.invariant.1 }
