-- One text more, or all have been read.
use Rattle.std.proofs.Common.{[], ◌∷◌, ap, arith, length, length-append}
use Rattle.class_linker.specs.TextsSaid.{IsSaidAt}
use Rattle.class_linker.proofs.TextsAreSaid.{at_more}
use Rattle.class_linker.proofs.said.said_in.Goals as goal

pub loop-i-preserved : goal.loop-i-preserved
loop-i-preserved c = (
  omega (arith, ap length c.in_ok-push.ensures.ok, length-append c.loop-i.all (c.in_ok-said.said ∷ [])),
  at_more (IsSaidAt c.args.names.now c.args.c.now.pool) c.loop-i.all _ c.loop-i.i c.in_ok-said.said c.loop-i.invariant.0 c.in_ok-said.ensures
      c.in_ok-push.ensures.ok c.loop-i.invariant.1,
)

pub returns : goal.returns
returns c = record { as_many = omega arith; each = c.loop-i.invariant.1 }
