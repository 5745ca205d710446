-- One method more is typed, and at the end all are.
use Rattle.std.proofs.Common.{arith}
use Rattle.placed_rules.proofs.MethodsOfClass.{typed_next}
use Rattle.placed_rules.proofs.typings.first_untyped.Goals as goal

pub loop-i-preserved : goal.loop-i-preserved
loop-i-preserved c =
    typed_next c.args.t.now c.args.class c.loop-i.i c.loop-i.invariant (c.in_ok-is_typed.ensures.typed c.if-not-branch.false)

pub returns : goal.returns
returns c = λ i less. c.loop-i.invariant i (omega (arith, less))
