-- The best so far is the fault of the first file whose class was asked, or all classes so far are typed.
use Rattle.std.proofs.Common.{◌+◌}
use Rattle.std.specs.Prelude.{IfNone}
use Rattle.jk_model.specs.declared.output.Rule.TheVariants.{C23}
use Rattle.jk_model_typing.specs.Typing.{BreaksC23}
use Rattle.placed_rules.specs.Codes.{AtMember}
use Rattle.placed_rules.specs.FirstFiles.{IsFirstFault}
use Rattle.placed_rules.specs.PlacedFaults.{class_at}
use Rattle.placed_rules.proofs.MethodsOfClass.{AreTypedUpTo}
use Rattle.placed_rules.proofs.typings.first_untyped_file.Given as goal

abbrev pub invariant-loop-place : goal.invariant-loop-place
invariant-loop-place l =
    IsFirstFault C23 l.place l.order (λ k. AtMember (BreaksC23 l.t (class_at l.fn.first k))) l.best
    × IfNone l.best (AreTypedUpTo l.t l.fn.first (l.fn.first.0 + l.place))
