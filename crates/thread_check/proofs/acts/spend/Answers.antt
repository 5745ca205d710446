-- It has a step left.
use Rattle.std.proofs.Common.{ap, arith, sym, ◌∙◌}
use Rattle.jk_model_sharing.specs.SharedStates.{SharedState}
use Rattle.thread_check.proofs.ToldByParts.{steps_told}
use Rattle.thread_check.proofs.acts.spend.Goals as goal

pub spend_step-requires-clause-budget : goal.spend_step-requires-clause-budget
spend_step-requires-clause-budget c =
    steps_told c.args.shared.now _ c.in-Some.left (sym c.in-Some.is ∙ c.steps_left.ensures) (omega (arith, c.if-left-eq0.false))

pub returns : goal.returns
returns c = ap (λ (s : SharedState). s.stubs) c.spend_step.ensures
