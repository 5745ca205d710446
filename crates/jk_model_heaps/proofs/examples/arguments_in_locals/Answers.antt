-- Four slots don't fit in three locals.
use Rattle.std.proofs.Common.{◌≤◌, arith}
use Rattle.jk_model_heaps.proofs.examples.arguments_in_locals.Goals as goal

pub returns-clause-too_few : goal.returns-clause-too_few
returns-clause-too_few c = λ f h. let fits : 4 ≤ 3 = h.0 in absurd (omega (arith, fits))
