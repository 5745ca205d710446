-- A step changes no more than its deed says.
use Rattle.jk_kernel.proofs.laws.steps_are_apart.Goals as goal

pub returns : goal.returns
returns c = λ m new t lines sound steps. record {
  deed = steps.0;
  steps = steps.1;
  confined = λ p. c.steps_are_confined.ensures m new t steps.0 lines p sound.known steps.1;
}
