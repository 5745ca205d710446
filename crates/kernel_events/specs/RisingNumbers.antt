-- How far an event lets numbers rise. It follows from what the event is, so that what a call says of it needs no proof of its own.
use Rattle.std.specs.Prelude.{◌≡◌, ℕ, List, length}
use Rattle.jk_model.specs.declared.identifiers.ThreadNo.{ThreadNo}
use Rattle.jk_model.specs.declared.output.Line.{Line}
use Rattle.jk_model_machine_state.specs.Machines.{Machine}
use Rattle.jk_model_runs.specs.Events.{Kills, Rounds, Turns}
use Rattle.jk_model_runs.specs.Steps.{Steps}
use Rattle.kernel_events.specs.KernelCalls.{steps_of}
use Rattle.kernel_events.specs.StepsInTurn.{NumbersRise, RoundsBefore, StepsApart, TurnsBefore}

-- and as many domains as before were ever added
pub record Rises (m : Machine) (most : ℕ) (new : Machine) : Type 0 where
  pub numbers : NumbersRise m most new
  pub domains : length new.domains ≡ length m.domains

pub record NumbersRiseInEvents : Type 0 where
  pub steps : (m new : Machine) (t : ThreadNo) (lines : List Line) → Steps m t lines new → Rises m 1 new
  pub turns : (n : ℕ) (t : ThreadNo) (m new : Machine) (lines : List Line) → Turns n t m lines new → Rises m n new
  -- fewer than so many, and one more
  pub some_turns : (n : ℕ) (t : ThreadNo) (m mid new : Machine) (before said : List Line) → TurnsBefore n t m before mid
      → StepsApart mid t said new → Rises m n new
  pub rounds : (n steps : ℕ) (m new : Machine) (lines : List Line) → Rounds n steps m lines new → Rises m (steps_of n steps m) new
  -- a part of so many rounds, and one step more
  pub some_rounds : (n steps : ℕ) (t : ThreadNo) (m mid new : Machine) (before said : List Line) → RoundsBefore n steps t m before mid
      → StepsApart mid t said new → Rises m (steps_of n steps m) new
  pub kills : (m new : Machine) (name : List ℕ) (lines : List Line) → Kills m name lines new → Rises m 0 new
