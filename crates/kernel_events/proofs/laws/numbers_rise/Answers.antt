-- By the lemmas on each event.
use Rattle.kernel_events.proofs.NumbersOfEvents.{kills_rise, rounds_rise, some_rounds_rise, some_turns_rise, step_rises, turns_rise}
use Rattle.kernel_events.proofs.laws.numbers_rise.Goals as goal

pub returns : goal.returns
returns c = record {
  steps = step_rises;
  turns = turns_rise;
  some_turns = some_turns_rise;
  rounds = rounds_rise;
  some_rounds = some_rounds_rise;
  kills = kills_rise;
}
