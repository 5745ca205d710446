-- By the lemmas on what is drawn.
use Rattle.machine_laws.proofs.NumbersDrawn.{kills_same, steps_draw, terminates_same}
use Rattle.machine_laws.proofs.crossings.steps_draw_numbers.Goals as goal

pub returns : goal.returns
returns c = record { steps = steps_draw; ends = terminates_same; kills = kills_same }
