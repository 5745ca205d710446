-- By the lemmas on threads and on their top segments.
use Rattle.machine_parts.proofs.TopsOfThreads.{lives_in_both, lives_in_machine, stands_on_top, top_runs}
use Rattle.machine_parts.proofs.running.running_segments_are_of_parts.Goals as goal

pub returns : goal.returns
returns c = record { stands = stands_on_top; runs = top_runs; lives = lives_in_both; is_live = lives_in_machine }
