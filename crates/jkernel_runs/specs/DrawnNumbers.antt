-- How many numbers of segments the events of a script may draw. A script has at most 65,536 events, each of which starts at most one thread, and
-- has at most 1,000,000,000 steps of each thread that was started.
use Rattle.std.specs.Prelude.{ℕ, ◌+◌, ◌≤◌}
use Rattle.jk_model_machine_state.specs.Machines.{Machine}

-- more than the threads of a script
abbrev pub MOST_THREADS : ℕ
MOST_THREADS = 131072

-- so many steps of so many threads
abbrev pub MOST_DRAWN : ℕ
MOST_DRAWN = 131072000000000

-- what an event lets numbers rise
pub record RiseInEvent (m new : Machine) : Type 0 where
  pub threads : new.next_thread ≤ 1 + m.next_thread
  pub segments : new.next_segment ≤ m.next_segment + MOST_DRAWN
