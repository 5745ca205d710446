-- How many numbers of threads and of segments a host's calls draw.
use Rattle.std.specs.Prelude.{ℕ, ◌+◌, ◌≤◌}
use Rattle.jk_model_machine_state.specs.Machines.{Machine}

-- at most so many of each
pub record Draws (n : ℕ) (m new : Machine) : Type 0 where
  pub threads : new.next_thread ≤ n + m.next_thread
  pub segments : new.next_segment ≤ n + m.next_segment

-- the next of each is at most this
pub record AreFew (n : ℕ) (m : Machine) : Type 0 where
  pub threads : m.next_thread ≤ n
  pub segments : m.next_segment ≤ n
