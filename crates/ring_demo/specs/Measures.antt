-- What a seed decides: how many domains stand in the ring (2 to 8), how many nodes a ring has (20 to 200), how often it is handed on (10 to 60
-- times), and how many steps each thread takes at a time (1 to 997).
use Rattle.std.specs.Prelude.{ℕ, ◌+◌, ◌/◌, ◌%◌}

abbrev pub domains_of : ℕ → ℕ
domains_of seed = 2 + seed % 7

abbrev pub nodes_of : ℕ → ℕ
nodes_of seed = 20 + seed / 7 % 181

abbrev pub hops_of : ℕ → ℕ
hops_of seed = 10 + seed / 1267 % 51

abbrev pub steps_of : ℕ → ℕ
steps_of seed = 1 + seed % 997
