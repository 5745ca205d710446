-- The events of the demo of a seed. As lines of a script, with `i` for each domain of the ring in rising order and `j` for the next one in it:
--   domain base heap 64 stack 2 caps 0 threads 1 names 0
--   domain di heap 400000 caps 1 threads 2 names 1
--   start di Main hi hj
--   round 1 1000
--   start di Go NODES HOPS
--   round 1000000 STEPS
use Rattle.std.specs.Prelude.{ℕ, ◌+◌, ◌%◌, List, [], ◌∷◌, ◌++◌, None, map, codes, decimal}
use Rattle.std.specs.List.{range_with_len}
use Rattle.jk_model.specs.declared.script.Event.{Event}
use Rattle.jk_model.specs.declared.script.Event.TheVariants.{Domain, Round, Start}
use Rattle.ring_demo.specs.Measures.{domains_of, hops_of, nodes_of, steps_of}

-- the name of a domain of the ring, and the one under which it offers its capability
abbrev pub domain_name : ℕ → List ℕ
domain_name i = codes "d" ++ decimal i

abbrev pub bound_name : ℕ → List ℕ
bound_name i = codes "h" ++ decimal i

abbrev pub base_opens : Event
base_opens = Domain (codes "base") (record { heap = 64; chunks = 2; caps = 0; threads = 1; names = 0; steps = None })

abbrev pub domain_opens : ℕ → Event
domain_opens i = Domain (domain_name i) (record { heap = 400000; chunks = 256; caps = 1; threads = 2; names = 1; steps = None })

-- the domain offers its own capability, and keeps the name of the next one's in a ring of so many
abbrev pub main_starts : ℕ → ℕ → Event
main_starts domains i = Start (domain_name i) (codes "Main") (bound_name i ∷ bound_name ((i + 1) % domains) ∷ [])

abbrev pub go_starts : ℕ → ℕ → ℕ → Event
go_starts nodes hops i = Start (domain_name i) (codes "Go") (decimal nodes ∷ decimal hops ∷ [])

-- the domains of a ring of so many
abbrev pub ring_of : ℕ → List ℕ
ring_of domains = range_with_len 0 domains

abbrev pub events_with : ℕ → ℕ → ℕ → ℕ → List Event
events_with domains nodes hops steps =
    base_opens ∷ map domain_opens (ring_of domains)
    ++ map (main_starts domains) (ring_of domains)
    ++ Round 1 1000 ∷ map (go_starts nodes hops) (ring_of domains)
    ++ Round 1000000 steps ∷ []

abbrev pub demo_events : ℕ → List Event
demo_events seed = events_with (domains_of seed) (nodes_of seed) (hops_of seed) (steps_of seed)
