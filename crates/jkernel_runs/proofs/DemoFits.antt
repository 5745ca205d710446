-- The events of the demo are such as a script has: names have a name's form, numbers are within their ranges, and there are few.
use Rattle.std.proofs.Common.{ℕ, ◌+◌, ◌%◌, ◌<◌, ◌≤◌, List, [], ◌∷◌, ◌++◌, length, map, refl, arith, length-append}
use Rattle.std.specs.List.{AllByRecursion}
use Rattle.std.proofs.lemmas.List.FromFn.{length-map-range_with_len}
use Rattle.std.proofs.lemmas.Nat.{mod_below}
use Rattle.jk_model.proofs.EachItem.{all_append}
use Rattle.jk_model.specs.declared.script.Event.{Event}
use Rattle.jk_model.specs.declared.script.Event.TheVariants.{Round}
use Rattle.ring_demo.specs.DemoEvents.{base_opens, demo_events, domain_opens, go_starts, main_starts, ring_of}
use Rattle.ring_demo.specs.Measures.{domains_of, hops_of, nodes_of, steps_of}
use Rattle.ring_demo.proofs.RingNames.{all_of_ring, few_domains, few_hops, few_nodes, few_steps, named, short_name, short_number}
use Rattle.jkernel_runs.specs.Events.{IsOfScript}

base_fits : IsOfScript base_opens
base_fits = (refl, record { words = (omega arith, omega arith); chunks = (omega arith, omega arith); counts = (omega arith, omega arith) })

opens_fit : (i : ℕ) → i < 8 → IsOfScript (domain_opens i)
opens_fit i few =
    (named i few, record { words = (omega arith, omega arith); chunks = (omega arith, omega arith); counts = (omega arith, omega arith) })

next_few : (domains i : ℕ) → i < domains → domains ≤ 8 → (i + 1) % domains < 8
next_few domains i within few = omega (arith, mod_below (i + 1) domains (omega arith))

mains_fit : (domains i : ℕ) → i < domains → domains ≤ 8 → IsOfScript (main_starts domains i)
mains_fit domains i within few = (
  named i (omega arith),
  omega arith,
  record { few = omega arith; short = (short_name i (omega arith), (short_name ((i + 1) % domains) (next_few domains i within few), tt)) },
)

goes_fit : (nodes hops i : ℕ) → nodes < 1000 → hops < 1000 → i < 8 → IsOfScript (go_starts nodes hops i)
goes_fit nodes hops i short_nodes short_hops few = (
  named i few,
  omega arith,
  record { few = omega arith; short = (short_number nodes short_nodes, (short_number hops short_hops, tt)) },
)

pub demo_fits : (seed : ℕ) → AllByRecursion IsOfScript (demo_events seed)
demo_fits seed =
    let domains = domains_of seed in
    let few = few_domains seed in
    let opens = all_of_ring IsOfScript domain_opens domains (λ i within. opens_fit i (omega arith)) in
    let mains = all_of_ring IsOfScript (main_starts domains) domains (λ i within. mains_fit domains i within few) in
    let goes = all_of_ring IsOfScript (go_starts (nodes_of seed) (hops_of seed)) domains
    (λ i within. goes_fit (nodes_of seed) (hops_of seed) i (few_nodes seed) (few_hops seed) (omega arith)) in
    let last : IsOfScript (Round 1000000 (steps_of seed)) = omega (arith, few_steps seed) in
    let first : IsOfScript (Round 1 1000) = omega arith in
    let of_opens : List Event = map domain_opens (ring_of domains) in
    let of_mains : List Event = map (main_starts domains) (ring_of domains) in
    let of_goes : List Event = map (go_starts (nodes_of seed) (hops_of seed)) (ring_of domains) in
    let to_mains = all_append IsOfScript (base_opens ∷ of_opens) of_mains (base_fits, opens) mains in
    let to_goes = all_append IsOfScript (base_opens ∷ of_opens ++ of_mains) (Round 1 1000 ∷ of_goes) to_mains (first, goes) in
    all_append IsOfScript (base_opens ∷ of_opens ++ of_mains ++ Round 1 1000 ∷ of_goes) (Round 1000000 (steps_of seed) ∷ []) to_goes (last, tt)

-- A run of an event after the other takes them for so many.
pub demo_few : (seed : ℕ) → length (demo_events seed) ≤ 65536
demo_few seed =
    let few = few_domains seed in
    simp (length-append, length-map-range_with_len) (omega (arith, few))
