-- The domains of a ring have names as scripts have them, and what they are started with is short.
use Rattle.std.proofs.Common.{◌≡◌, ℕ, zero, suc, ◌+◌, ◌<◌, ◌≤◌, true, length, map, refl, arith, decimal}
use Rattle.std.specs.Fmt.{digits}
use Rattle.std.specs.List.{AllByRecursion, range_with_len}
use Rattle.std.proofs.lemmas.Fmt.{length-decimal-le}
use Rattle.jk_model.specs.ScriptGrammar.{is_name}
use Rattle.ring_demo.specs.DemoEvents.{bound_name, domain_name, ring_of}
use Rattle.ring_demo.specs.Measures.{domains_of, hops_of, nodes_of, steps_of}

pub named : (i : ℕ) → i < 8 → is_name (domain_name i) ≡ true
unfolding digits
named zero h = refl
named (suc zero) h = refl
named (suc (suc zero)) h = refl
named (suc (suc (suc zero))) h = refl
named (suc (suc (suc (suc zero)))) h = refl
named (suc (suc (suc (suc (suc zero))))) h = refl
named (suc (suc (suc (suc (suc (suc zero)))))) h = refl
named (suc (suc (suc (suc (suc (suc (suc zero))))))) h = refl
named (suc (suc (suc (suc (suc (suc (suc (suc i)))))))) h = absurd (omega arith)

pub short_number : (n : ℕ) → n < 1000 → length (decimal n) ≤ 255
short_number n few =
    let short = length-decimal-le 3 n (omega arith) (omega arith) (omega arith) in
    omega (arith, short)

pub short_name : (i : ℕ) → i < 8 → length (bound_name i) ≤ 255
short_name i few =
    let short = length-decimal-le 3 i (omega arith) (omega arith) (omega arith) in
    omega (arith, short)

-- ---- What a seed decides is within these bounds.

pub few_domains : (seed : ℕ) → domains_of seed ≤ 8
few_domains seed = omega arith

pub some_domains : (seed : ℕ) → 2 ≤ domains_of seed
some_domains seed = omega arith

pub few_nodes : (seed : ℕ) → nodes_of seed < 1000
few_nodes seed = omega arith

pub few_hops : (seed : ℕ) → hops_of seed < 1000
few_hops seed = omega arith

pub few_steps : (seed : ℕ) → steps_of seed ≤ 997
few_steps seed = omega arith

-- ---- What holds for each domain of a ring holds of each event that is made for one.

all_from : {X : Type 0} (P : X → Type 0) (f : ℕ → X) (a n : ℕ) → ((i : ℕ) → a ≤ i → i < a + n → P (f i)) → AllByRecursion P (map f (range_with_len a n))
all_from P f a zero each = tt
all_from P f a (suc n) each = (
  each a (omega arith) (omega arith),
  all_from P f (a + 1) n (λ i low high. each i (omega arith) (omega arith)),
)

pub all_of_ring : {X : Type 0} (P : X → Type 0) (f : ℕ → X) (n : ℕ) → ((i : ℕ) → i < n → P (f i)) → AllByRecursion P (map f (ring_of n))
all_of_ring P f n each = all_from P f 0 n (λ i low high. each i (omega (arith, high)))
