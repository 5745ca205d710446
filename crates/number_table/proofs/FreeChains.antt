-- Nodes that are all on the last of the stacks, in order of their numbers, fit the stacks.
use Rattle.std.proofs.Common.{◌≡◌, ℕ, suc, ◌+◌, ◌-◌, ◌^◌, ◌<◌, ◌≤◌, List, length, sym, ap, subst, arith, inl, inr, ◌∙◌}
use Rattle.std.proofs.lemmas.Bool.{cases_eq}
use Rattle.number_table.specs.declared.chains.Node.{Node}
use Rattle.number_table.specs.declared.chains.Stack.{Stack}
use Rattle.number_table.specs.Chains.{node_at, stack_at, count_of, place_of, sum_below, IsChains, AreFree, IsOneStack}
use Rattle.number_table.proofs.NodeOfAKey.{IsNodeOf, place_of-le}
use Rattle.number_table.proofs.SumsBelow.{sum_below-none}

module _ (nodes : List Node) (stacks : List Stack) (size last : ℕ) (few : size < 2 ^ 63) (few_stacks : last < 2 ^ 63)
    (free : AreFree nodes size last) (one : IsOneStack stacks size last) where
  stack_is : (b : ℕ) → b < size → (node_at nodes b).stack ≡ last
  stack_is b lt = ap (λ (x : Node). x.stack) (free.each b lt)

  position_is : (b : ℕ) → b < size → (node_at nodes b).position ≡ b
  position_is b lt = ap (λ (x : Node). x.position) (free.each b lt)

  below_is : (b : ℕ) → b < size → (node_at nodes b).below ≡ b - 1
  below_is b lt = ap (λ (x : Node). x.below) (free.each b lt)

  jump_is : (b : ℕ) → b < size → (node_at nodes b).jump ≡ b - 1
  jump_is b lt = ap (λ (x : Node). x.jump) (free.each b lt)

  pub count_last : count_of stacks last ≡ size
  count_last = ap (λ (s : Stack). s.count) one.last

  pub count_none : (i : ℕ) → i < last → count_of stacks i ≡ 0
  count_none i lt = ap (λ (s : Stack). s.count) (one.others i lt)

  is_last : (i : ℕ) → i < length stacks → 0 < count_of stacks i → i ≡ last
  is_last i lt some =
      elim (cases_eq i last) [
        | inl e ↦ e
        | inr ne ↦ let none : count_of stacks i ≡ 0 = count_none i (omega (arith, one.size)) in absurd (omega arith)
      ]

  top_free : (i : ℕ) → i < length stacks → 0 < count_of stacks i → let b = (stack_at stacks i).top in
      (b < length nodes) × ((node_at nodes b).stack ≡ i) × ((node_at nodes b).position + 1 ≡ count_of stacks i)
  top_free i lt some =
      let e = is_last i lt some in
      let P : ℕ → Type 0 = λ j. let b = (stack_at stacks j).top in
      (b < length nodes) × ((node_at nodes b).stack ≡ j) × ((node_at nodes b).position + 1 ≡ count_of stacks j) in
      let count : count_of stacks i ≡ count_of stacks last = ap (count_of stacks) e in
      let lt2 : size - 1 < size = omega (arith, count_last) in
      let top : (stack_at stacks last).top ≡ size - 1 = ap (λ (s : Stack). s.top) one.last in
      subst P (sym e)
      (rw (top) (omega (arith, free.size), stack_is (size - 1) lt2, omega (arith, position_is (size - 1) lt2, count_last)))

  within_free : (b : ℕ) → b < length nodes → let x = node_at nodes b in (x.stack < length stacks) × (x.position < count_of stacks x.stack)
  within_free b lt =
      let in_size : b < size = omega (arith, free.size) in
      let s = stack_is b in_size in
      let count : count_of stacks (node_at nodes b).stack ≡ count_of stacks last = ap (count_of stacks) s in
      (omega (arith, one.size), omega (arith, position_is b in_size, count_last))

  below_free : (b : ℕ) → b < length nodes → 0 < (node_at nodes b).position → let x = node_at nodes b in let y = node_at nodes x.below in
      (x.below < length nodes) × (y.stack ≡ x.stack) × (y.position + 1 ≡ x.position)
  below_free b lt some =
      let in_size : b < size = omega (arith, free.size) in
      let lower : b - 1 < size = omega arith in
      let stack : (node_at nodes (node_at nodes b).below).stack ≡ last = ap (λ k. (node_at nodes k).stack) (below_is b in_size) ∙ stack_is (b - 1) lower in
      let position : (node_at nodes (node_at nodes b).below).position ≡ b - 1 =
      ap (λ k. (node_at nodes k).position) (below_is b in_size) ∙ position_is (b - 1) lower in
      (omega (arith, below_is b in_size), stack ∙ sym (stack_is b in_size), omega (arith, position_is b in_size))

  jump_free : (b : ℕ) → b < length nodes → let x = node_at nodes b in let y = node_at nodes x.jump in
      (x.jump < length nodes) × (y.stack ≡ x.stack) × (y.position ≤ x.position) × (0 < x.position → y.position < x.position)
  jump_free b lt =
      let in_size : b < size = omega (arith, free.size) in
      let lower : b - 1 < size = omega arith in
      let stack : (node_at nodes (node_at nodes b).jump).stack ≡ last = ap (λ k. (node_at nodes k).stack) (jump_is b in_size) ∙ stack_is (b - 1) lower in
      let position : (node_at nodes (node_at nodes b).jump).position ≡ b - 1 =
      ap (λ k. (node_at nodes k).position) (jump_is b in_size) ∙ position_is (b - 1) lower in
      (omega (arith, jump_is b in_size), stack ∙ sym (stack_is b in_size), omega (arith, position_is b in_size), λ some. omega (arith, position_is b in_size))

  there_free : (i p : ℕ) → i < length stacks → p < count_of stacks i → place_of nodes i p < length nodes
  there_free i p lt some =
      let e = is_last i lt (omega arith) in
      let count : count_of stacks i ≡ count_of stacks last = ap (count_of stacks) e in
      let in_size : p < size = omega (arith, count_last) in
      let k : IsNodeOf nodes p i p = record { within = omega (arith, free.size); stack = stack_is p in_size ∙ sym e; position = position_is p in_size } in
      omega (arith, place_of-le nodes p i p k, free.size)

  total_free : sum_below (count_of stacks) (length stacks) ≡ length nodes
  total_free =
      let e : length stacks ≡ suc last = omega (arith, one.size) in
      let below : sum_below (count_of stacks) last ≡ 0 = sum_below-none (count_of stacks) last count_none in
      let all : sum_below (count_of stacks) last + count_of stacks last ≡ length nodes = omega (arith, count_last, free.size) in
      ap (sum_below (count_of stacks)) e ∙ all

  pub free_chains : IsChains nodes stacks
  free_chains =
      record {
        few = omega (arith, free.size);
        few_stacks = omega (arith, one.size);
        top = top_free;
        within = within_free;
        below = below_free;
        jump = jump_free;
        apart = λ b c b_lt c_lt s p. omega (arith, position_is b (omega (arith, free.size)), position_is c (omega (arith, free.size)));
        there = there_free;
        total = total_free;
      }
