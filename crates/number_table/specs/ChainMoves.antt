-- What the calls of chains do.
use Rattle.std.specs.Prelude.{◌≡◌, ◌≢◌, ℕ, ◌+◌, ◌-◌, ◌<◌, length}
use Rattle.number_table.specs.declared.chains.Chains.{Chains}
use Rattle.number_table.specs.Chains.{node_at, count_of, place_of}

-- how many nodes a stack has
abbrev pub count : Chains → ℕ → ℕ
count c i = count_of c.stacks.items i

-- the number of the node at a position of a stack
abbrev pub place : Chains → ℕ → ℕ → ℕ
place c i p = place_of c.nodes.items i p

-- the stack of a node
abbrev pub stack_of : Chains → ℕ → ℕ
stack_of c b = (node_at c.nodes.items b).stack

-- how many nodes there are
abbrev pub nodes : Chains → ℕ
nodes c = length c.nodes.items

-- how many stacks there are
abbrev pub stacks : Chains → ℕ
stacks c = length c.stacks.items

-- The top node of a stack, of this number, goes on top of another.
pub record MovesTop (old new : Chains) (from to b : ℕ) : Type 0 where
  pub same_nodes : nodes new ≡ nodes old
  pub same_stacks : stacks new ≡ stacks old
  pub was_top : b ≡ place old from (count old from - 1)
  pub from_count : count new from + 1 ≡ count old from
  pub to_count : count new to ≡ count old to + 1
  pub other_counts : (i : ℕ) → i ≢ from → i ≢ to → count new i ≡ count old i
  pub lands : place new to (count old to) ≡ b
  pub others : (i p : ℕ) → i < stacks old → p < count old i → p < count new i → place new i p ≡ place old i p
