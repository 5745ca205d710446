-- Stacks of numbered nodes: each node is on one stack, at one position, and has the number of the node below it.
use Rattle.std.specs.Prelude.{◌≡◌, ℕ, zero, suc, ◌+◌, ◌-◌, ◌^◌, ◌⊎◌, ◌<◌, ◌≤◌, List, [], ◌∷◌, length, nat_eq, ◌&&◌, if◌then◌else◌, slice_index_or}
use Rattle.number_table.specs.declared.chains.Node.{Node}
use Rattle.number_table.specs.declared.chains.Stack.{Stack}

-- what stands past the end of the nodes
abbrev pub no_node : Node
no_node = record { stack = 0; position = 0; below = 0; jump = 0 }

-- what stands past the end of the stacks
abbrev pub no_stack : Stack
no_stack = record { count = 0; top = 0 }

abbrev pub node_at : List Node → ℕ → Node
node_at nodes b = slice_index_or nodes b no_node

abbrev pub stack_at : List Stack → ℕ → Stack
stack_at stacks i = slice_index_or stacks i no_stack

-- how many nodes a stack has
abbrev pub count_of : List Stack → ℕ → ℕ
count_of stacks i = (stack_at stacks i).count

-- the number of the node at a position of a stack; how many nodes there are where there is none
abbrev pub place_of : List Node → ℕ → ℕ → ℕ
place_of [] i p = 0
place_of (x ∷ xs) i p = if nat_eq x.stack i && nat_eq x.position p then 0 else suc (place_of xs i p)

-- the sum of a function below a number
abbrev pub sum_below : (ℕ → ℕ) → ℕ → ℕ
sum_below f zero = 0
sum_below f (suc n) = sum_below f n + f n

-- The nodes and the stacks fit each other.
pub record IsChains (nodes : List Node) (stacks : List Stack) : Type 0 where
  pub few : length nodes < 2 ^ 63
  pub few_stacks : length stacks < 2 ^ 64
  -- the top node of a stack is on it, with the highest position
  pub top : (i : ℕ) → i < length stacks → 0 < count_of stacks i → let b = (stack_at stacks i).top in
      (b < length nodes) × ((node_at nodes b).stack ≡ i) × ((node_at nodes b).position + 1 ≡ count_of stacks i)
  -- each node is on a stack
  pub within : (b : ℕ) → b < length nodes → let x = node_at nodes b in
      (x.stack < length stacks) × (x.position < count_of stacks x.stack)
  -- a node that isn't the lowest has the number of the one below it
  pub below : (b : ℕ) → b < length nodes → 0 < (node_at nodes b).position → let x = node_at nodes b in let y = node_at nodes x.below in
      (x.below < length nodes) × (y.stack ≡ x.stack) × (y.position + 1 ≡ x.position)
  -- each node has the number of one further below, if it isn't the lowest
  pub jump : (b : ℕ) → b < length nodes → let x = node_at nodes b in let y = node_at nodes x.jump in
      (x.jump < length nodes) × (y.stack ≡ x.stack) × (y.position ≤ x.position) × (0 < x.position → y.position < x.position)
  -- no two nodes have the same position of a stack
  pub apart : (b c : ℕ) → b < length nodes → c < length nodes → (node_at nodes b).stack ≡ (node_at nodes c).stack
      → (node_at nodes b).position ≡ (node_at nodes c).position → b ≡ c
  -- each position has a node
  pub there : (i p : ℕ) → i < length stacks → p < count_of stacks i → place_of nodes i p < length nodes
  pub total : sum_below (count_of stacks) (length stacks) ≡ length nodes

-- A node that is put on this stack may have this number of one further below: its own if it is the lowest.
abbrev pub JumpsFrom : List Node → Stack → ℕ → ℕ → Type 0
JumpsFrom nodes under moved jump =
    (under.count ≡ 0 → jump ≡ moved)
    × (0 < under.count → let near = node_at nodes under.top in let far = node_at nodes near.jump in
    (jump ≡ under.top) ⊎ (jump ≡ far.jump))

-- So many nodes are on the stack of this number, in order of their numbers.
pub record AreFree (nodes : List Node) (count stack : ℕ) : Type 0 where
  pub size : length nodes ≡ count
  pub each : (b : ℕ) → b < count → node_at nodes b ≡ record { stack = stack; position = b; below = b - 1; jump = b - 1 }

-- The last stack has so many nodes, in order of their numbers, and the others have none.
pub record IsOneStack (stacks : List Stack) (count number : ℕ) : Type 0 where
  pub size : length stacks ≡ number + 1
  pub last : stack_at stacks number ≡ record { count = count; top = count - 1 }
  pub others : (i : ℕ) → i < number → stack_at stacks i ≡ no_stack
