-- Positions of chains have different nodes.
use Rattle.std.proofs.Common.{◌≡◌, ℕ, ◌<◌, ◌∙◌, sym, ap, refl}
use Rattle.number_table.specs.declared.chains.Chains.{Chains}
use Rattle.number_table.specs.Chains.{node_at}
use Rattle.number_table.specs.ChainMoves.{count, place, nodes, stacks, stack_of}
use Rattle.number_table.proofs.NodeOfAKey.{IsNodeOf, place_of-found, place_of-at}

pub place_lt : (c : Chains) (i p : ℕ) → i < stacks c → p < count c i → place c i p < nodes c
place_lt c i p lt some = c.ok.there i p lt some

pub places_apart : (c : Chains) (i p j q : ℕ) → i < stacks c → p < count c i → j < stacks c → q < count c j → place c i p ≡ place c j q → (i ≡ j) × (p ≡ q)
places_apart c i p j q i_lt p_lt j_lt q_lt e =
    let a = place_of-found c.nodes.items i p (c.ok.there i p i_lt p_lt) in
    let b = place_of-found c.nodes.items j q (c.ok.there j q j_lt q_lt) in
    (sym a.stack ∙ ap (λ k. (node_at c.nodes.items k).stack) e ∙ b.stack, sym a.position ∙ ap (λ k. (node_at c.nodes.items k).position) e ∙ b.position)

pub stack_of_place : (c : Chains) (i p : ℕ) → i < stacks c → p < count c i → stack_of c (place c i p) ≡ i
stack_of_place c i p i_lt p_lt =
    let a = place_of-found c.nodes.items i p (c.ok.there i p i_lt p_lt) in a.stack

-- The node is at this position of its stack.
pub record IsAt (c : Chains) (b p : ℕ) : Type 0 where
  pub stack : stack_of c b < stacks c
  pub low : p < count c (stack_of c b)
  pub is : place c (stack_of c b) p ≡ b

pub node_is_at : (c : Chains) (b : ℕ) → b < nodes c → IsAt c b (node_at c.nodes.items b).position
node_is_at c b lt =
    let w = c.ok.within b lt in
    let n : IsNodeOf c.nodes.items b (stack_of c b) (node_at c.nodes.items b).position =
    record { within = lt; stack = refl; position = refl } in
    record { stack = w.0; low = w.1; is = place_of-at c.nodes.items b (stack_of c b) (node_at c.nodes.items b).position c.ok.apart n }
