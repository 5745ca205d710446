-- A position of a stack has the node that says so, and no other.
use Rattle.std.proofs.Common.{◌≡◌, ℕ, zero, suc, ◌<◌, ◌≤◌, Bool, true, false, cond, List, [], ◌∷◌, length, nat_eq, ◌&&◌, refl, sym, ◌∙◌, arith}
use Rattle.std.proofs.lemmas.Bool.{eqb-true, and_parts}
use Rattle.std.proofs.lemmas.Bool.Decides.{nat_tests}
use Rattle.number_table.specs.declared.chains.Node.{Node}
use Rattle.number_table.specs.Chains.{node_at, place_of}

-- the node of this number is at this position of the stack
pub record IsNodeOf (nodes : List Node) (b i p : ℕ) : Type 0 where
  pub within : b < length nodes
  pub stack : (node_at nodes b).stack ≡ i
  pub position : (node_at nodes b).position ≡ p

-- no two nodes have the same position of a stack
abbrev pub AreApart : List Node → Type 0
AreApart nodes =
    (b c : ℕ) → b < length nodes → c < length nodes → (node_at nodes b).stack ≡ (node_at nodes c).stack
    → (node_at nodes b).position ≡ (node_at nodes c).position → b ≡ c

found_step : (x : Node) (xs : List Node) (i p : ℕ) (t : Bool) → (nat_eq x.stack i && nat_eq x.position p) ≡ t
    → (place_of xs i p < length xs → IsNodeOf xs (place_of xs i p) i p)
    → cond t 0 (suc (place_of xs i p)) < length (x ∷ xs) → IsNodeOf (x ∷ xs) (cond t 0 (suc (place_of xs i p))) i p
found_step x xs i p true e rest h =
    let b = and_parts (nat_eq x.stack i) (nat_eq x.position p) e in
    record { within = h; stack = eqb-true x.stack i b.0; position = eqb-true x.position p b.1 }
found_step x xs i p false e rest h =
    let r = rest (omega arith) in
    record { within = h; stack = r.stack; position = r.position }

pub place_of-found : (nodes : List Node) (i p : ℕ) → place_of nodes i p < length nodes → IsNodeOf nodes (place_of nodes i p) i p
place_of-found [] i p h = absurd (omega arith)
place_of-found (x ∷ xs) i p h =
    found_step x xs i p (nat_eq x.stack i && nat_eq x.position p) refl (place_of-found xs i p) h

is_key : (x : Node) (i p : ℕ) → x.stack ≡ i → x.position ≡ p → (nat_eq x.stack i && nat_eq x.position p) ≡ true
is_key x i p e f = grind (arith, nat_tests)

le_step : (t : Bool) (n b : ℕ) → n ≤ b → cond t 0 (suc n) ≤ suc b
le_step true n b h = omega arith
le_step false n b h = omega arith

pub place_of-le : (nodes : List Node) (b i p : ℕ) → IsNodeOf nodes b i p → place_of nodes i p ≤ b
place_of-le [] b i p h = omega (arith, h.within)
place_of-le (x ∷ xs) zero i p h = let e = is_key x i p h.stack h.position in rw e (omega arith)
place_of-le (x ∷ xs) (suc b) i p h =
    le_step (nat_eq x.stack i && nat_eq x.position p) (place_of xs i p) b
    (place_of-le xs b i p (record { within = omega (arith, h.within); stack = h.stack; position = h.position }))

pub place_of-at : (nodes : List Node) (b i p : ℕ) → AreApart nodes → IsNodeOf nodes b i p → place_of nodes i p ≡ b
place_of-at nodes b i p apart h =
    let f = place_of-found nodes i p (omega (arith, place_of-le nodes b i p h, h.within)) in
    apart (place_of nodes i p) b f.within h.within (f.stack ∙ sym h.stack) (f.position ∙ sym h.position)
