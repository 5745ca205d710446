-- What holds of each opcode of a list holds of one that is among them.
use Rattle.std.proofs.Common.{◌≡◌, ℕ, ◌⊎◌, ◌==◌, Bool, true, false, ◌||◌, List, [], ◌∷◌, IsTrue, sym, subst, inl, inr, refl, arith}
use Rattle.std.specs.List.{AllByRecursion}
use Rattle.std.proofs.lemmas.Grind.{common_steps}
use Rattle.number_laws.specs.NumberOpcodes.{is_among}

either : (k op : ℕ) (b : Bool) → IsTrue (op == k || b) → (op ≡ k) ⊎ IsTrue b
either k op b h = grind (arith, common_steps)

pub each_among : (P : ℕ → Type 0) (ks : List ℕ) (op : ℕ) → AllByRecursion P ks → IsTrue (is_among ks op) → P op
each_among P [] op all h = absurd cc
each_among P (k ∷ ks) op all h =
    elim (either k op (is_among ks op) h) [
      | inl same ↦ subst P (sym same) all.0
      | inr more ↦ each_among P ks op all.1 more
    ]

pub three_ways : (a b c : Bool) → IsTrue (a || b || c) → IsTrue (a || (b || (c || false)))
three_ways true b c h = refl
three_ways false true c h = refl
three_ways false false true h = refl
three_ways false false false h = absurd cc
