-- The extents that are out are out in any order.
use Rattle.std.proofs.Common.{◌≡◌, ℕ, ◌<◌, ◌⊎◌, inl, inr, List, get_or, length, refl, ◌∙◌, ap, arith}
use Rattle.std.specs.List.{AllByRecursion, AllPairs, swap}
use Rattle.std.specs.List.Sorted.{IsPermutation}
use Rattle.std.proofs.lemmas.Bool.{cases_lt, cases_eq}
use Rattle.std.proofs.lemmas.List.Edits.{swapped_from_swap, length-swap}
use Rattle.std.proofs.lemmas.List.Elements.{All-from_recursion, recursion_from_All}
use Rattle.std.proofs.lemmas.List.Sorted.{IsPermutation-keeps, IsPermutation-sym, All-permutation, length_permutation}
use Rattle.jk_model.specs.declared.extents.Extent.{Extent}
use Rattle.jk_model.specs.Extents.{HasPage, AreApart, LiesBelow}
use Rattle.extent_map.specs.RunState.{RunState, IsOut}

apart_back : (d e : Extent) → AreApart d e → AreApart e d
apart_back d e h = elim h [ inl a ↦ inr a | inr b ↦ inl b ]

-- each two of these at different places are apart
abbrev AreEachApart : List Extent → Type 0
AreEachApart xs = (i j : ℕ) (d : Extent) → i < length xs → j < length xs → (i ≡ j → ⊥) → AreApart (get_or xs i d) (get_or xs j d)

each_apart : (xs : List Extent) → AllPairs AreApart xs → AreEachApart xs
each_apart xs pairs i j d i_in j_in other =
    elim (cases_lt i j) [
      | inl less ↦ pairs i j d less j_in
      | inr more ↦ apart_back (get_or xs j d) (get_or xs i d) (pairs j i d (omega (arith, other)) i_in)
    ]

-- where an element comes from that an exchange leaves at a place
record IsFrom (xs : List Extent) (a b i : ℕ) (d : Extent) : Type 0 where
  pub from : ℕ
  pub within : from < length xs
  pub same : get_or (swap xs a b) i d ≡ get_or xs from d
  pub cases : ((i ≡ a) × (from ≡ b)) ⊎ (((i ≡ b) × (from ≡ a)) ⊎ ((i ≡ a → ⊥) × (i ≡ b → ⊥) × (from ≡ i)))

from_where : (xs : List Extent) (a b i : ℕ) (d : Extent) → a < length xs → b < length xs → i < length xs → IsFrom xs a b i d
from_where xs a b i d a_in b_in i_in =
    let moved = swapped_from_swap xs (swap xs a b) a b d a_in b_in refl in
    elim (cases_eq i a) [
      | inl at_a ↦ record { from = b; within = b_in; same = ap (λ k. get_or (swap xs a b) k d) at_a ∙ moved.0; cases = inl (at_a, refl) }
      | inr not_a ↦
          elim (cases_eq i b) [
            | inl at_b ↦ record { from = a; within = a_in; same = ap (λ k. get_or (swap xs a b) k d) at_b ∙ moved.1; cases = inr (inl (at_b, refl)) }
            | inr not_b ↦ record { from = i; within = i_in; same = moved.2 i not_a not_b; cases = inr (inr (not_a, not_b, refl)) }
          ]
    ]

other_from : (a b i j f g : ℕ) → ((i ≡ a) × (f ≡ b)) ⊎ (((i ≡ b) × (f ≡ a)) ⊎ ((i ≡ a → ⊥) × (i ≡ b → ⊥) × (f ≡ i)))
    → ((j ≡ a) × (g ≡ b)) ⊎ (((j ≡ b) × (g ≡ a)) ⊎ ((j ≡ a → ⊥) × (j ≡ b → ⊥) × (g ≡ j))) → (i ≡ j → ⊥) → f ≡ g → ⊥
other_from a b i j f g x y other same = grind arith

exchanged : (xs : List Extent) (a b : ℕ) → a < length xs → b < length xs → AreEachApart xs → AreEachApart (swap xs a b)
exchanged xs a b a_in b_in apart i j d i_in j_in other =
    let long = length-swap xs a b in
    let x = from_where xs a b i d a_in b_in (omega (arith, long)) in
    let y = from_where xs a b j d a_in b_in (omega (arith, long)) in
    let there = apart x.from y.from d x.within y.within (other_from a b i j x.from y.from x.cases y.cases other) in
    rw (x.same, y.same) there

all_moved : (P : Extent → Type 0) (out other : List Extent) → IsPermutation out other → AllByRecursion P out → AllByRecursion P other
all_moved P out other moves h = recursion_from_All P other (All-permutation P out other moves (All-from_recursion P out h))

-- the order of those that are out does not matter
pub out_in_order : (map : RunState) (out other : List Extent) → IsPermutation out other → IsOut map out → IsOut map other
out_in_order map out other moves is =
    let each = IsPermutation-keeps out AreEachApart (each_apart out is.placed.1) (λ xs a b a_in b_in apart. exchanged xs a b a_in b_in apart) other moves in
    record {
      placed = (all_moved (LiesBelow map.pages) out other moves is.placed.0, λ i j d less within. each i j d (omega arith) within (omega arith));
      free = λ p under. (
        λ i. all_moved (λ x. HasPage x p → ⊥) out other moves ((is.free p under).0 i),
        λ f. (is.free p under).1 (all_moved (λ x. HasPage x p → ⊥) other out (IsPermutation-sym out other moves) f),
      );
      below = is.below;
      count = omega (arith, is.count, length_permutation out other moves);
    }
