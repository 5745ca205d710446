-- How many objects of a heap are marked: fewer, once a mark becomes 0.
use Rattle.std.proofs.Common.{◌≡◌, ◌≢◌, ℕ, zero, suc, ◌+◌, ◌<◌, ◌≤◌, List, [], ◌∷◌, Contains, Some, refl, ap, ◌∙◌, inl, inr, arith}
use Rattle.jk_model_domains.specs.Objects.{NamedObject, Object, object_named}
use Rattle.jk_model_heaps.specs.Heaps.{named}
use Rattle.list_lemmas.proofs.ItemsOfLists.{Contains-cases, Contains-none}
use Rattle.list_lemmas.proofs.TestsAndOrders.{same_or_not}
use Rattle.jk_model_heaps.proofs.NamesInHeaps.{stands}

-- 1 for every mark but 0
abbrev pub one_if_marked : ℕ → ℕ
one_if_marked zero = 0
one_if_marked (suc m) = 1

abbrev pub marked_objects : (ℕ → ℕ) → List NamedObject → ℕ
marked_objects mark [] = 0
marked_objects mark (e ∷ heap) = one_if_marked (mark e.name) + marked_objects mark heap

-- The mark of a name becomes 0, and others stay.
pub record Unmarks (old new : ℕ → ℕ) (a : ℕ) : Type 0 where
  pub cleared : new a ≡ 0
  pub others : (b : ℕ) → b ≢ a → new b ≡ old b

one_fewer : (old new : ℕ → ℕ) (a b : ℕ) → Unmarks old new a → one_if_marked (new b) ≤ one_if_marked (old b)
one_fewer old new a b u = elim (same_or_not b a) [
  | inl same ↦
      let none : one_if_marked (new b) ≡ 0 = ap (λ (n : ℕ). one_if_marked (new n)) same ∙ ap one_if_marked u.cleared in omega (arith, none)
  | inr other ↦ let kept : one_if_marked (new b) ≡ one_if_marked (old b) = ap one_if_marked (u.others b other) in omega (arith, kept)
]

no_more : (old new : ℕ → ℕ) (a : ℕ) (heap : List NamedObject) → Unmarks old new a → marked_objects new heap ≤ marked_objects old heap
no_more old new a [] u = omega arith
no_more old new a (e ∷ heap) u = omega (arith, one_fewer old new a e.name u, no_more old new a heap u)

counts_one : (m : ℕ) → m ≢ 0 → one_if_marked m ≡ 1
counts_one zero marked = absurd (marked refl)
counts_one (suc m) marked = refl

fewer_listed : (old new : ℕ → ℕ) (a : ℕ) (object : Object) (heap : List NamedObject) → Unmarks old new a → old a ≢ 0
    → Contains heap (named a object) → marked_objects new heap < marked_objects old heap
fewer_listed old new a object [] u marked there = absurd (Contains-none (named a object) there)
fewer_listed old new a object (e ∷ heap) u marked there = elim (Contains-cases (named a object) e heap there) [
  | inl same ↦
      let name : e.name ≡ a = ap (λ (x : NamedObject). x.name) same in
      let was : one_if_marked (old e.name) ≡ 1 = ap (λ (n : ℕ). one_if_marked (old n)) name ∙ counts_one (old a) marked in
      let is : one_if_marked (new e.name) ≡ 0 = ap (λ (n : ℕ). one_if_marked (new n)) name ∙ ap one_if_marked u.cleared in
      omega (arith, was, is, no_more old new a heap u)
  | inr later ↦ omega (arith, one_fewer old new a e.name u, fewer_listed old new a object heap u marked later)
]

pub fewer_marked : (old new : ℕ → ℕ) (a : ℕ) (object : Object) (heap : List NamedObject) → Unmarks old new a → old a ≢ 0
    → object_named heap a ≡ Some object → marked_objects new heap < marked_objects old heap
fewer_marked old new a object heap u marked live = fewer_listed old new a object heap u marked (stands heap a object live)
