-- How many places there can be: those of a list without one, places that differ, and the places of a climb without a ring.
use Rattle.std.proofs.Common.{◌≡◌, ◌≢◌, ℕ, zero, suc, ◌<◌, ◌≤◌, ◌⊎◌, inl, inr, List, [], ◌∷◌, length, Some, slice_get, refl, sym, ◌∙◌, ap, subst, arith}
use Rattle.std.proofs.lemmas.Bool.{cases_eq}
use Rattle.std.proofs.lemmas.Option.{same_Some}
use Rattle.name_rules.specs.Graphs.{Climb, HasEdge, HasNoRing, IsSquare, Path, Rows, edge, further}
use Rattle.name_rules.proofs.EdgesOfRows.{edge_within}

abbrev pub IsIn : ℕ → List ℕ → Type 0
IsIn b [] = ⊥
IsIn b (x ∷ xs) = (x ≡ b) ⊎ IsIn b xs

pub in_from : (xs : List ℕ) (k b : ℕ) → slice_get xs k ≡ Some b → IsIn b xs
in_from [] k b at = absurd cc
in_from (x ∷ xs) zero b at = inl (same_Some x b at)
in_from (x ∷ xs) (suc k) b at = inr (in_from xs k b at)

pub at_in : (xs : List ℕ) (b : ℕ) → IsIn b xs → (k : ℕ) × (slice_get xs k ≡ Some b)
at_in [] b h = absurd h
at_in (x ∷ xs) b (inl e) = (0, ap (λ (y : ℕ). Some y) e)
at_in (x ∷ xs) b (inr h) = let on = at_in xs b h in (suc on.0, on.1)

-- the list without one place that it has
pub record TakenOut (a : ℕ) (xs : List ℕ) : Type 0 where
  pub rest : List ℕ
  pub one_less : length xs ≡ suc (length rest)
  pub others : (b : ℕ) → b ≢ a → IsIn b xs → IsIn b rest

pub take_out : (a : ℕ) (xs : List ℕ) → IsIn a xs → TakenOut a xs
take_out a [] h = absurd h
take_out a (x ∷ xs) (inl e) = record {
  rest = xs;
  one_less = refl;
  others = λ b other h. elim h [ inl same ↦ absurd (other (sym same ∙ e)) | inr on ↦ on ];
}
take_out a (x ∷ xs) (inr h) =
    let on = take_out a xs h in
    record {
      rest = x ∷ on.rest;
      one_less = ap (λ (n : ℕ). suc n) on.one_less;
      others = λ b other k. elim k [ inl same ↦ inl same | inr more ↦ inr (on.others b other more) ];
    }

-- ---- Places that differ are no more than all that they are among, and a list that has all places has so many.

pub differing_are_few : (xs ys : List ℕ) → ((k l b : ℕ) → k < l → slice_get xs k ≡ Some b → slice_get xs l ≡ Some b → ⊥)
    → ((b : ℕ) → IsIn b xs → IsIn b ys) → length xs ≤ length ys
differing_are_few [] ys apart among = omega arith
differing_are_few (x ∷ xs) ys apart among =
    let out = take_out x ys (among x (inl refl)) in
    let rest = differing_are_few xs out.rest (λ k l b below at also. apart (suc k) (suc l) b (omega arith) at also)
    (λ b h. out.others b
    (λ same. let found = at_in xs b h in apart 0 (suc found.0) b (omega arith) (ap (λ (y : ℕ). Some y) (sym same)) found.1)
    (among b (inr h))) in
    omega (arith, rest, out.one_less)

pub all_are_many : (n : ℕ) (xs : List ℕ) → ((b : ℕ) → b < n → IsIn b xs) → n ≤ length xs
all_are_many zero xs all = omega arith
all_are_many (suc n) xs all =
    let out = take_out n xs (all n (omega arith)) in
    let rest = all_are_many n out.rest (λ b below. out.others b (λ same. absurd (omega arith)) (all b (omega arith))) in
    omega (arith, rest, out.one_less)

-- ---- All places below a bound.

abbrev pub places_below : ℕ → List ℕ
places_below zero = []
places_below (suc n) = n ∷ places_below n

so_many : (n : ℕ) → length (places_below n) ≡ n
so_many zero = refl
so_many (suc n) = ap (λ (k : ℕ). suc k) (so_many n)

pub below_in : (n b : ℕ) → b < n → IsIn b (places_below n)
below_in zero b below = absurd (omega arith)
below_in (suc n) b below = elim (cases_eq n b) [
  | inl e ↦ inl e
  | inr other ↦ inr (below_in n b (omega (arith, other)))
]

pub in_below : (n b : ℕ) → IsIn b (places_below n) → b < n
in_below zero b h = absurd h
in_below (suc n) b (inl e) = omega arith
in_below (suc n) b (inr h) = let less = in_below n b h in omega arith

-- places that differ and are below a bound
pub differing_below : (xs : List ℕ) (n : ℕ) → ((k l b : ℕ) → k < l → slice_get xs k ≡ Some b → slice_get xs l ≡ Some b → ⊥)
    → ((k b : ℕ) → slice_get xs k ≡ Some b → b < n) → length xs ≤ n
differing_below xs n apart below =
    let few = differing_are_few xs (places_below n) apart (λ b h. let at = at_in xs b h in below_in n b (below at.0 b at.1)) in
    omega (arith, few, so_many n)

-- ---- Without a ring a climb has fewer edges than there are places.

short_climb : (E : ℕ → ℕ → Type 0) (n a b : ℕ) (xs : List ℕ) → ((c : ℕ) → Path E c c → ⊥) → Climb E n a b
    → ((c : ℕ) → (c ≡ a) ⊎ Path E a c → IsIn c xs) → n < length xs
short_climb E zero a b xs no_ring climb all = let out = take_out a xs (all a (inl refl)) in omega (arith, out.one_less)
short_climb E (suc n) a b xs no_ring (next, e, on) all =
    let out = take_out a xs (all a (inl refl)) in
    let above : (c : ℕ) → (c ≡ next) ⊎ Path E next c → Path E a c =
    λ c h. elim h [ inl same ↦ edge a c (subst (λ (k : ℕ). E a k) (sym same) e) | inr p ↦ further a next c e p ] in
    let rest = short_climb E n next b out.rest no_ring on
    (λ c h. out.others c (λ same. no_ring a (subst (λ (k : ℕ). Path E a k) same (above c h))) (all c (inr (above c h)))) in
    omega (arith, rest, out.one_less)

ends_within : (rows : Rows) (a b : ℕ) → IsSquare rows → Path (HasEdge rows) a b → b < length rows
ends_within rows a b square (edge _ _ e) = (edge_within rows a b square e).1
ends_within rows a b square (further _ m _ e p) = ends_within rows m b square p

pub climb_is_short : (rows : Rows) (n a b : ℕ) → IsSquare rows → HasNoRing rows → a < length rows → Climb (HasEdge rows) n a b → n < length rows
climb_is_short rows n a b square no_ring within climb =
    let few = short_climb (HasEdge rows) n a b (places_below (length rows)) no_ring climb
    (λ c h. below_in (length rows) c (elim h [ inl same ↦ omega arith | inr p ↦ ends_within rows a c square p ])) in
    omega (arith, few, so_many (length rows))
