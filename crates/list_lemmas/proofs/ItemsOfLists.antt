-- The items that a list has: at which places they stand, in lists that are put together from others, and what holds of each.
use Rattle.std.proofs.Common.{◌≡◌, ℕ, zero, suc, ◌<◌, Bool, true, List, [], ◌∷◌, length, Some, slice_get, refl, ap, subst, ◌∙◌, inl, inr, ◌⊎◌, arith, flat_map, Contains}
use Rattle.std.specs.List.{AllByRecursion, list_all}
use Rattle.std.proofs.lemmas.List.Elements.{Contains-append_cases, Contains-append_left, Contains-append_right}
use Rattle.std.proofs.lemmas.List.Concat.{flat_map-append}
use Rattle.std.proofs.lemmas.Bool.{and_parts}
use Rattle.std.proofs.lemmas.Option.{get_or_from_slice_get, same_Some, slice_get-get_or, slice_get_within}

module _ {X : Type 0} where
  pub Contains-here : (x : X) (xs : List X) → Contains (x ∷ xs) x
  Contains-here x xs = (0, omega arith, refl)

  pub Contains-there : (x y : X) (xs : List X) → Contains xs x → Contains (y ∷ xs) x
  Contains-there x y xs (k, within, e) = (suc k, omega arith, e)

  pub Contains-cases : (x y : X) (xs : List X) → Contains (y ∷ xs) x → (y ≡ x) ⊎ Contains xs x
  Contains-cases x y xs (zero, within, e) = inl e
  Contains-cases x y xs (suc k, within, e) = inr (k, omega arith, e)

  pub Contains-none : (x : X) → Contains [] x → ⊥
  Contains-none x (k, within, e) = omega arith

  pub none_in : (x : X) (xs : List X) → xs ≡ [] → Contains xs x → ⊥
  none_in x xs e h = Contains-none x (rw e at h)

  pub only_in : (x y : X) (xs : List X) → xs ≡ y ∷ [] → Contains xs x → y ≡ x
  only_in x y xs e h = elim (Contains-cases x y [] (rw e at h)) [
    | inl same ↦ same
    | inr never ↦ absurd (Contains-none x never)
  ]

  pub Contains-at : (xs : List X) (k : ℕ) (x : X) → slice_get xs k ≡ Some x → Contains xs x
  Contains-at xs k x e = (k, slice_get_within xs k x e, get_or_from_slice_get xs k x x e)

  -- a place at which an item stands
  pub place_of : (xs : List X) (x : X) → Contains xs x → (k : ℕ) × (slice_get xs k ≡ Some x)
  place_of xs x (k, within, e) = (k, slice_get-get_or xs k x within ∙ ap Some e)

  pub stands_at : (xs : List X) (x : X) → Contains xs x → (k : ℕ) × (k < length xs) × (slice_get xs k ≡ Some x)
  stands_at xs x (k, within, e) = (k, within, slice_get-get_or xs k x within ∙ ap Some e)

  -- what holds of each item holds of one that stands in the list
  pub each-of : (P : X → Type 0) (xs : List X) (x : X) → AllByRecursion P xs → Contains xs x → P x
  each-of P [] x all h = absurd (Contains-none x h)
  each-of P (y ∷ xs) x all h = elim (Contains-cases x y xs h) [
    | inl e ↦ subst P e all.0
    | inr later ↦ each-of P xs x all.1 later
  ]

  pub each-from : (P : X → Type 0) (xs : List X) → ((x : X) → Contains xs x → P x) → AllByRecursion P xs
  each-from P [] h = tt
  each-from P (x ∷ xs) h = (h x (Contains-here x xs), each-from P xs (λ y later. h y (Contains-there y x xs later)))

  pub each-by_place : (P : X → Type 0) (xs : List X) → ((k : ℕ) (x : X) → slice_get xs k ≡ Some x → P x) → AllByRecursion P xs
  each-by_place P [] h = tt
  each-by_place P (x ∷ xs) h = (h 0 x refl, each-by_place P xs (λ k y at. h (suc k) y at))

  -- where all items pass a test, each does
  pub passed_at : (p : X → Bool) (xs : List X) (k : ℕ) (x : X) → list_all p xs ≡ true → slice_get xs k ≡ Some x → p x ≡ true
  passed_at p [] k x all e = absurd cc
  passed_at p (y ∷ xs) zero x all e = subst (λ z. p z ≡ true) (same_Some y x e) (and_parts (p y) (list_all p xs) all).0
  passed_at p (y ∷ xs) (suc k) x all e = passed_at p xs k x (and_parts (p y) (list_all p xs) all).1 e

  pub each-weaker : (P Q : X → Type 0) → ((x : X) → P x → Q x) → (xs : List X) → AllByRecursion P xs → AllByRecursion Q xs
  each-weaker P Q weaker [] h = tt
  each-weaker P Q weaker (x ∷ xs) h = (weaker x h.0, each-weaker P Q weaker xs h.1)

module _ {X A : Type 0} where
  pub flat_map-same : (f g : X → List A) (xs : List X) → AllByRecursion (λ x. f x ≡ g x) xs → flat_map f xs ≡ flat_map g xs
  flat_map-same f g [] h = refl
  flat_map-same f g (x ∷ xs) h = rw (h.0, flat_map-same f g xs h.1) refl

  pub Contains-flat_map : (f : X → List A) (xs : List X) (x : X) (a : A) → Contains xs x → Contains (f x) a → Contains (flat_map f xs) a
  Contains-flat_map f [] x a h there = absurd (Contains-none x h)
  Contains-flat_map f (y ∷ xs) x a h there = elim (Contains-cases x y xs h) [
    | inl e ↦ Contains-append_left (f y) (flat_map f xs) a (rw e there)
    | inr later ↦ Contains-append_right (f y) (flat_map f xs) a (Contains-flat_map f xs x a later there)
  ]

  -- the item from which another comes
  pub Contains-flat_map_from : (f : X → List A) (xs : List X) (a : A) → Contains (flat_map f xs) a → (x : X) × Contains xs x × Contains (f x) a
  Contains-flat_map_from f [] a h = absurd (Contains-none a h)
  Contains-flat_map_from f (y ∷ xs) a h = elim (Contains-append_cases (f y) (flat_map f xs) a h) [
    | inl here ↦ (y, Contains-here y xs, here)
    | inr later ↦
        let from = Contains-flat_map_from f xs a later in
        (from.0, Contains-there from.0 y xs from.1, from.2)
  ]

pub flat_map-flat_map : {X A B : Type 0} (f : X → List A) (g : A → List B) (xs : List X)
    → flat_map g (flat_map f xs) ≡ flat_map (λ x. flat_map g (f x)) xs
flat_map-flat_map f g [] = refl
flat_map-flat_map f g (x ∷ xs) = rw (flat_map-append g (f x) (flat_map f xs), flat_map-flat_map f g xs) refl
