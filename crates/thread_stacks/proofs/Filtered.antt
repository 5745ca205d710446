-- What a filter leaves of a list in which one item was replaced or marks were dropped, and where the last of what it leaves stands.
use Rattle.std.proofs.Common.{◌≡◌, ◌≢◌, ℕ, zero, suc, ◌+◌, ◌<◌, inl, inr, Bool, true, false, List, [], ◌∷◌, ◌++◌, length, set, take, drop, map, filter, refl, sym, ◌∙◌, ap, arith, Some, None, slice_get, length-append}
use Rattle.std.specs.Prelude.{if◌then◌else◌, option_map}
use Rattle.std.proofs.lemmas.Bool.{cases_Bool}
use Rattle.std.proofs.lemmas.List.{append-nil, map-set, set_split, take-append-drop}
use Rattle.std.proofs.lemmas.List.Elements.{filter-append}
use Rattle.std.proofs.lemmas.Option.{same_Some, slice_get_within}
use Rattle.jk_model_sharing.specs.Segments.{top_of, without_top}
use Rattle.list_lemmas.proofs.ItemsByPlace.{drop_next, mapped_at, set_same}
use Rattle.list_lemmas.proofs.ItemsOfLists.{Contains-at, none_in}
use Rattle.list_lemmas.proofs.ItemsThatPass.{Contains-filter}

abbrev pub one_if : Bool → ℕ
one_if b = if b then 1 else 0

-- ---- Ends of lists.

pub top_of-push : {X : Type 0} (xs : List X) (x : X) → top_of (xs ++ x ∷ []) ≡ Some x
top_of-push [] x = refl
top_of-push (y ∷ []) x = refl
top_of-push (y ∷ z ∷ zs) x = top_of-push (z ∷ zs) x

pub without_top-push : {X : Type 0} (xs : List X) (x : X) → without_top (xs ++ x ∷ []) ≡ xs
without_top-push [] x = refl
without_top-push (y ∷ []) x = refl
without_top-push (y ∷ z ∷ zs) x = ap (λ ws. y ∷ ws) (without_top-push (z ∷ zs) x)

pub top_of-map : {X Y : Type 0} (f : X → Y) (xs : List X) → top_of (map f xs) ≡ option_map f (top_of xs)
top_of-map f [] = refl
top_of-map f (x ∷ []) = refl
top_of-map f (x ∷ y ∷ ys) = top_of-map f (y ∷ ys)

-- a list that isn't empty has a last item
pub top_there : {X : Type 0} (x : X) (xs : List X) → (y : X) × (top_of (x ∷ xs) ≡ Some y)
top_there x [] = (x, refl)
top_there x (y ∷ ys) = top_there y ys

pub take_put : {X : Type 0} (xs : List X) (k j : ℕ) (y : X) → k < j → take j (set xs k y) ≡ set (take j xs) k y
take_put xs k zero y low = absurd (omega (arith, low))
take_put [] k (suc j) y low = refl
take_put (x ∷ xs) zero (suc j) y low = refl
take_put (x ∷ xs) (suc k) (suc j) y low = ap (λ ws. x ∷ ws) (take_put xs k j y (omega (arith, low)))

pub slice_get-drop : {X : Type 0} (xs : List X) (n k m : ℕ) → m ≡ n + k → slice_get (drop n xs) k ≡ slice_get xs m
slice_get-drop xs zero k m e = ap (slice_get xs) (let same : k ≡ m = omega (arith, e) in same)
slice_get-drop [] (suc n) k m e = refl
slice_get-drop (x ∷ xs) (suc n) k zero e = absurd (omega (arith, e))
slice_get-drop (x ∷ xs) (suc n) k (suc m) e = slice_get-drop xs n k m (omega (arith, e))

pub map-put : {X Y : Type 0} (f : X → Y) (xs : List X) (k : ℕ) (x y : X) → slice_get xs k ≡ Some x → f y ≡ f x → map f (set xs k y) ≡ map f xs
map-put f xs k x y at same =
    map-set f xs k y ∙ ap (set (map f xs) k) same ∙ set_same (map f xs) k (f x) (mapped_at f xs k x at)

-- ---- Filters.

-- the last item that passes stands here
pub record LastAt {X : Type 0} (p : X → Bool) (xs : List X) (x : X) : Type 0 where
  pub place : ℕ
  pub there : slice_get xs place ≡ Some x
  pub passes : p x ≡ true
  pub no_more : filter p (drop (suc place) xs) ≡ []

-- where an item of what is left stood
pub record StoodAt {X : Type 0} (p : X → Bool) (xs : List X) (j : ℕ) (x : X) : Type 0 where
  pub place : ℕ
  pub there : slice_get xs place ≡ Some x
  pub passes : p x ≡ true
  pub before : filter p (take place xs) ≡ take j (filter p xs)

module _ {X : Type 0} (p : X → Bool) where
  pub filter_hit : (x : X) (xs : List X) → p x ≡ true → filter p (x ∷ xs) ≡ x ∷ filter p xs
  filter_hit x xs hit = rw hit refl

  pub filter_miss : (x : X) (xs : List X) → p x ≡ false → filter p (x ∷ xs) ≡ filter p xs
  filter_miss x xs miss = rw miss refl

  pub filter_parted : (xs : List X) (k : ℕ) (x : X) → slice_get xs k ≡ Some x
      → filter p xs ≡ filter p (take k xs) ++ filter p (x ∷ drop (suc k) xs)
  filter_parted xs k x at =
      ap (filter p) (sym (take-append-drop k xs)) ∙ filter-append p (take k xs) (drop k xs)
      ∙ ap (λ (ys : List X). filter p (take k xs) ++ filter p ys) (drop_next xs k x at)

  pub filter_put : (xs : List X) (k : ℕ) (x y : X) → slice_get xs k ≡ Some x
      → filter p (set xs k y) ≡ filter p (take k xs) ++ filter p (y ∷ drop (suc k) xs)
  filter_put xs k x y at =
      ap (filter p) (set_split xs k y (slice_get_within xs k x at)) ∙ filter-append p (take k xs) (y ∷ drop (suc k) xs)

  pub nothing_passes : (xs : List X) (k : ℕ) (x : X) → filter p xs ≡ [] → slice_get xs k ≡ Some x → p x ≡ true → ⊥
  nothing_passes xs k x none at hit = none_in x (filter p xs) none (Contains-filter p xs x (Contains-at xs k x at) hit)

  pub all_fail : (xs : List X) → ((k : ℕ) (x : X) → slice_get xs k ≡ Some x → p x ≡ false) → filter p xs ≡ []
  all_fail [] h = refl
  all_fail (x ∷ xs) h = filter_miss x xs (h zero x refl) ∙ all_fail xs (λ k y at. h (suc k) y at)

  last_step : (y : X) (xs : List X) (x : X) → (top_of (filter p xs) ≡ Some x → LastAt p xs x) → top_of (filter p (y ∷ xs)) ≡ Some x
      → LastAt p (y ∷ xs) x
  last_step y xs x rest h = by_rest (filter p xs) refl
    where
      later : LastAt p xs x → LastAt p (y ∷ xs) x
      later l = record { place = suc l.place; there = l.there; passes = l.passes; no_more = l.no_more }

      by_rest : (ys : List X) → filter p xs ≡ ys → LastAt p (y ∷ xs) x
      by_rest [] none = elim (cases_Bool (p y)) [
        | inl hit ↦
            let only : Some y ≡ Some x = sym (ap (λ (ws : List X). top_of ws) (filter_hit y xs hit ∙ ap (λ (ws : List X). y ∷ ws) none)) ∙ h in
            let same : y ≡ x = same_Some y x only in
            record { place = zero; there = only; passes = ap p (sym same) ∙ hit; no_more = none }
        | inr miss ↦
            let never : None ≡ Some x = sym (ap (λ (ws : List X). top_of ws) (filter_miss y xs miss ∙ none)) ∙ h in absurd cc
      ]
      by_rest (z ∷ zs) some = elim (cases_Bool (p y)) [
        | inl hit ↦
            later (rest (ap (λ (ws : List X). top_of ws) some
            ∙ sym (ap (λ (ws : List X). top_of ws) (filter_hit y xs hit ∙ ap (λ (ws : List X). y ∷ ws) some)) ∙ h))
        | inr miss ↦ later (rest (sym (ap (λ (ws : List X). top_of ws) (filter_miss y xs miss)) ∙ h))
      ]

  pub last_at : (xs : List X) (x : X) → top_of (filter p xs) ≡ Some x → LastAt p xs x
  last_at [] x h = absurd cc
  last_at (y ∷ xs) x h = last_step y xs x (last_at xs x) h

  -- the last one that passes is replaced by one that doesn't
  pub last_gone : (xs : List X) (k : ℕ) (x y : X) → slice_get xs k ≡ Some x → p x ≡ true → p y ≡ false → filter p (drop (suc k) xs) ≡ []
      → (filter p xs ≡ filter p (take k xs) ++ x ∷ []) × (filter p (set xs k y) ≡ filter p (take k xs))
  last_gone xs k x y at hit miss none = (
    filter_parted xs k x at
        ∙ ap (λ (ws : List X). filter p (take k xs) ++ ws) (filter_hit x (drop (suc k) xs) hit ∙ ap (λ (ws : List X). x ∷ ws) none),
    filter_put xs k x y at
        ∙ ap (λ (ws : List X). filter p (take k xs) ++ ws) (filter_miss y (drop (suc k) xs) miss ∙ none)
        ∙ append-nil (filter p (take k xs)),
  )

  pub length_first : (x : X) (xs : List X) → length (filter p (x ∷ xs)) ≡ one_if (p x) + length (filter p xs)
  length_first x xs = elim (cases_Bool (p x)) [
    | inl hit ↦ rw hit (omega arith)
    | inr miss ↦ rw miss (omega arith)
  ]

  -- One is replaced by another that doesn't pass: what is before it and behind it stays.
  pub gone_between : (xs : List X) (k : ℕ) (x y : X) → slice_get xs k ≡ Some x → p x ≡ true → p y ≡ false
      → (filter p xs ≡ filter p (take k xs) ++ x ∷ filter p (drop (suc k) xs))
      × (filter p (set xs k y) ≡ filter p (take k xs) ++ filter p (drop (suc k) xs))
  gone_between xs k x y at hit miss = (
    filter_parted xs k x at ∙ ap (λ (ws : List X). filter p (take k xs) ++ ws) (filter_hit x (drop (suc k) xs) hit),
    filter_put xs k x y at ∙ ap (λ (ws : List X). filter p (take k xs) ++ ws) (filter_miss y (drop (suc k) xs) miss),
  )

  pub never_there : (xs : List X) (k : ℕ) (x y : X) → slice_get xs k ≡ Some x → p x ≡ false → p y ≡ false → filter p (set xs k y) ≡ filter p xs
  never_there xs k x y at out off =
      filter_put xs k x y at ∙ ap (λ (ws : List X). filter p (take k xs) ++ ws) (filter_miss y (drop (suc k) xs) off)
      ∙ sym (filter_parted xs k x at ∙ ap (λ (ws : List X). filter p (take k xs) ++ ws) (filter_miss x (drop (suc k) xs) out))

  -- each is changed, and passes as before
  pub filter_mapped : (g : X → X) → ((x : X) → p (g x) ≡ p x) → (xs : List X) → filter p (map g xs) ≡ map g (filter p xs)
  filter_mapped g same [] = refl
  filter_mapped g same (x ∷ xs) = elim (cases_Bool (p x)) [
    | inl hit ↦
        filter_hit (g x) (map g xs) (same x ∙ hit) ∙ ap (λ (ws : List X). g x ∷ ws) (filter_mapped g same xs)
        ∙ sym (ap (λ (ws : List X). map g ws) (filter_hit x xs hit))
    | inr miss ↦
        filter_miss (g x) (map g xs) (same x ∙ miss) ∙ filter_mapped g same xs ∙ sym (ap (λ (ws : List X). map g ws) (filter_miss x xs miss))
  ]

  pub pushed_on : (xs : List X) (x : X) → p x ≡ true → filter p (xs ++ x ∷ []) ≡ filter p xs ++ x ∷ []
  pushed_on xs x hit = filter-append p xs (x ∷ []) ∙ ap (λ (ws : List X). filter p xs ++ ws) (filter_hit x [] hit)

  pub pushed_off : (xs : List X) (x : X) → p x ≡ false → filter p (xs ++ x ∷ []) ≡ filter p xs
  pushed_off xs x miss =
      filter-append p xs (x ∷ []) ∙ ap (λ (ws : List X). filter p xs ++ ws) (filter_miss x [] miss) ∙ append-nil (filter p xs)

  -- how many pass after one is replaced
  pub length_put : (xs : List X) (k : ℕ) (x y : X) → slice_get xs k ≡ Some x
      → length (filter p (set xs k y)) + one_if (p x) ≡ length (filter p xs) + one_if (p y)
  length_put xs k x y at =
      omega (
        arith,
        ap (λ (ws : List X). length ws) (filter_put xs k x y at),
        ap (λ (ws : List X). length ws) (filter_parted xs k x at),
        length-append (filter p (take k xs)) (filter p (y ∷ drop (suc k) xs)),
        length-append (filter p (take k xs)) (filter p (x ∷ drop (suc k) xs)),
        length_first x (drop (suc k) xs),
        length_first y (drop (suc k) xs),
      )

  -- what passes passes another test too
  pub filter_twice : (q : X → Bool) → ((x : X) → p x ≡ true → q x ≡ true) → (xs : List X) → filter p (filter q xs) ≡ filter p xs
  filter_twice q h [] = refl
  filter_twice q h (x ∷ xs) = elim (cases_Bool (p x)) [
    | inl hit ↦ rw (h x hit, hit) (ap (λ (ws : List X). x ∷ ws) (filter_twice q h xs))
    | inr miss ↦ elim (cases_Bool (q x)) [
      | inl other ↦ rw (other, miss) (filter_twice q h xs)
      | inr neither ↦ rw (neither, miss) (filter_twice q h xs)
    ]
  ]

  stood_front : (x y : X) (xs : List X) (j : ℕ) → p y ≡ true → slice_get (y ∷ filter p xs) j ≡ Some x
      → ((i : ℕ) → slice_get (filter p xs) i ≡ Some x → StoodAt p xs i x) → StoodAt p (y ∷ xs) j x
  stood_front x y xs zero hit at rest =
      record { place = zero; there = at; passes = ap p (sym (same_Some y x at)) ∙ hit; before = refl }
  stood_front x y xs (suc j) hit at rest =
      let r = rest j at in
      record {
        place = suc r.place;
        there = r.there;
        passes = r.passes;
        before =
            filter_hit y (take r.place xs) hit ∙ ap (λ (ws : List X). y ∷ ws) r.before
            ∙ sym (ap (take (suc j)) (filter_hit y xs hit));
      }

  stood_behind : (x y : X) (xs : List X) (j : ℕ) → p y ≡ false → StoodAt p xs j x → StoodAt p (y ∷ xs) j x
  stood_behind x y xs j miss r = record {
    place = suc r.place;
    there = r.there;
    passes = r.passes;
    before = filter_miss y (take r.place xs) miss ∙ r.before ∙ sym (ap (take j) (filter_miss y xs miss));
  }

  pub stood_at : (xs : List X) (j : ℕ) (x : X) → slice_get (filter p xs) j ≡ Some x → StoodAt p xs j x
  stood_at [] j x at = absurd cc
  stood_at (y ∷ xs) j x at = elim (cases_Bool (p y)) [
    | inl hit ↦
        let kept : slice_get (y ∷ filter p xs) j ≡ Some x = rw hit at at in
        stood_front x y xs j hit kept (λ i there. stood_at xs i x there)
    | inr miss ↦
        let kept : slice_get (filter p xs) j ≡ Some x = rw miss at at in
        stood_behind x y xs j miss (stood_at xs j x kept)
  ]

-- ---- Mapped filters.

module _ {X Y : Type 0} (p : X → Bool) (f : X → Y) where
  -- one item more in front
  front_hit : (x : X) (xs : List X) → p x ≡ true → map f (filter p (x ∷ xs)) ≡ f x ∷ map f (filter p xs)
  front_hit x xs hit = ap (λ (ws : List X). map f ws) (filter_hit p x xs hit)

  front_miss : (x : X) (xs : List X) → p x ≡ false → map f (filter p (x ∷ xs)) ≡ map f (filter p xs)
  front_miss x xs miss = ap (λ (ws : List X). map f ws) (filter_miss p x xs miss)

  -- an item is replaced by one that gives the same
  pub mapped_put : (xs : List X) (k : ℕ) (x y : X) → slice_get xs k ≡ Some x → p y ≡ p x → (p x ≡ true → f y ≡ f x)
      → map f (filter p (set xs k y)) ≡ map f (filter p xs)
  mapped_put [] k x y at same gives = absurd cc
  mapped_put (z ∷ xs) zero x y at same gives =
      let here : z ≡ x = same_Some z x at in
      elim (cases_Bool (p x)) [
        | inl hit ↦
            front_hit y xs (same ∙ hit) ∙ ap (λ (w : Y). w ∷ map f (filter p xs)) (gives hit ∙ ap f (sym here))
            ∙ sym (front_hit z xs (ap p here ∙ hit))
        | inr miss ↦ front_miss y xs (same ∙ miss) ∙ sym (front_miss z xs (ap p here ∙ miss))
      ]
  mapped_put (z ∷ xs) (suc k) x y at same gives =
      let rest = mapped_put xs k x y at same gives in
      elim (cases_Bool (p z)) [
        | inl hit ↦ front_hit z (set xs k y) hit ∙ ap (λ (ws : List Y). f z ∷ ws) rest ∙ sym (front_hit z xs hit)
        | inr miss ↦ front_miss z (set xs k y) miss ∙ rest ∙ sym (front_miss z xs miss)
      ]

  -- nothing is changed
  pub mapped_same : (g : Y → Y) (xs : List X) → ((k : ℕ) (x : X) → slice_get xs k ≡ Some x → g (f x) ≡ f x)
      → map g (map f (filter p xs)) ≡ map f (filter p xs)
  mapped_same g [] h = refl
  mapped_same g (x ∷ xs) h =
      let rest = mapped_same g xs (λ k y at. h (suc k) y at) in
      elim (cases_Bool (p x)) [
        | inl hit ↦ rw (hit, h zero x refl, rest) refl
        | inr miss ↦ rw miss rest
      ]

  -- one item is changed, and others give what they gave
  pub mapped_changed : (g : Y → Y) (xs : List X) (k : ℕ) (x y : X) → slice_get xs k ≡ Some x → p y ≡ p x → f y ≡ g (f x)
      → ((j : ℕ) (z : X) → slice_get xs j ≡ Some z → j ≢ k → g (f z) ≡ f z) → map f (filter p (set xs k y)) ≡ map g (map f (filter p xs))
  mapped_changed g [] k x y at same gives others = absurd cc
  mapped_changed g (z ∷ xs) zero x y at same gives others =
      let here : z ≡ x = same_Some z x at in
      let rest : map g (map f (filter p xs)) ≡ map f (filter p xs) =
      mapped_same g xs (λ j w there. others (suc j) w there (λ e. omega (arith, e))) in
      elim (cases_Bool (p x)) [
        | inl hit ↦
            front_hit y xs (same ∙ hit) ∙ ap (λ (w : Y). w ∷ map f (filter p xs)) (gives ∙ ap (λ (v : X). g (f v)) (sym here))
            ∙ ap (λ (ws : List Y). g (f z) ∷ ws) (sym rest)
            ∙ sym (ap (λ (ws : List Y). map g ws) (front_hit z xs (ap p here ∙ hit)))
        | inr miss ↦
            front_miss y xs (same ∙ miss) ∙ sym rest ∙ sym (ap (λ (ws : List Y). map g ws) (front_miss z xs (ap p here ∙ miss)))
      ]
  mapped_changed g (z ∷ xs) (suc k) x y at same gives others =
      let rest : map f (filter p (set xs k y)) ≡ map g (map f (filter p xs)) =
      mapped_changed g xs k x y at same gives (λ j w there ne. others (suc j) w there (λ e. ne (omega (arith, e)))) in
      let here : g (f z) ≡ f z = others zero z refl (λ e. omega (arith, e)) in
      elim (cases_Bool (p z)) [
        | inl hit ↦
            front_hit z (set xs k y) hit ∙ ap (λ (ws : List Y). f z ∷ ws) rest ∙ ap (λ (w : Y). w ∷ map g (map f (filter p xs))) (sym here)
            ∙ sym (ap (λ (ws : List Y). map g ws) (front_hit z xs hit))
        | inr miss ↦
            front_miss z (set xs k y) miss ∙ rest ∙ sym (ap (λ (ws : List Y). map g ws) (front_miss z xs miss))
      ]

-- ---- Filtered maps.

module _ {Z : Type 0} (q : Z → Bool) where
  same_front : (x y : Z) (xs ys : List Z) → x ≡ y → filter q xs ≡ filter q ys → filter q (x ∷ xs) ≡ filter q (y ∷ ys)
  same_front x y xs ys same rest = elim (cases_Bool (q y)) [
    | inl hit ↦
        filter_hit q x xs (ap q same ∙ hit) ∙ ap (λ (ws : List Z). x ∷ ws) rest ∙ ap (λ (w : Z). w ∷ filter q ys) same
        ∙ sym (filter_hit q y ys hit)
    | inr miss ↦ filter_miss q x xs (ap q same ∙ miss) ∙ rest ∙ sym (filter_miss q y ys miss)
  ]

  -- each is changed, and none comes or goes
  pub changed_kept : {X : Type 0} (f new : X → Z) (g : Z → Z) (xs : List X)
      → ((k : ℕ) (x : X) → slice_get xs k ≡ Some x → (new x ≡ g (f x)) × (q (g (f x)) ≡ q (f x)))
      → filter q (map new xs) ≡ map g (filter q (map f xs))
  changed_kept f new g [] h = refl
  changed_kept f new g (x ∷ xs) h =
      let here = h zero x refl in
      let rest = changed_kept f new g xs (λ k y at. h (suc k) y at) in
      elim (cases_Bool (q (f x))) [
        | inl hit ↦
            filter_hit q (new x) (map new xs) (ap q here.0 ∙ here.1 ∙ hit) ∙ ap (λ (ws : List Z). new x ∷ ws) rest
            ∙ ap (λ (w : Z). w ∷ map g (filter q (map f xs))) here.0
            ∙ sym (ap (λ (ws : List Z). map g ws) (filter_hit q (f x) (map f xs) hit))
        | inr miss ↦
            filter_miss q (new x) (map new xs) (ap q here.0 ∙ here.1 ∙ miss) ∙ rest
            ∙ sym (ap (λ (ws : List Z). map g ws) (filter_miss q (f x) (map f xs) miss))
      ]

  -- each is changed, and none comes
  pub changed_fewer : {X : Type 0} (f new : X → Z) (g : Z → Z) (xs : List X)
      → ((k : ℕ) (x : X) → slice_get xs k ≡ Some x → (new x ≡ g (f x)) × (q (f x) ≡ false → q (g (f x)) ≡ false))
      → filter q (map new xs) ≡ filter q (map g (filter q (map f xs)))
  changed_fewer f new g [] h = refl
  changed_fewer f new g (x ∷ xs) h =
      let here = h zero x refl in
      let rest = changed_fewer f new g xs (λ k y at. h (suc k) y at) in
      elim (cases_Bool (q (f x))) [
        | inl hit ↦
            same_front (new x) (g (f x)) (map new xs) (map g (filter q (map f xs))) here.0 rest
            ∙ sym (ap (λ (ws : List Z). filter q (map g ws)) (filter_hit q (f x) (map f xs) hit))
        | inr miss ↦
            filter_miss q (new x) (map new xs) (ap q here.0 ∙ here.1 miss) ∙ rest
            ∙ sym (ap (λ (ws : List Z). filter q (map g ws)) (filter_miss q (f x) (map f xs) miss))
      ]
