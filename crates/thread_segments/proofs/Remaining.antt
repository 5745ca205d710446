-- What is left of a list where items were taken out, and others changed but for what a relation says is the same.
use Rattle.std.proofs.Common.{◌≡◌, ℕ, zero, suc, ◌<◌, ◌≤◌, inl, inr, Bool, List, [], ◌∷◌, ◌++◌, length, filter, map, Some, Contains, slice_get, refl, sym, ap, subst, ◌∙◌, arith}
use Rattle.std.proofs.lemmas.Bool.{cases_Bool}
use Rattle.std.proofs.lemmas.Option.{same_Some}
use Rattle.list_lemmas.proofs.ItemsOfLists.{Contains-cases, Contains-here, Contains-none, Contains-there}

module _ {X : Type 0} (Same : X → X → Type 0) where
  pub data Remains : List X → List X → Type 0 where
    nothing : Remains [] []
    goes : (x : X) (xs ys : List X) → Remains xs ys → Remains (x ∷ xs) ys
    stays : (x y : X) (xs ys : List X) → Same x y → Remains xs ys → Remains (x ∷ xs) (y ∷ ys)

module _ {X : Type 0} (Same : X → X → Type 0) where
  pub all_remain : ((x : X) → Same x x) → (xs : List X) → Remains Same xs xs
  all_remain same [] = nothing
  all_remain same (x ∷ xs) = stays x x xs xs (same x) (all_remain same xs)

  pub remain_together : (xs ys us vs : List X) → Remains Same xs ys → Remains Same us vs → Remains Same (xs ++ us) (ys ++ vs)
  remain_together [] [] us vs nothing r = r
  remain_together [] (y ∷ ys) us vs h r = elim h [ ]
  remain_together (x ∷ xs) ys us vs (goes _ _ _ h) r = goes x (xs ++ us) (ys ++ vs) (remain_together xs ys us vs h r)
  remain_together (x ∷ xs) (y ∷ ys) us vs (stays _ _ _ _ s h) r = stays x y (xs ++ us) (ys ++ vs) s (remain_together xs ys us vs h r)

  pub changed_remain : (f : X → X) → ((x : X) → Same x (f x)) → (xs : List X) → Remains Same xs (map f xs)
  changed_remain f same [] = nothing
  changed_remain f same (x ∷ xs) = stays x (f x) xs (map f xs) (same x) (changed_remain f same xs)

  pub filtered_remain : ((x : X) → Same x x) → (p : X → Bool) (xs : List X) → Remains Same xs (filter p xs)
  filtered_remain same p [] = nothing
  filtered_remain same p (x ∷ xs) =
      let rest = filtered_remain same p xs in
      elim (cases_Bool (p x)) [
        | inl hit ↦ rw hit (stays x x xs (filter p xs) (same x) rest)
        | inr miss ↦ rw miss (goes x xs (filter p xs) rest)
      ]

  pub remain_further : ((x y z : X) → Same x y → Same y z → Same x z) → (xs ys zs : List X) → Remains Same xs ys → Remains Same ys zs → Remains Same xs zs
  remain_further trans [] [] zs nothing r = r
  remain_further trans [] (y ∷ ys) zs h r = elim h [ ]
  remain_further trans (x ∷ xs) ys zs (goes _ _ _ h) r = goes x xs zs (remain_further trans xs ys zs h r)
  remain_further trans (x ∷ xs) (y ∷ ys) zs (stays _ _ _ _ s h) (goes _ _ _ r) = goes x xs zs (remain_further trans xs ys zs h r)
  remain_further trans (x ∷ xs) (y ∷ ys) (z ∷ zs) (stays _ _ _ _ s h) (stays _ _ _ _ t r) =
      stays x z xs zs (trans x y z s t) (remain_further trans xs ys zs h r)

  -- what one that is left was
  pub remained : (xs ys : List X) (y : X) → Remains Same xs ys → Contains ys y → (x : X) × Contains xs x × Same x y
  remained [] [] y nothing there = absurd (Contains-none y there)
  remained [] (z ∷ ys) y h there = elim h [ ]
  remained (x ∷ xs) ys y (goes _ _ _ h) there =
      let r = remained xs ys y h there in (r.0, Contains-there r.0 x xs r.1, r.2)
  remained (x ∷ xs) (z ∷ ys) y (stays _ _ _ _ s h) there = elim (Contains-cases y z ys there) [
    | inl here ↦
        let P : X → Type 0 = λ w. Same x w in (x, Contains-here x xs, subst P here s)
    | inr later ↦ let r = remained xs ys y h later in (r.0, Contains-there r.0 x xs r.1, r.2)
  ]

  -- no more of them pass a test of what is the same
  pub no_more_pass : (p : X → Bool) → ((x y : X) → Same x y → p x ≡ p y) → (xs ys : List X) → Remains Same xs ys
      → length (filter p ys) ≤ length (filter p xs)
  no_more_pass p same [] [] nothing = omega arith
  no_more_pass p same [] (y ∷ ys) h = elim h [ ]
  no_more_pass p same (x ∷ xs) ys (goes _ _ _ h) =
      let rest = no_more_pass p same xs ys h in
      elim (cases_Bool (p x)) [ inl hit ↦ rw hit (omega (arith, rest)) | inr miss ↦ rw miss rest ]
  no_more_pass p same (x ∷ xs) (y ∷ ys) (stays _ _ _ _ s h) =
      let rest = no_more_pass p same xs ys h in
      let told : p y ≡ p x = sym (same x y s) in
      elim (cases_Bool (p x)) [ inl hit ↦ rw (told, hit) (omega (arith, rest)) | inr miss ↦ rw (told, miss) rest ]

-- ---- Keys.

module _ {X K : Type 0} (key : X → K) where
  -- no two items have one key
  abbrev pub DifferBy : List X → Type 0
  DifferBy xs = (i j : ℕ) (x y : X) → slice_get xs i ≡ Some x → slice_get xs j ≡ Some y → key x ≡ key y → i ≡ j

  differ_tail : (x : X) (xs : List X) → DifferBy (x ∷ xs) → DifferBy xs
  differ_tail x xs h i j a b p q same = let e = h (suc i) (suc j) a b p q same in omega (arith, e)

  module _ (Same : X → X → Type 0) (keeps : (x y : X) → Same x y → key x ≡ key y) where
    -- where one that is left stood
    stood : (xs ys : List X) (j : ℕ) (y : X) → Remains Same xs ys → slice_get ys j ≡ Some y → (i : ℕ) × (x : X) × (slice_get xs i ≡ Some x) × (key x ≡ key y)
    stood [] [] j y nothing at = absurd cc
    stood [] (z ∷ ys) j y h at = elim h [ ]
    stood (x ∷ xs) ys j y (goes _ _ _ h) at = let r = stood xs ys j y h at in (suc r.0, r.1, r.2, r.3)
    stood (x ∷ xs) (z ∷ ys) zero y (stays _ _ _ _ s h) at = (zero, x, refl, keeps x z s ∙ ap key (same_Some z y at))
    stood (x ∷ xs) (z ∷ ys) (suc j) y (stays _ _ _ _ s h) at = let r = stood xs ys j y h at in (suc r.0, r.1, r.2, r.3)

    pub still_differ : (xs ys : List X) → Remains Same xs ys → DifferBy xs → DifferBy ys
    still_differ [] [] nothing d i j u v p q same = absurd cc
    still_differ [] (y ∷ ys) h d i j u v p q same = elim h [ ]
    still_differ (x ∷ xs) ys (goes _ _ _ h) d i j u v p q same = still_differ xs ys h (differ_tail x xs d) i j u v p q same
    still_differ (x ∷ xs) (y ∷ ys) (stays _ _ _ _ s h) d i j u v p q same = by_places (still_differ xs ys h (differ_tail x xs d)) i j p q
      where
        never : (k : ℕ) (w : X) → slice_get ys k ≡ Some w → key y ≡ key w → ⊥
        never k w at e =
            let r = stood xs ys k w h at in
            let place : zero ≡ suc r.0 = d zero (suc r.0) x r.1 refl r.2 (keeps x y s ∙ e ∙ sym r.3) in
            omega (arith, place)

        by_places : DifferBy ys → (i j : ℕ) → slice_get (y ∷ ys) i ≡ Some u → slice_get (y ∷ ys) j ≡ Some v → i ≡ j
        by_places rest zero zero p q = refl
        by_places rest zero (suc j) p q = absurd (never j v q (ap key (same_Some y u p) ∙ same))
        by_places rest (suc i) zero p q = absurd (never i u p (ap key (same_Some y v q) ∙ sym same))
        by_places rest (suc i) (suc j) p q = ap suc (rest i j u v p q same)

module _ {X : Type 0} (key : X → ℕ) where
  -- keys rise
  abbrev pub RiseBy : List X → Type 0
  RiseBy xs = (i j : ℕ) (x y : X) → i < j → slice_get xs i ≡ Some x → slice_get xs j ≡ Some y → key x < key y

  rise_tail : (x : X) (xs : List X) → RiseBy (x ∷ xs) → RiseBy xs
  rise_tail x xs h i j a b low p q = h (suc i) (suc j) a b (omega arith) p q

  module _ (Same : X → X → Type 0) (keeps : (x y : X) → Same x y → key x ≡ key y) where
    pub still_rise : (xs ys : List X) → Remains Same xs ys → RiseBy xs → RiseBy ys
    still_rise [] [] nothing d i j u v low p q = absurd cc
    still_rise [] (y ∷ ys) h d i j u v low p q = elim h [ ]
    still_rise (x ∷ xs) ys (goes _ _ _ h) d i j u v low p q = still_rise xs ys h (rise_tail x xs d) i j u v low p q
    still_rise (x ∷ xs) (y ∷ ys) (stays _ _ _ _ s h) d i j u v low p q = by_places (still_rise xs ys h (rise_tail x xs d)) i j low p q
      where
        by_places : RiseBy ys → (i j : ℕ) → i < j → slice_get (y ∷ ys) i ≡ Some u → slice_get (y ∷ ys) j ≡ Some v → key u < key v
        by_places rest i zero low p q = absurd (omega arith)
        by_places rest zero (suc j) low p q =
            let r = stood key Same keeps xs ys j v h q in
            let up = d zero (suc r.0) x r.1 (omega arith) refl r.2 in
            omega (arith, up, keeps x y s, ap key (same_Some y u p), r.3)
        by_places rest (suc i) (suc j) low p q = rest i j u v (omega arith) p q
