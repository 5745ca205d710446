-- The classes of a folder have one order.
use Rattle.std.proofs.Common.{◌≡◌, ℕ, zero, suc, ◌<◌, ◌≤◌, ◌⊎◌, inl, inr, true, false, eqb, List, [], ◌∷◌, length, get_or, Some, slice_get, refl, sym, ap, subst, ◌∙◌, arith}
use Rattle.std.specs.Prelude.{◌||◌}
use Rattle.std.specs.List.{AllByRecursion, IsDistinct, list_any}
use Rattle.std.proofs.lemmas.Bool.{cases_order}
use Rattle.std.proofs.lemmas.Bool.Decides.{eqb_tells}
use Rattle.std.proofs.lemmas.Map.Keys.{IsDistinct-cons, IsDistinct-from_apart}
use Rattle.std.proofs.lemmas.Map.Steps.{length-le_from_distinct_below}
use Rattle.std.proofs.lemmas.Option.{same_Some, slice_get-get_or}
use Rattle.jk_model.specs.declared.class_file.ClassFile.{ClassFile}
use Rattle.jk_model_classes.specs.References.{IsCalledClass}
use Rattle.jk_model_folders.specs.ClassOrder.{ClimbsTo, ComesBefore, HasHeight, IsClassOrder, IsOfFiles}
use Rattle.class_lemmas.proofs.OneText.{one_class}
use Rattle.one_verdict.proofs.RisingLists.{IsIn, rising_same}

-- ---- Distinct numbers below as many as they are, are all of these.

in_or_not : (n : ℕ) (xs : List ℕ) → IsIn n xs ⊎ AllByRecursion (λ y. eqb n y ≡ false) xs
in_or_not n [] = inr tt
in_or_not n (x ∷ xs) = elim (eqb_tells n x) [
  | inl is ↦ inl (zero, ap Some (sym is.1))
  | inr other ↦ elim (in_or_not n xs) [
    | inl there ↦ inl (suc there.0, there.1)
    | inr none ↦ inr (other.0, none)
  ]
]

in_from_any : (n : ℕ) (xs : List ℕ) → list_any (eqb n) xs ≡ true → IsIn n xs
in_from_any n [] e = absurd cc
in_from_any n (x ∷ xs) e = elim (eqb_tells n x) [
  | inl is ↦ (zero, ap Some (sym is.1))
  | inr other ↦
      let more : list_any (eqb n) xs ≡ true = sym (ap (λ b. b || list_any (eqb n) xs) other.0) ∙ e in
      let there = in_from_any n xs more in
      (suc there.0, there.1)
]

module _ (n : ℕ) (xs : List ℕ) (many : length xs ≡ n) (distinct : IsDistinct eqb xs) (below : (k i : ℕ) → slice_get xs k ≡ Some i → i < n) where
  all_below : (i : ℕ) → i < n → (q : ℕ) → IsIn q (i ∷ xs) → q < n
  all_below i less q (zero, at) = let same : i ≡ q = same_Some i q at in omega (arith, less, same)
  all_below i less q (suc k, at) = below k q at

  all_there : (i : ℕ) → i < n → IsIn i xs
  all_there i less = elim (in_or_not i xs) [
    | inl there ↦ there
    | inr none ↦
        let long : length (i ∷ xs) ≤ n =
        length-le_from_distinct_below (i ∷ xs) n (IsDistinct-cons eqb i xs none distinct) (λ q e. all_below i less q (in_from_any q (i ∷ xs) e)) in
        absurd (omega (arith, long, many))
  ]

module _ (files : List ClassFile) where
  -- ---- A class has one height.

  of_files : (n : ℕ) (a b : List ℕ) → ClimbsTo files n a b → IsOfFiles files a
  of_files zero a b h = h.1
  of_files (suc n) a b h = h.1

  -- who climbs some steps climbs fewer
  shorter : (n k : ℕ) (a b : List ℕ) → k ≤ n → ClimbsTo files n a b → (c : List ℕ) × ClimbsTo files k a c
  shorter n zero a b le h = (a, (refl, of_files n a b h))
  shorter zero (suc k) a b le h = absurd (omega (arith, le))
  shorter (suc n) (suc k) a b le (next, of_a, step, more) =
      let rest = shorter n k next b (omega (arith, le)) more in
      (rest.0, (next, of_a, step, rest.1))

  not_higher : (a : List ℕ) (m n : ℕ) → HasHeight files a m → HasHeight files a n → m < n → ⊥
  not_higher a m n low high less =
      let climb = shorter n (suc m) a high.0.0 (omega (arith, less)) high.0.1 in
      low.1 climb.0 climb.1

  one_height : (a : List ℕ) (m n : ℕ) → HasHeight files a m → HasHeight files a n → m ≡ n
  one_height a m n h k = elim (cases_order m n) [
    | inl same ↦ same
    | inr other ↦ elim other [
      | inl less ↦ absurd (not_higher a m n h k less)
      | inr more ↦ absurd (not_higher a n m k h more)
    ]
  ]

  -- the class of the file at a place has one height
  height_at : (i : ℕ) (c d : ClassFile) (a b : List ℕ) (m n : ℕ) → slice_get files i ≡ Some c → slice_get files i ≡ Some d → IsCalledClass c a
      → IsCalledClass d b → HasHeight files a m → HasHeight files b n → m ≡ n
  height_at i c d a b m n at there of_a of_b h k =
      let one : c ≡ d = same_Some c d (sym at ∙ there) in
      let name : a ≡ b = one_class d.pool d.this_class a b (subst (λ (x : ClassFile). IsCalledClass x a) one of_a) of_b in
      one_height b m n (subst (λ (x : List ℕ). HasHeight files x m) name h) k

  pub never_both : (i j : ℕ) → ComesBefore files i j → ComesBefore files j i → ⊥
  never_both i j (c, d, at_c, at_d, (a, b, m, n, of_a, of_b, high_a, high_b, comes)) (e, f, at_e, at_f, (x, y, k, l, of_x, of_y, high_x, high_y, goes)) =
      let same_i : m ≡ l = height_at i c f a y m l at_c at_f of_a of_y high_a high_y in
      let same_j : n ≡ k = height_at j d e b x n k at_d at_e of_b of_x high_b high_x in
      elim comes [
        | inl less ↦ elim goes [
          | inl more ↦ omega (arith, less, more, same_i, same_j)
          | inr tie ↦ omega (arith, less, tie.0, same_i, same_j)
        ]
        | inr level ↦ elim goes [
          | inl more ↦ omega (arith, level.0, more, same_i, same_j)
          | inr tie ↦ omega (arith, level.1, tie.1)
        ]
      ]

  -- ---- The order.

  distinct_places : (order : List ℕ) → IsClassOrder files order → IsDistinct eqb order
  distinct_places order h = IsDistinct-from_apart eqb order apart
    where
      apart : (i j d : ℕ) → i < j → j < length order → eqb (get_or order i d) (get_or order j d) ≡ false
      apart i j d less within =
          let x = get_or order i d in
          let y = get_or order j d in
          let here : slice_get order i ≡ Some x = slice_get-get_or order i d (omega (arith, less, within)) in
          let there : slice_get order j ≡ Some y = slice_get-get_or order j d within in
          let before : ComesBefore files x y = h.rising i j x y less here there in
          elim (eqb_tells x y) [
            | inl is ↦
                let own : ComesBefore files y y = subst (λ (z : ℕ). ComesBefore files z y) is.1 before in
                absurd (never_both y y own own)
            | inr other ↦ other.0
          ]

  each_place : (order : List ℕ) → IsClassOrder files order → (i : ℕ) → i < length files → IsIn i order
  each_place order h i less = all_there (length files) order h.as_many (distinct_places order h) h.places i less

  pub one_order : (a b : List ℕ) → IsClassOrder files a → IsClassOrder files b → a ≡ b
  one_order a b h k =
      rising_same (ComesBefore files) never_both a b h.rising k.rising
      (λ z there. each_place b k z (h.places there.0 z there.1))
      (λ z there. each_place a h z (k.places there.0 z there.1))
