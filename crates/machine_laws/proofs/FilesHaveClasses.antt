-- Each file of a folder has a place in the order of classes: places differ, and are as many as the files.
use Rattle.std.proofs.Common.{◌≡◌, ℕ, zero, suc, ◌<◌, ◌≤◌, inl, inr, true, false, eqb, List, [], ◌∷◌, ◌++◌, length, get_or, Some, slice_get, Contains, refl, sym, ap, subst, ◌∙◌, arith, eqb-true}
use Rattle.std.proofs.lemmas.Bool.{cases_Bool}
use Rattle.std.proofs.lemmas.Bool.Decides.{eqb_tells}
use Rattle.std.proofs.lemmas.List.{length_push}
use Rattle.std.proofs.lemmas.List.Elements.{Contains-push_cases}
use Rattle.std.proofs.lemmas.Map.Keys.{IsDistinct-push, IsDistinct-from_apart}
use Rattle.std.proofs.lemmas.Map.Steps.{length-le_from_distinct_below}
use Rattle.std.proofs.lemmas.Map.Views.{Contains-from_any}
use Rattle.std.proofs.lemmas.Option.{same_Some, slice_get-get_or}
use Rattle.std.specs.Cmp.{nat_eq_equiv}
use Rattle.std.specs.List.{IsDistinct, list_any}
use Rattle.jk_model.specs.declared.class_file.ClassFile.{ClassFile}
use Rattle.jk_model_classes.specs.References.{IsCalledClass}
use Rattle.class_lemmas.proofs.OneText.{one_class}
use Rattle.jk_model_folders.specs.ClassOrder.{ClimbsTo, ComesBefore, HasHeight, IsClassOrder, IsOfFiles}

module _ (files : List ClassFile) where
  -- ---- A class has one height.

  of_files : (n : ℕ) (a b : List ℕ) → ClimbsTo files n a b → IsOfFiles files a
  of_files zero a b h = h.1
  of_files (suc n) a b h = h.1

  fewer : (n k : ℕ) (a b : List ℕ) → k ≤ n → ClimbsTo files n a b → (c : List ℕ) × ClimbsTo files k a c
  fewer n zero a b le h = (a, (refl, of_files n a b h))
  fewer zero (suc k) a b le h = absurd (omega (arith, le))
  fewer (suc n) (suc k) a b le (next, of_a, step, more) =
      let rest = fewer n k next b (omega (arith, le)) more in
      (rest.0, (next, of_a, step, rest.1))

  not_higher : (a : List ℕ) (m n : ℕ) → HasHeight files a m → HasHeight files a n → m < n → ⊥
  not_higher a m n low high less =
      let climb = fewer n (suc m) a high.0.0 (omega (arith, less)) high.0.1 in
      low.1 climb.0 climb.1

  not_before_itself : (i : ℕ) → ComesBefore files i i → ⊥
  not_before_itself i (c, d, at, there, (a, b, m, n, of_a, of_b, high_a, high_b, comes)) =
      let one : c ≡ d = same_Some c d (sym at ∙ there) in
      let name : a ≡ b = one_class d.pool d.this_class a b (subst (λ (x : ClassFile). IsCalledClass x a) one of_a) of_b in
      elim comes [
        | inl less ↦ not_higher b m n (subst (λ (x : List ℕ). HasHeight files x m) name high_a) high_b less
        | inr tie ↦ omega (arith, tie.1)
      ]

  -- ---- Places.

  module _ (order : List ℕ) (is : IsClassOrder files order) where
    apart : (k l d : ℕ) → k < l → l < length order → eqb (get_or order k d) (get_or order l d) ≡ false
    apart k l d less within = elim (eqb_tells (get_or order k d) (get_or order l d)) [
      | inr other ↦ other.0
      | inl same ↦
          let here = slice_get-get_or order k d (omega (arith, less, within)) in
          let there : slice_get order l ≡ Some (get_or order k d) = slice_get-get_or order l d within ∙ ap Some (sym same.1) in
          absurd (not_before_itself (get_or order k d) (is.rising k l (get_or order k d) (get_or order k d) less here there))
    ]

    inside : (j q : ℕ) → j < length files → list_any (eqb q) (order ++ j ∷ []) ≡ true → q < length files
    inside j q below any =
        let there : Contains (order ++ j ∷ []) q = Contains-from_any {eq = eqb} (λ x y e. eqb-true x y e) q (order ++ j ∷ []) any in
        elim (Contains-push_cases order j q there) [
          | inl before ↦ is.places before.0 q (slice_get-get_or order before.0 q before.1 ∙ ap Some before.2)
          | inr same ↦ omega (arith, below, same)
        ]

    pub has_place : (j : ℕ) → j < length files → (k : ℕ) × (slice_get order k ≡ Some j)
    has_place j below = elim (cases_Bool (list_any (eqb j) order)) [
      | inl there ↦
          let place : Contains order j = Contains-from_any {eq = eqb} (λ x y e. eqb-true x y e) j order there in
          (place.0, slice_get-get_or order place.0 j place.1 ∙ ap Some place.2)
      | inr none ↦
          let distinct : IsDistinct eqb (order ++ j ∷ []) = IsDistinct-push nat_eq_equiv order j (IsDistinct-from_apart eqb order apart) none in
          let most = length-le_from_distinct_below (order ++ j ∷ []) (length files) distinct (λ q any. inside j q below any) in
          absurd (omega (arith, most, length_push order j, is.as_many))
    ]
