-- Each place stands once in the order of a folder's classes, and each class behind its parent and its interfaces.
use Rattle.std.proofs.Common.{◌≡◌, ℕ, zero, suc, ◌<◌, ◌≤◌, ◌⊎◌, Bool, true, false, eqb, List, [], ◌∷◌, ◌++◌, length, Contains, get_or, Some, slice_get, inl, inr, refl, sym, ap, subst, ◌∙◌, arith}
use Rattle.std.specs.List.{IsDistinct, list_any}
use Rattle.std.proofs.lemmas.Bool.{cases_lt, eqb-true}
use Rattle.std.proofs.lemmas.Bool.Decides.{eqb_tells}
use Rattle.std.proofs.lemmas.List.{length_push}
use Rattle.std.proofs.lemmas.List.Elements.{Contains-push_cases}
use Rattle.std.proofs.lemmas.Map.Keys.{IsDistinct-from_apart, IsDistinct-push}
use Rattle.std.proofs.lemmas.Map.Steps.{length-le_from_distinct_below}
use Rattle.std.proofs.lemmas.Map.Views.{Contains-from_any}
use Rattle.std.proofs.lemmas.Option.{same_Some, slice_get-get_or}
use Rattle.std.proofs.Math.Nat.{eq-or-lt_of_le}
use Rattle.std.specs.Cmp.{nat_eq_equiv}
use Rattle.jk_model.specs.declared.class_file.ClassFile.{ClassFile}
use Rattle.jk_model.specs.declared.identifiers.ClassId.{ClassId}
use Rattle.jk_model_classes.specs.References.{HasParentNamed, IsCalledClass, ListsNamed, StandsOver, StepsUp}
use Rattle.jk_model_classes.specs.References.StandsOver.{next}
use Rattle.jk_model_classes.specs.Worlds.{NamedClass, class_named}
use Rattle.jk_model_folders.specs.ClassOrder.{ClimbsTo, ComesBefore, HasHeight, IsClassOrder}
use Rattle.class_lemmas.proofs.OneText.{one_class}
use Rattle.folder_loader.specs.ClassesInOrder.{StandInOrder}
use Rattle.folder_loader.specs.FolderTables.{IsFolderTable}

module _ (cs : List ClassFile) where
  -- ---- Heights.

  shorter : (m n : ℕ) (a b : List ℕ) → m ≤ n → ClimbsTo cs n a b → (c : List ℕ) × ClimbsTo cs m a c
  shorter zero zero a b most h = (b, h)
  shorter zero (suc n) a b most h = (a, (refl, h.1))
  shorter (suc m) zero a b most h = absurd (omega (arith, most))
  shorter (suc m) (suc n) a b most h =
      let rest = shorter m n h.0 b (omega (arith, most)) h.3 in
      (rest.0, (h.0, h.1, h.2, rest.1))

  one_height : (a : List ℕ) (m n : ℕ) → HasHeight cs a m → HasHeight cs a n → m ≡ n
  one_height a m n of_m of_n =
      elim (cases_lt m n) [
        | inl less ↦ let up = shorter (suc m) n a of_n.0.0 (omega (arith, less)) of_n.0.1 in absurd (of_m.1 up.0 up.1)
        | inr most ↦ elim (eq-or-lt_of_le most) [
          | inl same ↦ sym same
          | inr more ↦ let up = shorter (suc n) m a of_m.0.0 (omega (arith, more)) of_m.0.1 in absurd (of_n.1 up.0 up.1)
        ]
      ]

  -- what stands above a class is lower
  lower : (a b : List ℕ) (m n : ℕ) → StepsUp cs a b → HasHeight cs a m → HasHeight cs b n → n < m
  lower a b m n up of_a of_b =
      elim (cases_lt n m) [
        | inl less ↦ less
        | inr most ↦
            let rest = shorter m n b of_b.0.0 most of_b.0.1 in
            absurd (of_a.1 rest.0 (b, (up.0, up.1, up.2, up.3.0), up, rest.1))
      ]

  before_itself : (i : ℕ) → ComesBefore cs i i → ⊥
  before_itself i h =
      let e = h.4 in
      let same : h.1 ≡ h.0 = same_Some h.1 h.0 (sym h.3 ∙ h.2) in
      let called : IsCalledClass h.0 e.1 = subst (λ (c : ClassFile). IsCalledClass c e.1) same e.5 in
      let names : e.1 ≡ e.0 = one_class h.0.pool h.0.this_class e.1 e.0 called e.4 in
      let high : HasHeight cs e.0 e.3 = subst (λ (x : List ℕ). HasHeight cs x e.3) names e.7 in
      let heights : e.2 ≡ e.3 = one_height e.0 e.2 e.3 e.6 high in
      elim e.8 [ inl less ↦ omega (arith, less, heights) | inr last ↦ omega (arith, last.1) ]

  -- a class that comes before another doesn't extend or list it
  above_later : (i j : ℕ) (c d : ClassFile) (a b : List ℕ) → ComesBefore cs i j → slice_get cs i ≡ Some c → slice_get cs j ≡ Some d → IsCalledClass c a
      → IsCalledClass d b → StepsUp cs a b → ⊥
  above_later i j c d a b h of_i of_j called_a called_b up =
      let e = h.4 in
      let same_c : h.0 ≡ c = same_Some h.0 c (sym h.2 ∙ of_i) in
      let same_d : h.1 ≡ d = same_Some h.1 d (sym h.3 ∙ of_j) in
      let names_a : e.0 ≡ a = one_class c.pool c.this_class e.0 a (subst (λ (x : ClassFile). IsCalledClass x e.0) same_c e.4) called_a in
      let names_b : e.1 ≡ b = one_class d.pool d.this_class e.1 b (subst (λ (x : ClassFile). IsCalledClass x e.1) same_d e.5) called_b in
      let high_a : HasHeight cs a e.2 = subst (λ (x : List ℕ). HasHeight cs x e.2) names_a e.6 in
      let high_b : HasHeight cs b e.3 = subst (λ (x : List ℕ). HasHeight cs x e.3) names_b e.7 in
      let less = lower a b e.2 e.3 up high_a high_b in
      elim e.8 [ inl more ↦ omega (arith, less, more) | inr last ↦ omega (arith, less, last.0) ]

  module _ (order : List ℕ) (is : IsClassOrder cs order) where
    -- ---- Places.

    pub place_once : (k l i : ℕ) → slice_get order k ≡ Some i → slice_get order l ≡ Some i → k ≡ l
    place_once k l i at_k at_l =
        elim (cases_lt k l) [
          | inl less ↦ absurd (before_itself i (is.rising k l i i less at_k at_l))
          | inr most ↦ elim (eq-or-lt_of_le most) [
            | inl same ↦ sym same
            | inr more ↦ absurd (before_itself i (is.rising l k i i more at_l at_k))
          ]
        ]

    apart : (k l d : ℕ) → k < l → l < length order → eqb (get_or order k d) (get_or order l d) ≡ false
    apart k l d less within =
        elim (eqb_tells (get_or order k d) (get_or order l d)) [
          | inl same ↦
              let at_k : slice_get order k ≡ Some (get_or order k d) = slice_get-get_or order k d (omega (arith, less, within)) in
              let at_l : slice_get order l ≡ Some (get_or order k d) = slice_get-get_or order l d within ∙ ap Some (sym same.1) in
              let one = place_once k l (get_or order k d) at_k at_l in
              absurd (omega (arith, less, one))
          | inr other ↦ other.0
        ]

    inside : (j q : ℕ) → j < length cs → list_any (eqb q) (order ++ j ∷ []) ≡ true → q < length cs
    inside j q below any =
        let there : Contains (order ++ j ∷ []) q = Contains-from_any {eq = eqb} (λ x y e. eqb-true x y e) q (order ++ j ∷ []) any in
        elim (Contains-push_cases order j q there) [
          | inl before ↦ is.places before.0 q (slice_get-get_or order before.0 q before.1 ∙ ap Some before.2)
          | inr same ↦ omega (arith, below, same)
        ]

    pub has_place : (j : ℕ) → j < length cs → (k : ℕ) × (slice_get order k ≡ Some j)
    has_place j below = from_any (list_any (eqb j) order) refl
      where
        from_any : (b : Bool) → b ≡ list_any (eqb j) order → (k : ℕ) × (slice_get order k ≡ Some j)
        from_any true e =
            let there : Contains order j = Contains-from_any {eq = eqb} (λ x y e. eqb-true x y e) j order (sym e) in
            (there.0, slice_get-get_or order there.0 j there.1 ∙ ap Some there.2)
        from_any false e =
            let once : IsDistinct eqb order = IsDistinct-from_apart eqb order apart in
            let both : IsDistinct eqb (order ++ j ∷ []) = IsDistinct-push nat_eq_equiv order j once (sym e) in
            let most : length (order ++ j ∷ []) ≤ length cs = length-le_from_distinct_below (order ++ j ∷ []) (length cs) both
            (λ q any. inside j q below any) in
            absurd (omega (arith, most, length_push order j, is.as_many))

    -- ---- Numbers.

    -- what a class extends or lists stands earlier
    stands_behind : ((name : List ℕ) → StandsOver cs name name → ⊥) → (k l i j : ℕ) (c d : ClassFile) (a b : List ℕ) → slice_get order k ≡ Some i
        → slice_get cs i ≡ Some c → IsCalledClass c a → slice_get order l ≡ Some j → slice_get cs j ≡ Some d → IsCalledClass d b
        → HasParentNamed c b ⊎ ListsNamed c b → l < k
    stands_behind no_ring k l i j c d a b at_k of_c called_a at_l of_d called_b above =
        let up : StepsUp cs a b = (i, c, of_c, (called_a, above)) in
        elim (cases_lt l k) [
          | inl less ↦ less
          | inr most ↦ elim (eq-or-lt_of_le most) [
            | inl same ↦
                let place : i ≡ j = same_Some i j (sym at_k ∙ ap (λ (n : ℕ). slice_get order n) same ∙ at_l) in
                let file : d ≡ c = same_Some d c (sym of_d ∙ ap (λ (n : ℕ). slice_get cs n) (sym place) ∙ of_c) in
                let called : IsCalledClass c b = subst (λ (x : ClassFile). IsCalledClass x b) file called_b in
                let names : b ≡ a = one_class c.pool c.this_class b a called called_a in
                absurd (no_ring a (next a a (subst (λ (x : List ℕ). StepsUp cs a x) names up)))
            | inr more ↦ absurd (above_later i j c d a b (is.rising k l i j more at_k at_l) of_c of_d called_a called_b up)
          ]
        ]

    pub in_order : (first : ℕ) (names table : List NamedClass) → ((name : List ℕ) → StandsOver cs name name → ⊥)
        → ((name : List ℕ) (class : ClassId) → class_named names name ≡ Some class → class.0 < first) → IsFolderTable cs order first names table
        → StandInOrder cs order first table
    in_order first names table no_ring loaded means k i c at_k of_c own name class called above named =
        elim ((means name class).0 named) [
          | inl outer ↦ omega (arith, loaded name class outer)
          | inr its ↦
              let earlier = stands_behind no_ring k its.0 i its.1 c its.2 own name at_k of_c called its.4 its.5 its.6 above in
              omega (arith, earlier, its.7)
        ]
