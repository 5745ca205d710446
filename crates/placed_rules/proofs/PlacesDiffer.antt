-- The order of a folder's classes has each file once.
use Rattle.std.proofs.Common.{◌≡◌, ℕ, List, Some, slice_get, inl, inr, sym, subst, ◌∙◌, arith}
use Rattle.std.proofs.lemmas.Bool.{cases_lt}
use Rattle.std.proofs.lemmas.Option.{same_Some}
use Rattle.jk_model.specs.declared.class_file.ClassFile.{ClassFile}
use Rattle.jk_model.specs.declared.class_file.PoolEntry.TheVariants.{Class}
use Rattle.jk_model_classes.specs.Members.{TextAt}
use Rattle.jk_model_classes.specs.References.{IsCalledClass}
use Rattle.jk_model_folders.specs.ClassOrder.{ComesBefore, IsClassOrder}
use Rattle.class_lemmas.proofs.OneText.{one_text}
use Rattle.one_verdict.proofs.OneOrder.{never_both}

-- one class has one name
pub one_name : (c : ClassFile) (a b : List ℕ) → IsCalledClass c a → IsCalledClass c b → a ≡ b
one_name c a b (n, at, text) (m, there, other) =
    let both : Class m ≡ Class n = same_Some (Class m) (Class n) (sym there ∙ at) in
    let same : m ≡ n = cc in
    one_text c.pool n a b text (subst (λ (k : ℕ). TextAt c.pool k b) same other)

module _ (files : List ClassFile) where
  not_before_itself : (i : ℕ) → ComesBefore files i i → ⊥
  not_before_itself i h = never_both files i i h h

  pub places_differ : (order : List ℕ) → IsClassOrder files order → (k l i : ℕ) → slice_get order k ≡ Some i → slice_get order l ≡ Some i → k ≡ l
  places_differ order h k l i at there =
      elim (cases_lt k l) [
        | inl less ↦ absurd (not_before_itself i (h.rising k l i i less at there))
        | inr more ↦ elim (cases_lt l k) [
          | inl less ↦ absurd (not_before_itself i (h.rising l k i i less there at))
          | inr fewer ↦ omega (arith, more, fewer)
        ]
      ]
