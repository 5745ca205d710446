-- One object, or two under different names, stand under names that differ.
use Rattle.std.proofs.Common.{◌≡◌, ℕ, zero, suc, List, [], ◌∷◌, Some, slice_get, refl, sym, ap, ◌∙◌}
use Rattle.std.proofs.lemmas.Option.{same_Some}
use Rattle.jk_model_domains.specs.Objects.{NamedObject}

abbrev pub Differ : List NamedObject → Type 0
Differ made = (i j : ℕ) (a b : NamedObject) → slice_get made i ≡ Some a → slice_get made j ≡ Some b → a.name ≡ b.name → i ≡ j

same_name : (u v : NamedObject) → Some u ≡ Some v → u.name ≡ v.name
same_name u v is = ap (λ (w : NamedObject). w.name) (same_Some u v is)

pub one_differs : (x : NamedObject) → Differ (x ∷ [])
one_differs x zero zero a b is_a is_b e = refl
one_differs x zero (suc j) a b is_a is_b e = absurd cc
one_differs x (suc i) j a b is_a is_b e = absurd cc

pub two_differ : (x y : NamedObject) → (x.name ≡ y.name → ⊥) → Differ (x ∷ y ∷ [])
two_differ x y ne zero zero a b is_a is_b e = refl
two_differ x y ne zero (suc zero) a b is_a is_b e = absurd (ne (same_name x a is_a ∙ e ∙ sym (same_name y b is_b)))
two_differ x y ne zero (suc (suc j)) a b is_a is_b e = absurd cc
two_differ x y ne (suc zero) zero a b is_a is_b e = absurd (ne (same_name x b is_b ∙ sym e ∙ sym (same_name y a is_a)))
two_differ x y ne (suc zero) (suc zero) a b is_a is_b e = refl
two_differ x y ne (suc zero) (suc (suc j)) a b is_a is_b e = absurd cc
two_differ x y ne (suc (suc i)) j a b is_a is_b e = absurd cc
