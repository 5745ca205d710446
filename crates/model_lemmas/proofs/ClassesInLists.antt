-- A class stands in a list of classes, or it doesn't.
use Rattle.std.proofs.Common.{◌⊎◌, inl, inr, List, [], ◌∷◌, Contains, ap, subst}
use Rattle.std.proofs.lemmas.Bool.{cases_eq}
use Rattle.list_lemmas.proofs.ItemsOfLists.{Contains-cases, Contains-here, Contains-none, Contains-there}
use Rattle.jk_model.specs.declared.identifiers.ClassId.{ClassId}
use Rattle.model_lemmas.proofs.SameNumbers.{same_class}

pub in_or_not : (xs : List ClassId) (c : ClassId) → Contains xs c ⊎ (Contains xs c → ⊥)
in_or_not [] c = inr (Contains-none c)
in_or_not (d ∷ xs) c = elim (cases_eq d.0 c.0) [
  | inl e ↦ inl (subst (Contains (d ∷ xs)) (same_class d c e) (Contains-here d xs))
  | inr n ↦ elim (in_or_not xs c) [
    | inl later ↦ inl (Contains-there c d xs later)
    | inr never ↦ inr (λ h. elim (Contains-cases c d xs h) [
      | inl same ↦ n (ap (λ (x : ClassId). x.0) same)
      | inr later ↦ never later
    ])
  ]
]
