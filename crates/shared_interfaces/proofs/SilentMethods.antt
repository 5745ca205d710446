-- The first silent method of a class is the least at which it has one.
use Rattle.std.proofs.Common.{◌≡◌, ℕ, ◌+◌, ◌<◌, ◌≤◌, inl, inr, List, length, Some, None, sym, ◌∙◌, ap, subst, slice_get, arith}
use Rattle.std.proofs.lemmas.Bool.{cases_lt}
use Rattle.std.proofs.lemmas.Option.{same_Some, slice_get_within}
use Rattle.jk_model.specs.declared.identifiers.ClassId.{ClassId}
use Rattle.jk_model_classes.specs.declared.records.MethodRecord.{MethodRecord}
use Rattle.shared_interfaces.specs.Earliest.{IsLeast}
use Rattle.shared_interfaces.specs.Shapes.{IsSilent, IsSilentAt}

module _ (methods : List MethodRecord) (declared : List (List ClassId)) (passed : ℕ) where
  module _ (i : ℕ) (none : (n : ℕ) → n < i → IsSilentAt methods declared passed n → ⊥) where
    module _ (method : MethodRecord) (thrown : List ClassId) (at : slice_get methods i ≡ Some method)
        (declares : slice_get declared (passed + i) ≡ Some thrown)
      where
        pub none_silent_here : (IsSilent method thrown → ⊥) → (n : ℕ) → n < i + 1 → IsSilentAt methods declared passed n → ⊥
        none_silent_here not_so n below (other, throws, at_n, declares_n, silent) =
            elim (cases_lt n i) [
              | inl less ↦ none n less (other, throws, at_n, declares_n, silent)
              | inr least ↦
                  let here : n ≡ i = omega arith in
                  let same : other ≡ method = same_Some other method (sym at_n ∙ ap (slice_get methods) here ∙ at) in
                  let same_too : throws ≡ thrown = same_Some throws thrown (sym declares_n ∙ ap (λ (k : ℕ). slice_get declared (passed + k)) here ∙ declares) in
                  not_so (subst (λ (m : MethodRecord). IsSilent m thrown) same (subst (IsSilent other) same_too silent))
            ]

        pub silent_here : IsSilent method thrown → IsLeast (IsSilentAt methods declared passed) (Some i)
        silent_here so = ((method, thrown, at, declares, so), none)

    pub none_silent : length methods ≤ i → IsLeast (IsSilentAt methods declared passed) None
    none_silent all n (method, thrown, at, declares, so) =
        none n (omega (arith, slice_get_within methods n method at)) (method, thrown, at, declares, so)

  pub silent_within : (i : ℕ) → IsLeast (IsSilentAt methods declared passed) (Some i) → i < length methods
  silent_within i ((method, thrown, at, declares, so), none) = slice_get_within methods i method at
