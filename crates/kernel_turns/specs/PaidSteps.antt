-- Several steps that a domain pays.
use Rattle.std.specs.Prelude.{◌≡◌, ℕ, zero, suc, ◌≤◌, true, Some}
use Rattle.jk_model.specs.declared.identifiers.DomainId.{DomainId}
use Rattle.jk_model_sharing.specs.SharedStates.{SharedDomain, SharedState, domain_numbered, spent}

-- one after another
abbrev pub spent_times : ℕ → DomainId → SharedState → SharedState
spent_times zero d s = s
spent_times (suc n) d s = spent_times n d (spent d s)

-- a live domain that has so many steps left
pub record HasSteps (n : ℕ) (d : DomainId) (s : SharedState) : Type 0 where
  pub entry : SharedDomain
  pub is_there : domain_numbered s d ≡ Some entry
  pub live : entry.live ≡ true
  pub enough : (left : ℕ) → entry.steps_left ≡ Some left → n ≤ left
