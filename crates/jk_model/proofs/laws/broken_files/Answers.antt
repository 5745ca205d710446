use Rattle.std.proofs.Common.{◌≡◌, ℕ, List, [], refl, ap, inl, inr, get_or, arith}
use Rattle.jk_model.specs.ClassFile.{IsVersion}
use Rattle.jk_model.specs.Examples.{smallest}
use Rattle.jk_model.proofs.SmallestClass.{smallest_is_class}
use Rattle.jk_model.proofs.laws.broken_files.Goals as goal

pub returns-clause-magic : goal.returns-clause-magic
returns-clause-magic c = (
  (omega arith, λ e. let same : 0xbf ≡ 0xbe = ap (λ (bytes : List ℕ). get_or bytes 3 0) e in absurd (omega (arith, same))),
  refl,
)

no_version : IsVersion 50 3 → ⊥
no_version (_, inl h) = absurd (omega (arith, h))
no_version (_, inr h) = absurd (omega (arith, h.1))

pub returns-clause-version : goal.returns-clause-version
returns-clause-version c =
    ((50, 3, [], record { numbers = (omega arith, omega arith); sections = refl }, no_version), refl)

pub returns-clause-trailing : goal.returns-clause-trailing
returns-clause-trailing c = (smallest, omega arith, smallest_is_class)
