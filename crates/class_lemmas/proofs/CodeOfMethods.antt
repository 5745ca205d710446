-- What a method does tells its code: two linked codes are one, and what is absent, or the system's, has none.
use Rattle.std.proofs.Common.{◌≡◌, ℕ}
use Rattle.jk_model_classes.specs.declared.records.Body.TheVariants as Does
use Rattle.jk_model_classes.specs.declared.records.LinkedCode.{LinkedCode}

pub same_code : (a b : LinkedCode) → Does.Linked a ≡ Does.Linked b → a ≡ b
same_code a b e = cc

pub absent_has_none : (code : LinkedCode) → Does.Absent ≡ Does.Linked code → ⊥
absent_has_none code e = cc

pub system_has_none : (n : ℕ) (code : LinkedCode) → Does.System n ≡ Does.Linked code → ⊥
system_has_none n code e = cc
