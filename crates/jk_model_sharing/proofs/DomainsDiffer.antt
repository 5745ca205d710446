-- The domains of the examples differ.
use Rattle.std.proofs.Common.{◌≡◌, ◌≢◌, ap, arith}
use Rattle.jk_model.specs.declared.identifiers.DomainId.{DomainId}
use Rattle.jk_model_sharing.specs.Examples.{ann, bob}

pub bob_is_not_ann : bob ≢ ann
bob_is_not_ann e = let same : 1 ≡ 0 = ap (λ (d : DomainId). d.0) e in absurd (omega (arith, same))
