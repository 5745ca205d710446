-- The name is free, and the new domain's names and offers are those that were answered.
use Rattle.std.proofs.Common.{ℕ, List, refl, subst}
use Rattle.jk_model.specs.declared.identifiers.DomainId.{DomainId}
use Rattle.jk_model_classes.specs.Worlds.{IsLiveNamed}
use Rattle.load_check.proofs.WorldsAfterLoads.{may_load_opened}
use Rattle.load_check.proofs.worlds.open.Goals as goal

pub add_domain-requires-clause-free : goal.add_domain-requires-clause-free
add_domain-requires-clause-free g c =
    subst (λ (name : List ℕ). (d : DomainId) → IsLiveNamed c.answer.new.world name d → ⊥) c.as_slice.ensures c.expect_free.ensures

pub returns : goal.returns
returns g c =
    may_load_opened c.args.world.now c.answer.new.world c.add_domain.new.self _ _ _ c.in-Ok.loaded _ c.requires c.answer.ensures.may c.in-Ok.ensures.ok
    refl refl c.in_ok-id-in-Ok.ensures.ok c.holds.ensures.numbered c.holds.ensures.names_differ c.holds.ensures.few_domains
