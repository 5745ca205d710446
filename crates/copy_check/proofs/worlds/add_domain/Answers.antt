-- The name is free.
use Rattle.std.proofs.Common.{ℕ, List, sym, subst}
use Rattle.jk_model_classes.specs.Worlds.{IsLiveNamed}
use Rattle.copy_check.proofs.worlds.add_domain.Goals as goal

pub add_domain-requires-clause-free : goal.add_domain-requires-clause-free
add_domain-requires-clause-free g c = λ d named.
    c.in-None.ensures d (subst (λ (n : List ℕ). IsLiveNamed c.args.w.now n d) (sym c.as_slice.ensures) named)
