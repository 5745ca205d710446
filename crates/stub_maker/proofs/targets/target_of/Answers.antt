-- What is selected for one of the stub's methods is its target where it is no method of the system.
use Rattle.std.proofs.Common.{◌≡◌, false, true, Some, inl, inr, refl}
use Rattle.stub_maker.proofs.targets.target_of.Goals as goal

pub returns-else-is_system_method : goal.returns-else-is_system_method
returns-else-is_system_method c =
    inl (
      c.shows.ensures.0 c.if-not-shows.false,
      (
        Some c.in_ok-selected.selected,
        rw c.in_ok-selected.was at c.select.ensures,
        inr (λ system. let both : false ≡ true = rw c.if-is_system_method.false at (c.is_system_method.ensures.1 system) in cc, refl),
      ),
    )
