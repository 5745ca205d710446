-- One live domain has a name.
use Rattle.domain_resolver.specs.LiveNames.{place_of}
use Rattle.domain_resolver.proofs.LiveDomainsFound.{one_live}
use Rattle.domain_resolver.proofs.world.World.holds.Goals as goal

pub returns-clause-names_differ : goal.returns-clause-names_differ
returns-clause-names_differ c =
    rw (← c.self.view_is)
    (one_live (place_of c.self.inside.live) (record { classes = c.self.inside.classes; domains = c.self.inside.domains.items }) c.self.invariant)
