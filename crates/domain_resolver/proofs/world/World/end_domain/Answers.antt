-- The domain that ends is found no more, and every other as before.
use Rattle.domain_resolver.specs.LiveNames.{place_of}
use Rattle.domain_resolver.proofs.LiveDomainsFound.{found_ended}
use Rattle.domain_resolver.proofs.world.World.end_domain.Goals as goal

pub invariant_of-self : goal.invariant_of-self
invariant_of-self c =
    let s = c.end_at.ensures.domains in
    rw s.2
    (found_ended (place_of c.self.inside.live) (place_of c.end_at.new.live) c.self.inside.domains.items _ s.0 c.self.invariant s.1
    (c.end_at.ensures.live s.0 s.1))
