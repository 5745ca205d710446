-- The last domain goes, and its name is found no more.
use Rattle.std.proofs.Common.{◌≡◌, ◌++◌, ◌∷◌, []}
use Rattle.domain_resolver.specs.LiveNames.{place_of}
use Rattle.domain_resolver.proofs.LiveDomainsFound.{found_taken_back, last_is_live}
use Rattle.domain_resolver.proofs.world.World.take_back_domain.Goals as goal

pub invariant_of-self : goal.invariant_of-self
invariant_of-self c =
    let ds = c.pop.new.self.items in
    let d = c.in-Some.domain in
    let all : c.self.inside.domains.items ≡ ds ++ d ∷ [] = c.in-Some.ensures.items in
    found_taken_back (place_of c.self.inside.live) (place_of c.take_out.new.names) ds d (rw all at c.self.invariant)
    (last_is_live ds d (rw (← c.self.view_is, all) at c.requires)) (rw (c.as_slice.ensures, c.name.ensures) at c.take_out.ensures)
