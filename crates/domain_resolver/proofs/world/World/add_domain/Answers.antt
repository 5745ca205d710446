-- The new domain is found by its name, and every other as before.
use Rattle.std.proofs.Common.{◌≡◌, refl, length, arith}
use Rattle.jk_model_classes.specs.Worlds.{WorldRecord}
use Rattle.domain_resolver.specs.LiveNames.{place_of}
use Rattle.domain_resolver.proofs.LiveDomainsFound.{found_alike, found_added, free_places}
use Rattle.domain_resolver.proofs.world.World.add_domain.Goals as goal

pub invariant_of-self-in_err-put : goal.invariant_of-self-in_err-put
invariant_of-self-in_err-put c =
    rw c.in_ok-reserve.ensures.items
    (found_alike (place_of c.self.inside.live) (place_of c.put.new.names) c.self.inside.domains.items c.self.invariant c.in_err-put.ensures.err)

pub invariant_of-self-2 : goal.invariant_of-self-2
invariant_of-self-2 c =
    let ds = c.self.inside.domains.items in
    let w : WorldRecord = record { classes = c.self.inside.classes; domains = ds } in
    let number : c.len-place.result ≡ length ds = omega (arith, c.len-place.ensures, c.self.inside.domains.ok.0) in
    rw (c.push_reserved.ensures.items, c.in_ok-reserve.ensures.items, c.new-domain.ensures)
    (found_added (place_of c.self.inside.live) (place_of c.put.new.names) ds _ c.self.invariant number refl (rw (← c.self.view_is) at c.requires.few)
    (free_places w c.args.name (rw (← c.self.view_is) at c.requires.free)) (rw (c.as_slice.ensures, number) at c.in_ok-put.ensures.ok))
