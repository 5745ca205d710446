-- The map finds the live domain of a name.
use Rattle.std.proofs.Common.{sym, ◌∙◌}
use Rattle.jk_model_classes.specs.Worlds.{WorldRecord}
use Rattle.domain_resolver.specs.LiveNames.{place_of}
use Rattle.domain_resolver.proofs.LiveDomainsFound.{none_live, found_live}
use Rattle.domain_resolver.proofs.world.World.live_named.Goals as goal

pub returns-in_err-place : goal.returns-in_err-place
returns-in_err-place c =
    let w : WorldRecord = record { classes = c.self.inside.classes; domains = c.self.inside.domains.items } in
    rw (c.from_residual.ensures, ← c.self.view_is)
    (none_live (place_of c.self.inside.live) w c.self.invariant c.args.name.now (sym c.find.ensures ∙ c.in_err-place.was))

pub returns : goal.returns
returns c =
    let w : WorldRecord = record { classes = c.self.inside.classes; domains = c.self.inside.domains.items } in
    rw (← c.self.view_is)
    (found_live (place_of c.self.inside.live) w c.self.invariant c.args.name.now c.in_ok-place.place (sym c.find.ensures ∙ c.in_ok-place.was))
