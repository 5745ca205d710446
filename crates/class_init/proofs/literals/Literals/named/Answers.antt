-- The place of the text says the name.
use Rattle.std.proofs.Common.{◌∙◌, sym, ap}
use Rattle.std.specs.Option.{option_map}
use Rattle.class_init.proofs.LiteralsByPlace.{name_of_literal, named_by_place, unknown_unnamed}
use Rattle.class_init.proofs.literals.Literals.named.Goals as goal

pub returns-in_err-place : goal.returns-in_err-place
returns-in_err-place c =
    rw (← c.self.view_is)
    (c.from_residual.ensures
    ∙ sym (ap (option_map name_of_literal)
    (unknown_unnamed c.self.inside.texts c.self.inside.names.entries c.args.units.now c.self.invariant.within c.in_err-place.ensures)))

pub returns : goal.returns
returns c =
    rw (← c.self.view_is)
    (c.copied.ensures ∙ c.get.ensures.value
    ∙ sym (named_by_place c.self.inside.texts c.self.inside.names.entries c.args.units.now c.in_ok-place.place c.self.invariant.texts_differ
    c.self.invariant.within c.in_ok-place.ensures))
