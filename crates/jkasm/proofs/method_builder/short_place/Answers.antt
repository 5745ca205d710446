-- What is known of a label, no more than two bytes of it.
use Rattle.std.proofs.Common.{Some, sym, subst}
use Rattle.jkasm.specs.HandlerPlaces.{IsPlaceOf}
use Rattle.jkasm.proofs.PlacesOfHandlers.{has_place}
use Rattle.jkasm.proofs.method_builder.short_place.Goals as goal

pub returns : goal.returns
returns c = λ codes labels.
    subst (λ place. IsPlaceOf codes c.args.label.now (Some place)) (sym c.min.ensures)
    (has_place codes c.args.label.now c.in_ok-place.place (c.in_ok-place.ensures codes labels))
