-- No base begins with another unit, or with none.
use Rattle.descriptors.specs.PartTexts.{IsBaseText}
use Rattle.descriptors.proofs.OneTypeOrPlace.{stops_here, no_letter, no_unit}
use Rattle.descriptors.proofs.fields.next_letter.Goals as goal

pub returns-in-empty : goal.returns-in-empty
returns-in-empty c =
    stops_here IsBaseText c.args.units.now c.args.whole c.place_before.result.0 c.requires.within c.place_before.ensures
    (no_unit c.args.units.now c.in-empty.len_below)

pub returns-in-None : goal.returns-in-None
returns-in-None c =
    stops_here IsBaseText c.args.units.now c.args.whole c.place_before-in-None.result.0 c.requires.within c.place_before-in-None.ensures
    (no_letter c.args.units.now c.in-len1-up.len_at_least c.requires.no_class c.in-None.ensures)
