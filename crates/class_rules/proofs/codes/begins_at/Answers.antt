-- An instruction begins where the table has a true.
use Rattle.class_rules.specs.Codes.{ArePlaces}
use Rattle.class_rules.proofs.PlacesMarked.{same_place}
use Rattle.class_rules.proofs.codes.begins_at.Goals as goal

pub returns : goal.returns
returns c =
    let all : ArePlaces c.args.code.now c.args.places.now = c.requires in
    same_place c.is_marked.result c.args.code.now c.args.places.now c.args.place c.from.result all c.from.ensures c.is_marked.ensures
