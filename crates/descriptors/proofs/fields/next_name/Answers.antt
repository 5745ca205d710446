-- The name stops where the walk does.
use Rattle.descriptors.proofs.OneTypeOrPlace.{name_stop}
use Rattle.descriptors.proofs.fields.next_name.Goals as goal

pub returns-in-Err : goal.returns-in-Err
returns-in-Err c = name_stop c.args.units.now c.in-Err.n c.args.whole c.place_before.result.0 c.in-Err.ensures c.requires.within c.place_before.ensures
