-- Each local is looked at.
use Rattle.type_frames.proofs.RaisedByPlaces.{outside-none}
use Rattle.loaded_class_check.proofs.type_frames_tests.raise_whole.Goals as goal

pub raise-requires-clause-outside : goal.raise-requires-clause-outside
raise-requires-clause-outside c = outside-none c.args.t.now c.args.from.locals.now c.args.into.now.locals
