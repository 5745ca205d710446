-- The first name with the text is the one that is bound.
use Rattle.thread_segments.proofs.NamesByPlace.{place_told}
use Rattle.thread_segments.proofs.names.place_of_text.Goals as goal

pub returns : goal.returns
returns c = place_told c.args.entries.now c.args.text.now _ c.first_of_text.ensures
