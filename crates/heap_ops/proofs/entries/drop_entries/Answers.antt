-- The store takes off what is there.
use Rattle.heap_ops.proofs.EntriesTakenOff.{has_as_many}
use Rattle.heap_ops.proofs.entries.drop_entries.Goals as goal

pub drop_entries-requires : goal.drop_entries-requires
drop_entries-requires g c = has_as_many (g.F.SegmentFrames.content c.args.frames.now) c.args.s c.args.count c.requires

pub returns : goal.returns
returns g c = λ f below taken top stack many. c.drop_entries.ensures f top below taken stack many
