-- The store exchanges what is there.
use Rattle.heap_ops.proofs.EntriesTakenOff.{has_as_many}
use Rattle.heap_ops.proofs.entries.replace.Goals as goal

pub exchange-requires-clause-there : goal.exchange-requires-clause-there
exchange-requires-clause-there g c = has_as_many (g.F.SegmentFrames.content c.args.frames.now) c.args.s c.args.count c.requires.many

pub returns : goal.returns
returns g c = λ f below taken top stack many. c.exchange.ensures f top below taken stack many
