-- A store without domains has few, and the domain that was admitted there is there.
use Rattle.thread_check.proofs.NoDomainsYet.{few_of_none}
use Rattle.thread_check.proofs.acts.end_in.Goals as goal

pub admit-requires-clause-few : goal.admit-requires-clause-few
admit-requires-clause-few g c = few_of_none (g.F.SegmentFrames.content c.args.frames.now) c.requires

pub returns : goal.returns
returns g c = c.drop_domain.ensures.dropped.stubs
