-- A store without domains has few, and the frame that begins is new.
use Rattle.number_check.proofs.FramesBegin.{few_of_none, first_begun}
use Rattle.number_check.proofs.stores.begin.Goals as goal

pub admit-requires-clause-few : goal.admit-requires-clause-few
admit-requires-clause-few g c = few_of_none (g.F.SegmentFrames.content c.args.frames.now) c.requires.domains

pub returns : goal.returns
returns g c =
    first_begun (g.F.SegmentFrames.content c.admit.new.self) (g.F.SegmentFrames.content c.begin.new.self) _ c.args.head _ c.in-Ok-begin.ensures.ok
