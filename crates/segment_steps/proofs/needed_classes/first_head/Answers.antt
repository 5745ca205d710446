-- The method has code.
use Rattle.segment_steps.proofs.needed_classes.first_head.Goals as goal

pub unreachable-requires : goal.unreachable-requires
unreachable-requires c = c.in-None.ensures.none c.requires.0 c.requires.1
