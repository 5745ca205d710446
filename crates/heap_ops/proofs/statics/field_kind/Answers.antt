-- There is such a field.
use Rattle.heap_ops.proofs.statics.field_kind.Goals as goal

pub unreachable-requires : goal.unreachable-requires
unreachable-requires c = c.in-None.ensures.none c.requires.0 c.requires.1
