use Rattle.std.proofs.Common.{flat_map, take}
use Rattle.jk_model.specs.Descriptors.{field_text}
use Rattle.shared_values.specs.Feeding.{Feeds}
use Rattle.shared_values.proofs.hashed_kinds.feed_fields.Given as goal

abbrev pub invariant-loop-t : goal.invariant-loop-t
invariant-loop-t l = Feeds l.initial.hasher l.hasher (flat_map field_text (take l.t-index l.types))
