-- The bytes so far are the count and those of the parts so far.
use Rattle.std.proofs.Common.{◌≡◌, ◌++◌, take}
use Rattle.std.specs.List.{flat_map}
use Rattle.class_writer.proofs.lists.append_list.Given as goal

abbrev pub invariant-loop-part : goal.invariant-loop-part
invariant-loop-part g l = l.out ≡ l.initial.out ++ flat_map g.P.Part.part_bytes (take l.part-index l.parts)
