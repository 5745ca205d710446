use Rattle.std.proofs.Common.{◌-◌}
use Rattle.byte_fields.specs.Reading.{many_at}
use Rattle.byte_fields.proofs.OneAfterAnother.{GoesOn}
use Rattle.byte_fields.proofs.lists.many_of.Given as goal

abbrev pub invariant-loop : goal.invariant-loop
invariant-loop g l = GoesOn g.F.Field.read_at l.values (l.count - l.counter) l.rest (many_at g.F.Field.read_at l.count l.bytes)
