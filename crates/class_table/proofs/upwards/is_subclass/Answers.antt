-- Where no class above has a higher number than the sought one, it is that class or none.
use Rattle.class_table.specs.Entries.{records}
use Rattle.class_table.proofs.StepsUp.{subclass-at_end}
use Rattle.class_table.proofs.upwards.is_subclass.Goals as goal

pub returns : goal.returns
returns c =
    subclass-at_end (records c.args.entries.now) c.requires.ordered c.args.a c.loop-at.at c.args.b c.eq.result c.eq.ensures c.loop-at-test.false
    c.loop-at.invariant
