-- The first unit at which they differ tells that they differ.
use Rattle.system_calls.proofs.UnitsRead.{one_more_same, unlike}
use Rattle.system_calls.proofs.units.have_same_units.Goals as goal

pub loop-i-preserved : goal.loop-i-preserved
loop-i-preserved g c = λ units others first second.
    one_more_same units others c.loop-i.i c.unit_at.result c.unit_at-in-loop-i.result (c.unit_at.ensures units first)
    (c.unit_at-in-loop-i.ensures others second) c.if-unit_at.false (c.loop-i.invariant units others first second)

pub returns-then-unit_at : goal.returns-then-unit_at
returns-then-unit_at g c = λ units others first second.
    unlike units others c.args.len c.loop-i.i c.unit_at.result c.unit_at-in-loop-i.result c.loop-i-test.true (c.unit_at.ensures units first)
    (c.unit_at-in-loop-i.ensures others second) c.if-unit_at.true
