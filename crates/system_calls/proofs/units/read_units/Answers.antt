-- Each unit is put beside those before it.
use Rattle.std.proofs.Common.{◌≡◌, ℕ, ◌+◌, ◌<◌, ◌≤◌, length, take, drop, subst, arith}
use Rattle.system_calls.proofs.UnitsRead.{has_fewer, one_more_put, unit_behind}
use Rattle.system_calls.proofs.units.read_units.Goals as goal

pub unit_at-requires : goal.unit_at-requires
unit_at-requires g c =
    let low = c.loop-i-test.true in
    let few : c.args.from + c.loop-i.i + 1 ≤ c.args.len = omega (arith, c.requires.within, c.min-count.ensures) in
    has_fewer (g.H.ObjectStore.content c.args.heap.now) c.args.d c.args.text (c.args.from + c.loop-i.i + 1) c.args.len c.requires.units few

pub loop-i-preserved : goal.loop-i-preserved
loop-i-preserved g c = λ units live.
    let low = c.loop-i-test.true in
    let room : c.loop-i.i < length c.loop-i.buffer = omega (arith, c.min-count.ensures, c.loop-i.auto.buffer) in
    one_more_put c.loop-i.buffer (drop c.args.from units) c.loop-i.i c.unit_at.result room
    (unit_behind units c.args.from c.loop-i.i c.unit_at.result (c.unit_at.ensures units live)) (c.loop-i.invariant units live)

pub returns-clause-read : goal.returns-clause-read
returns-clause-read g c = λ units live.
    let end : c.loop-i.i ≡ c.min-count.result = omega (arith, c.loop-i-test.false, c.loop-i.auto.i-end) in
    subst (λ (n : ℕ). take n c.loop-i.buffer ≡ take n (drop c.args.from units)) end (c.loop-i.invariant units live)
