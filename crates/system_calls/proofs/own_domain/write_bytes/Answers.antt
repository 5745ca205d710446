-- Each byte is put beside those before it.
use Rattle.std.proofs.Common.{◌≡◌, ℕ, ◌<◌, ℤ, pos, length, get_or, w32, to_z, of_z, ap, ◌∙◌, arith}
use Rattle.std.proofs.lemmas.Int.{to_z_pos}
use Rattle.jk_model.specs.declared.values.Value.TheVariants as Held
use Rattle.heap_loops.proofs.UnitsSoFar.{ends_early}
use Rattle.system_calls.proofs.BytesWritten.{all_written, next_written, none_written, takes_next}
use Rattle.system_calls.proofs.own_domain.write_bytes.Goals as goal

pub loop-i-init : goal.loop-i-init
loop-i-init g c =
    none_written (g.H.ObjectStore.content c.args.heap.now) c.args.d c.args.a c.args.bytes.now (g.met.H.ObjectStore.holds c.args.heap.now)

pub overflow_cast-i : goal.overflow_cast-i
overflow_cast-i g c =
    let end = ends_early (g.H.ObjectStore.content c.args.heap.now) c.args.d c.args.a (length c.args.bytes.now)
    (g.met.H.ObjectStore.holds c.args.heap.now) c.requires in
    let within = c.loop-i-test.true in
    omega arith

as_unit : (z : ℤ) (u : ℕ) → z ≡ pos u → u < 65536 → Held.Int (to_z w32 (of_z w32 z)) ≡ Held.Int (pos u)
as_unit z u is small = ap (λ (x : ℤ). Held.Int (to_z w32 (of_z w32 x))) is ∙ ap Held.Int (to_z_pos w32 u (omega arith))

pub write-requires : goal.write-requires
write-requires g c =
    let u = get_or c.args.bytes.now c.loop-i.i 0 in
    let low : u < 256 = (c.type_inv.bytes c.loop-i.i).fits in
    let small : u < 65536 = omega (arith, low) in
    takes_next (g.H.ObjectStore.content c.args.heap.now) (g.H.ObjectStore.content c.loop-i.heap) c.args.d c.args.a c.args.bytes.now c.loop-i.i
    c.requires c.loop-i-test.true (Held.Int (to_z w32 (of_z w32 c.from.result))) (as_unit c.from.result u c.from.ensures small) small
    c.loop-i.invariant c.args.t.now

pub loop-i-preserved : goal.loop-i-preserved
loop-i-preserved g c =
    let u = get_or c.args.bytes.now c.loop-i.i 0 in
    let low : u < 256 = (c.type_inv.bytes c.loop-i.i).fits in
    let small : u < 65536 = omega (arith, low) in
    next_written (g.H.ObjectStore.content c.args.heap.now) (g.H.ObjectStore.content c.loop-i.heap) c.args.d c.args.a c.args.bytes.now c.loop-i.i
    c.requires c.loop-i-test.true (Held.Int (to_z w32 (of_z w32 c.from.result))) (as_unit c.from.result u c.from.ensures small) small
    c.loop-i.invariant (g.H.ObjectStore.content c.write.new.self) c.write.ensures

pub returns : goal.returns
returns g c =
    let end : c.loop-i.i ≡ length c.args.bytes.now = omega (arith, c.loop-i-test.false, c.loop-i.auto.i-end) in
    all_written (g.H.ObjectStore.content c.args.heap.now) (g.H.ObjectStore.content c.loop-i.heap) c.args.d c.args.a c.args.bytes.now
    c.loop-i.i end c.loop-i.invariant
