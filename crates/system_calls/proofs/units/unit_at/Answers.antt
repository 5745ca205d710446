-- What is read at a place of a text is its unit there.
use Rattle.std.proofs.Common.{◌≡◌, ℤ, pos, nat_abs, to_z, of_z, w32, get_or, Some, sym, ap, ◌∙◌}
use Rattle.jk_model.specs.declared.values.Value.TheVariants as Held
use Rattle.system_calls.proofs.UnitsRead.{has_unit, read_is, unit_as_read, unit_is_small, unit_of}
use Rattle.system_calls.proofs.units.unit_at.Goals as goal

pub read-requires : goal.read-requires
read-requires g c =
    has_unit (g.H.ObjectStore.content c.args.heap.now) c.args.d c.args.text c.args.i c.requires c.args.t.now

same_int : (z w : ℤ) → Held.Int z ≡ Held.Int w → z ≡ w
same_int z w is = cc

pub overflow_cast-result : goal.overflow_cast-result
overflow_cast-result g c =
    let u = get_or c.requires.text c.args.i 0 in
    let value = read_is (g.H.ObjectStore.content c.args.heap.now) c.args.d c.args.text c.args.i c.requires c.read.result c.read.ensures in
    let small = unit_is_small (g.H.ObjectStore.content c.args.heap.now) c.args.d c.args.text c.args.i c.requires
    (g.met.H.ObjectStore.holds c.args.heap.now) in
    let is : c.in-Int.unit ≡ pos u = same_int c.in-Int.unit (pos u) (sym c.in-Int.is ∙ value) in
    let round : to_z w32 (of_z w32 c.in-Int.unit) ≡ pos u = unit_as_read c.in-Int.unit u is small in
    rw round (tt, record { fits = small })

pub unreachable-requires : goal.unreachable-requires
unreachable-requires g c =
    c.in_default.not-Int (pos (get_or c.requires.text c.args.i 0))
    (read_is (g.H.ObjectStore.content c.args.heap.now) c.args.d c.args.text c.args.i c.requires c.read.result c.read.ensures)

pub returns : goal.returns
returns g c = λ units live.
    let u = get_or c.requires.text c.args.i 0 in
    let value = read_is (g.H.ObjectStore.content c.args.heap.now) c.args.d c.args.text c.args.i c.requires c.read.result c.read.ensures in
    let small = unit_is_small (g.H.ObjectStore.content c.args.heap.now) c.args.d c.args.text c.args.i c.requires
    (g.met.H.ObjectStore.holds c.args.heap.now) in
    let is : c.in-Int.unit ≡ pos u = same_int c.in-Int.unit (pos u) (sym c.in-Int.is ∙ value) in
    let round : to_z w32 (of_z w32 c.in-Int.unit) ≡ pos u = unit_as_read c.in-Int.unit u is small in
    unit_of (g.H.ObjectStore.content c.args.heap.now) c.args.d c.args.text c.args.i c.requires units live
    ∙ ap (λ (z : ℤ). Some (nat_abs z)) (sym round)
