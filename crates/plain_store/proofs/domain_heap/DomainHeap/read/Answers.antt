-- The value stands at its place of the object's payload.
use Rattle.std.proofs.Common.{◌≡◌, ◌+◌, ℤ, pos, Some, refl, ap, ◌∙◌, arith}
use Rattle.std.proofs.lemmas.Int.{ints}
use mir.Syntax.{w32}
use mir.Val.{to_z, of_z}
use Rattle.list_lemmas.proofs.ItemsByPlace.{item_read}
use Rattle.jk_model.specs.declared.values.Value.TheVariants as Held
use Rattle.plain_store.specs.Headers.{is_text}
use Rattle.plain_store.proofs.ItemsOfObjects.{in_units, in_values, item_within, name_within, no_text, place_low, read_unit, read_value}
use Rattle.plain_store.proofs.domain_heap.DomainHeap.read.Goals as goal

pub index-header-requires : goal.index-header-requires
index-header-requires c =
    let x = c.args.self.now in
    omega (arith, name_within x c.args.a c.requires.object c.requires.is, x.headers.ok.0)

pub overflow_add-place : goal.overflow_add-place
overflow_add-place c =
    let x = c.args.self.now in
    let a = c.args.a in
    let h = c.index-header.result.now in
    let at = item_read x.headers.items a h (name_within x a c.requires.object c.requires.is) c.index-header.ensures in
    let within = item_within x a c.args.i h at c.requires in
    record { fits = omega (arith, place_low x a c.args.i h at (is_text h.shape) refl within) }

pub index-requires : goal.index-requires
index-requires c =
    let x = c.args.self.now in
    let a = c.args.a in
    let h = c.index-header.result.now in
    let at = item_read x.headers.items a h (name_within x a c.requires.object c.requires.is) c.index-header.ensures in
    let within = item_within x a c.args.i h at c.requires in
    omega (arith, in_units x a c.args.i h at (ap is_text c.in-Text.is) within, x.units.ok.0)

pub index-requires-in_default : goal.index-requires-in_default
index-requires-in_default c =
    let x = c.args.self.now in
    let a = c.args.a in
    let h = c.index-header.result.now in
    let at = item_read x.headers.items a h (name_within x a c.requires.object c.requires.is) c.index-header.ensures in
    let within = item_within x a c.args.i h at c.requires in
    omega (arith, in_values x a c.args.i h at (no_text h.shape c.in_default.not-Text) within, x.values.ok.0)

pub returns-in-Text : goal.returns-in-Text
returns-in-Text c =
    let x = c.args.self.now in
    let a = c.args.a in
    let h = c.index-header.result.now in
    let at = item_read x.headers.items a h (name_within x a c.requires.object c.requires.is) c.index-header.ensures in
    let within = item_within x a c.args.i h at c.requires in
    let text = ap is_text c.in-Text.is in
    let u = c.index.result.now in
    let there = item_read x.units.items (h.first + c.args.i) u (in_units x a c.args.i h at text within) c.index.ensures in
    let small = x.ok.units_fit (h.first + c.args.i) u there in
    let from = c.from.ensures in
    let same : pos u ≡ to_z w32 (of_z w32 c.from.result) = omega (arith, ints) in
    λ object is. read_unit x a c.args.i h at text within u there object is ∙ ap (λ (z : ℤ). Some (Held.Int z)) same

pub returns-in_default : goal.returns-in_default
returns-in_default c =
    let x = c.args.self.now in
    let a = c.args.a in
    let h = c.index-header.result.now in
    let at = item_read x.headers.items a h (name_within x a c.requires.object c.requires.is) c.index-header.ensures in
    let within = item_within x a c.args.i h at c.requires in
    let value = no_text h.shape c.in_default.not-Text in
    let v = c.index-in_default.result.now in
    let there = item_read x.values.items (h.first + c.args.i) v (in_values x a c.args.i h at value within) c.index-in_default.ensures in
    read_value x a c.args.i h at c.requires value v there
