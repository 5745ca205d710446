-- The value is set at its place of the object's payload.
use Rattle.std.proofs.Common.{◌<◌, ℕ, set, refl, ap, subst, ◌∙◌, arith}
use Rattle.list_lemmas.proofs.ItemsByPlace.{item_read}
use Rattle.plain_store.specs.Headers.{is_text, object_with}
use Rattle.plain_store.specs.Pieces.{piece}
use Rattle.plain_store.proofs.HeapIsWritten.{unit_heap, unit_objects, written_heap, written_objects}
use Rattle.plain_store.proofs.ItemsOfObjects.{in_units, in_values, kind_kept, name_within, no_text, place_low, same_unit, takes_value, unit_taken, write_within, writes_unit, writes_value, written_here}
use Rattle.plain_store.proofs.domain_heap.DomainHeap.write.Goals as goal

pub index-header-requires : goal.index-header-requires
index-header-requires c =
    let x = c.args.self.now in
    omega (arith, name_within x c.args.a c.requires.object c.requires.is, x.headers.ok.0)

pub overflow_add-place : goal.overflow_add-place
overflow_add-place c =
    let x = c.args.self.now in
    let a = c.args.a in
    let h = c.index-header.result.now in
    let at = item_read x.headers.items a h (name_within x a c.requires.object c.requires.is) c.index-header.ensures in
    let within = write_within x a c.args.i c.args.v h at c.requires in
    record { fits = omega (arith, place_low x a c.args.i h at (is_text h.shape) refl within) }

pub unit_of-requires : goal.unit_of-requires
unit_of-requires c =
    let x = c.args.self.now in
    let a = c.args.a in
    let h = c.index-header.result.now in
    let at = item_read x.headers.items a h (name_within x a c.requires.object c.requires.is) c.index-header.ensures in
    unit_taken x a c.args.i c.args.v h at c.requires (ap is_text c.in-Text.is)

pub index_mut-requires : goal.index_mut-requires
index_mut-requires c =
    let x = c.args.self.now in
    let a = c.args.a in
    let h = c.index-header.result.now in
    let at = item_read x.headers.items a h (name_within x a c.requires.object c.requires.is) c.index-header.ensures in
    let within = write_within x a c.args.i c.args.v h at c.requires in
    omega (arith, in_units x a c.args.i h at (ap is_text c.in-Text.is) within, x.units.ok.0)

pub invariant_of-self : goal.invariant_of-self
invariant_of-self c =
    let x = c.args.self.now in
    let a = c.args.a in
    let h = c.index-header.result.now in
    let at = item_read x.headers.items a h (name_within x a c.requires.object c.requires.is) c.index-header.ensures in
    let within = write_within x a c.args.i c.args.v h at c.requires in
    let text = ap is_text c.in-Text.is in
    let unit = unit_taken x a c.args.i c.args.v h at c.requires text in
    let same = same_unit unit.unit c.unit_of.result c.args.v unit.is c.unit_of.ensures in
    let small = subst (λ (n : ℕ). n < 65536) same unit.small in
    record { ok = unit_heap x a c.args.i h at within text c.unit_of.result small; room = x.room }

pub index_mut-requires-in_default : goal.index_mut-requires-in_default
index_mut-requires-in_default c =
    let x = c.args.self.now in
    let a = c.args.a in
    let h = c.index-header.result.now in
    let at = item_read x.headers.items a h (name_within x a c.requires.object c.requires.is) c.index-header.ensures in
    let within = write_within x a c.args.i c.args.v h at c.requires in
    omega (arith, in_values x a c.args.i h at (no_text h.shape c.in_default.not-Text) within, x.values.ok.0)

pub invariant_of-self-in_default : goal.invariant_of-self-in_default
invariant_of-self-in_default c =
    let x = c.args.self.now in
    let a = c.args.a in
    let h = c.index-header.result.now in
    let at = item_read x.headers.items a h (name_within x a c.requires.object c.requires.is) c.index-header.ensures in
    let within = write_within x a c.args.i c.args.v h at c.requires in
    let value = no_text h.shape c.in_default.not-Text in
    let w = takes_value x a c.args.i c.args.v h at c.requires value in
    record { ok = written_heap x a c.args.i h at within value c.args.v (kind_kept x a c.args.i c.args.v h at c.requires value) w.narrow; room = x.room }

pub returns-in-Text : goal.returns-in-Text
returns-in-Text c =
    let x = c.args.self.now in
    let a = c.args.a in
    let i = c.args.i in
    let h = c.index-header.result.now in
    let at = item_read x.headers.items a h (name_within x a c.requires.object c.requires.is) c.index-header.ensures in
    let within = write_within x a i c.args.v h at c.requires in
    let text = ap is_text c.in-Text.is in
    let unit = unit_taken x a i c.args.v h at c.requires text in
    let small = subst (λ (n : ℕ). n < 65536) (same_unit unit.unit c.unit_of.result c.args.v unit.is c.unit_of.ensures) unit.small in
    let values = piece x.values.items h.first h.len in
    let units = piece x.units.items h.first h.len in
    λ object new is written.
    let w = writes_unit h.shape values units i c.args.v new text (written_here x a i c.args.v h at object new is written) in
    let same = same_unit w.unit c.unit_of.result c.args.v w.value c.unit_of.ensures in
    record {
      words = refl;
      becomes =
          unit_objects x a i h at within text c.unit_of.result small new
          (w.is ∙ ap (λ (n : ℕ). object_with h.shape values (set units i n)) same);
      uses = refl;
      mark = λ b. refl;
    }

pub returns-in_default : goal.returns-in_default
returns-in_default c =
    let x = c.args.self.now in
    let a = c.args.a in
    let i = c.args.i in
    let h = c.index-header.result.now in
    let at = item_read x.headers.items a h (name_within x a c.requires.object c.requires.is) c.index-header.ensures in
    let within = write_within x a i c.args.v h at c.requires in
    let value = no_text h.shape c.in_default.not-Text in
    let kind = kind_kept x a i c.args.v h at c.requires value in
    let narrow = (takes_value x a i c.args.v h at c.requires value).narrow in
    λ object new is written.
    let w =
    writes_value h.shape (piece x.values.items h.first h.len) (piece x.units.items h.first h.len) i c.args.v new value
    (written_here x a i c.args.v h at object new is written) in
    record {
      words = refl;
      becomes = written_objects x a i h at within value c.args.v kind narrow new w.is;
      uses = refl;
      mark = λ b. refl;
    }
