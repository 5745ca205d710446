-- The field stands after those of the classes above, at its rank among the class's own.
use Rattle.std.proofs.Common.{◌≡◌, ◌<◌, ◌≤◌, Some, length, slice_get, take, get_or, refl, sym, ap, ◌∙◌, arith}
use Rattle.std.proofs.lemmas.Option.{slice_get_read, slice_get-get_or}
use Rattle.class_table.proofs.EntriesAreRight.{entry-at, within-at}
use Rattle.class_table.proofs.FieldsByPlace.{placed-member}
use Rattle.list_lemmas.proofs.ItemsByPlace.{length_take_whole}
use Rattle.class_table.proofs.OwnPlacesGrow.{length-own_of}
use Rattle.class_table.proofs.reading.place_of.Goals as goal

pub bounds-as_slice-from : goal.bounds-as_slice-from
bounds-as_slice-from c =
    let right = entry-at c.args.entries.now c.args.m.class c.in_ok-entry.entry.now (sym c.in_ok-entry.ensures) c.requires in
    omega (arith, c.in_ok-field.ensures.3.0, right.own.rank_count, ap length c.as_slice.ensures)

pub overflow_add-result : goal.overflow_add-result
overflow_add-result c =
    let m = c.args.m in
    let e = c.in_ok-entry.entry.now in
    let at = sym c.in_ok-entry.ensures in
    let right = entry-at c.args.entries.now m.class e at c.requires in
    let within : m.index < length e.own.ranks = omega (arith, c.in_ok-field.ensures.3.0, right.own.rank_count) in
    let n = c.from-3.result in
    let read : n ≡ get_or e.own.ranks m.index 0
    = c.from-3.ensures ∙ ap (λ k. get_or c.as_slice.result.now k 0) c.from-2.ensures ∙ ap (λ ranks. get_or ranks m.index 0) c.as_slice.ensures in
    let rank = right.own.ranks m.index (get_or e.own.ranks m.index 0) (slice_get-get_or e.own.ranks m.index 0 within) in
    let few : n ≤ 65535
    = omega (arith, read, rank, length-own_of m.class (take m.index e.class.fields), length_take_whole e.class.fields m.index, right.few_fields) in
    record { fits = omega (arith, few, right.standing.few, within-at c.args.entries.now m.class e at, c.requires.few) }

pub returns-clause-some : goal.returns-clause-some
returns-clause-some c =
    let m = c.args.m in
    let e = c.in_ok-entry.entry.now in
    let at = sym c.in_ok-entry.ensures in
    let f = c.in_ok-field.field.now in
    let right = entry-at c.args.entries.now m.class e at c.requires in
    let within : m.index < length e.class.fields = omega (arith, c.in_ok-field.ensures.3.0) in
    let ranked : m.index < length e.own.ranks = omega (arith, right.own.rank_count) in
    let field : slice_get e.class.fields m.index ≡ Some f
    = slice_get_read e.class.fields (length e.class.fields) m.index f refl within (rw (← c.from.ensures) c.in_ok-field.ensures.1) in
    let read : c.from-3.result ≡ get_or e.own.ranks m.index 0
    = c.from-3.ensures ∙ ap (λ k. get_or c.as_slice.result.now k 0) c.from-2.ensures ∙ ap (λ ranks. get_or ranks m.index 0) c.as_slice.ensures in
    placed-member c.args.entries.now c.requires m e f c.from-3.result at field (sym c.is_instance_field.ensures ∙ c.if-not-is_instance_field.false)
    (slice_get-get_or e.own.ranks m.index 0 ranked ∙ ap Some (sym read))
