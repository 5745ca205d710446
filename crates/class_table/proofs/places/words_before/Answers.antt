-- The words of those above, and of the class's own fields before the place.
use Rattle.std.proofs.Common.{◌≡◌, ◌+◌, ◌-◌, ◌^◌, min, get_or, ap, ◌∙◌, arith}
use Rattle.std.proofs.lemmas.Option.{slice_get-get_or}
use Rattle.class_table.specs.declared.entry.OwnField.{OwnField}
use Rattle.class_table.proofs.EntriesAreRight.{entry-at, few_own-at}
use Rattle.class_table.proofs.FieldsByPlace.{held-words, held-within}
use Rattle.class_table.proofs.places.words_before.Goals as goal

pub overflow_cast-rank : goal.overflow_cast-rank
overflow_cast-rank c =
    let e = c.entry_of-entry.result.now in
    let held = held-within c.args.entries.now c.requires.table c.args.c c.args.i c.holder.result c.holder.ensures e c.entry_of-entry.ensures in
    let few = few_own-at c.args.entries.now c.holder.result e c.entry_of-entry.ensures c.requires.table in
    record { fits = omega (arith, held, few) }

pub overflow_add-rank : goal.overflow_add-rank
overflow_add-rank c =
    let e = c.entry_of-entry.result.now in
    let rank = c.args.i - e.standing.before in
    let none : OwnField = record { place = 0; longs = 0 } in
    let held = held-within c.args.entries.now c.requires.table c.args.c c.args.i c.holder.result c.holder.ensures e c.entry_of-entry.ensures in
    let few = few_own-at c.args.entries.now c.holder.result e c.entry_of-entry.ensures c.requires.table in
    let own = get_or e.own.fields rank none in
    let right = entry-at c.args.entries.now c.holder.result e c.entry_of-entry.ensures c.requires.table in
    let is = right.own.each rank own (slice_get-get_or e.own.fields rank none held) in
    let read : c.from.result ≡ own.longs = c.from.ensures ∙ ap (λ fields. (get_or fields rank none).longs) c.as_slice.ensures in
    record { fits = omega (arith, held, few, read, is.few) }

pub returns : goal.returns
returns c =
    let e = c.entry_of-entry.result.now in
    let rank = c.args.i - e.standing.before in
    let none : OwnField = record { place = 0; longs = 0 } in
    let held = held-within c.args.entries.now c.requires.table c.args.c c.args.i c.holder.result c.holder.ensures e c.entry_of-entry.ensures in
    let own = get_or e.own.fields rank none in
    let read : c.from.result ≡ own.longs = c.from.ensures ∙ ap (λ fields. (get_or fields rank none).longs) c.as_slice.ensures in
    c.saturating_add.ensures
    ∙ ap (λ n. min (e.standing.words + (rank + n)) (2 ^ 32 - 1)) read
    ∙ held-words c.args.entries.now c.requires.table c.args.c c.args.i c.holder.result c.holder.ensures e c.entry_of-entry.ensures own
    (slice_get-get_or e.own.fields rank none held)
