-- The class that holds the place declares the field there.
use Rattle.std.proofs.Common.{◌-◌, get_or}
use Rattle.std.proofs.lemmas.Option.{slice_get-get_or}
use Rattle.class_table.proofs.FieldsByPlace.{held-field, held-within}
use Rattle.class_table.proofs.places.field_of.Goals as goal

pub returns : goal.returns
returns c =
    let e = c.entry_of-entry.result.now in
    let held = held-within c.args.entries.now c.requires.table c.args.c c.args.i c.holder-class.result c.holder-class.ensures e c.entry_of-entry.ensures in
    let rank = c.args.i - e.standing.before in
    rw (c.as_slice.ensures)
    (held-field c.args.entries.now c.requires.table c.args.c c.args.i c.holder-class.result c.holder-class.ensures e c.entry_of-entry.ensures
    (get_or e.own.fields rank (record { place = 0; longs = 0 })) (slice_get-get_or e.own.fields rank (record { place = 0; longs = 0 }) held))
