-- An entry has its class's walk.
use Rattle.std.proofs.Common.{◌≡◌, Some, slice_get, sym, ◌∙◌}
use Rattle.class_table.proofs.EntriesAreRight.{entry-at, is_class}
use Rattle.class_table.proofs.reading.walk.Goals as goal

pub returns-clause-some : goal.returns-clause-some
returns-clause-some c =
    let entries = c.args.entries.now in
    let e = c.in_ok-entry.entry.now in
    let at : slice_get entries c.args.c.0 ≡ Some e = sym c.in_ok-entry.ensures in
    (is_class entries c.args.c e at, c.as_slice.ensures ∙ (entry-at entries c.args.c e at c.requires).walk.whole)
