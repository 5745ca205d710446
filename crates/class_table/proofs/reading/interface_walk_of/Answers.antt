-- The front of an entry's walk is its class with the interfaces above it.
use Rattle.std.proofs.Common.{◌≡◌, Some, slice_get, sym, ◌∙◌}
use Rattle.class_table.proofs.EntriesAreRight.{entry-at, is_class}
use Rattle.class_table.proofs.reading.interface_walk_of.Goals as goal

pub interface_walk-requires : goal.interface_walk-requires
interface_walk-requires c =
    (entry-at c.args.entries.now c.args.i c.in_ok-entry.entry.now (sym c.in_ok-entry.ensures) c.requires).walk.own_within

pub returns-clause-some : goal.returns-clause-some
returns-clause-some c =
    let entries = c.args.entries.now in
    let e = c.in_ok-entry.entry.now in
    let at : slice_get entries c.args.i.0 ≡ Some e = sym c.in_ok-entry.ensures in
    (is_class entries c.args.i e at, c.interface_walk.ensures ∙ (entry-at entries c.args.i e at c.requires).walk.own)
