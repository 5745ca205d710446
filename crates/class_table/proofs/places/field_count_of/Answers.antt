-- The fields of those above and the class's own.
use Rattle.std.proofs.Common.{sym, ◌∙◌}
use Rattle.class_table.proofs.EntriesAreRight.{fits-at, field_count-at}
use Rattle.class_table.proofs.places.field_count_of.Goals as goal

pub field_count-requires : goal.field_count-requires
field_count-requires c = fits-at c.args.entries.now c.args.c c.entry_of.result.now c.entry_of.ensures c.requires.table

pub returns : goal.returns
returns c = c.field_count.ensures ∙ sym (field_count-at c.args.entries.now c.args.c c.entry_of.result.now c.entry_of.ensures c.requires.table)
