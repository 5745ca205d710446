-- What follows for the new class follows from its parent's entry.
use Rattle.std.proofs.Common.{◌+◌, ◌∙◌, ap, min, ◌-◌, ◌^◌}
use Rattle.class_table.proofs.EntriesAreRight.{fits-at, few_own-at}
use Rattle.class_table.proofs.OneClassMore.{standing-no_parent, standing-parent}
use Rattle.class_table.proofs.upwards.standing_of_new.Goals as goal

pub field_count-requires : goal.field_count-requires
field_count-requires c =
    fits-at c.args.entries.now c.in-Some.parent c.entry_of-entry.result.now c.entry_of-entry.ensures c.requires.table

pub words-requires : goal.words-requires
words-requires c =
    few_own-at c.args.entries.now c.in-Some.parent c.entry_of-entry.result.now c.entry_of-entry.ensures c.requires.table

pub returns-in-None : goal.returns-in-None
returns-in-None c = standing-no_parent c.args.entries.now c.requires.table c.args.class.now c.requires.above 0 c.in-None.is

pub returns-in-Some : goal.returns-in-Some
returns-in-Some c =
    let e = c.entry_of-entry.result.now in
    standing-parent c.args.entries.now c.requires.table c.args.class.now c.requires.above c.in-Some.parent e c.entry_of-entry.ensures c.in-Some.is
    c.field_count.result c.saturating_add.result c.saturating_add-in-Some.result c.jump_over.result c.field_count.ensures
    (c.saturating_add.ensures ∙ ap (λ n. min (e.standing.words + n) (2 ^ 32 - 1)) c.words.ensures) c.jump_over.ensures
