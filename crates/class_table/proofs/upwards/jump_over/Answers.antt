-- Each jump leads to a class above.
use Rattle.class_table.specs.Entries.{records}
use Rattle.class_table.proofs.EntriesAreRight.{jump_above-at, jump_within-at}
use Rattle.class_table.proofs.StandingAbove.{superclasses-trans}
use Rattle.class_table.proofs.upwards.jump_over.Goals as goal

pub entry_of-requires-2 : goal.entry_of-requires-2
entry_of-requires-2 c = jump_within-at c.args.entries.now c.args.c c.entry_of.result.now c.entry_of.ensures c.requires.table

pub entry_of-requires-3 : goal.entry_of-requires-3
entry_of-requires-3 c =
    jump_within-at c.args.entries.now c.entry_of.result.now.standing.jump c.entry_of-2.result.now c.entry_of-2.ensures c.requires.table

pub returns-then-abs_diff : goal.returns-then-abs_diff
returns-then-abs_diff c =
    let entries = c.args.entries.now in
    let here = c.entry_of.result.now in
    let next = c.entry_of-2.result.now in
    superclasses-trans (records entries) c.requires.table.ordered c.args.c here.standing.jump next.standing.jump
    (jump_above-at entries c.args.c here c.entry_of.ensures c.requires.table)
    (jump_above-at entries here.standing.jump next c.entry_of-2.ensures c.requires.table)
