-- The field stands in the layout of the parent, and so in that of the class that is jumped to or in the parent's.
use Rattle.std.proofs.Common.{length, flat_map, ap, ◌∙◌, arith, append-nil}
use Rattle.jk_model_classes.specs.Classes.{parents_of}
use Rattle.jk_model_classes.specs.Layouts.{instance_fields}
use Rattle.class_table.specs.Entries.{records}
use Rattle.class_table.proofs.EntriesAreRight.{fits-at, field_count-at, jump_above-at, jump_within-at, parents-at, no_parents-at, parent_lower-at, parent_above-at}
use Rattle.class_table.proofs.StandingAbove.{flat_map-one}
use Rattle.class_table.proofs.upwards.step_to_holder.Goals as goal

pub entry_of-requires : goal.entry_of-requires
entry_of-requires c =
    jump_within-at c.args.entries.now c.args.at c.entry_of-entry.result.now c.entry_of-entry.ensures c.requires.table

pub field_count-requires : goal.field_count-requires
field_count-requires c =
    fits-at c.args.entries.now c.entry_of-entry.result.now.standing.jump c.entry_of.result.now c.entry_of.ensures c.requires.table

pub returns-then-i-field_count-clause-above : goal.returns-then-i-field_count-clause-above
returns-then-i-field_count-clause-above c =
    jump_above-at c.args.entries.now c.args.at c.entry_of-entry.result.now c.entry_of-entry.ensures c.requires.table

pub returns-then-i-field_count-clause-place : goal.returns-then-i-field_count-clause-place
returns-then-i-field_count-clause-place c =
    let jump = c.entry_of-entry.result.now.standing.jump in
    omega (arith, c.field_count.ensures, field_count-at c.args.entries.now jump c.entry_of.result.now c.entry_of.ensures c.requires.table)

pub unreachable-requires : goal.unreachable-requires
unreachable-requires c =
    let none = no_parents-at c.args.entries.now c.args.at c.entry_of-entry.result.now c.entry_of-entry.ensures c.in-None.is in
    omega (arith, c.requires.place, ap (λ parents. length (flat_map (instance_fields (records c.args.entries.now)) parents)) none)

pub returns-clause-lower : goal.returns-clause-lower
returns-clause-lower c =
    parent_lower-at c.args.entries.now c.args.at c.entry_of-entry.result.now c.entry_of-entry.ensures c.requires.table c.in-Some.parent c.in-Some.is

pub returns-clause-above : goal.returns-clause-above
returns-clause-above c =
    parent_above-at c.args.entries.now c.args.at c.entry_of-entry.result.now c.entry_of-entry.ensures c.requires.table c.in-Some.parent c.in-Some.is

pub returns-clause-place : goal.returns-clause-place
returns-clause-place c =
    let classes = records c.args.entries.now in
    let only = parents-at c.args.entries.now c.args.at c.entry_of-entry.result.now c.entry_of-entry.ensures c.in-Some.parent c.in-Some.is in
    let same =
    flat_map-one (instance_fields classes) (parents_of classes c.args.at) c.in-Some.parent only
    ∙ append-nil (instance_fields classes c.in-Some.parent) in
    omega (arith, c.requires.place, ap length same)
