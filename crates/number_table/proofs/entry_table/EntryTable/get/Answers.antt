-- The entry that is found is one of the table.
use Rattle.std.proofs.Common.{◌∙◌, Some, option_map, arith, sym, ap}
use Rattle.std.proofs.lemmas.List.{get_or_read}
use Rattle.number_table.specs.declared.entry_table.Entry.{Entry}
use Rattle.number_table.specs.Entries.{no_entry, entry_at}
use Rattle.number_table.proofs.EntriesOfANumber.{found_lt}
use Rattle.number_table.proofs.entry_table.EntryTable.get.Goals as goal

pub index-requires : goal.index-requires
index-requires c =
    let t = c.args.self.now in
    omega (arith, t.entries.ok.0, found_lt t c.args.number c.in-Some.entry (sym c.in-Some.ensures))

pub returns-in-Some : goal.returns-in-Some
returns-in-Some c =
    let t = c.args.self.now in
    let lt = found_lt c.args.self.now c.args.number c.in-Some.entry (sym c.in-Some.ensures) in
    ap (λ (x : Entry). Some x.place) (get_or_read t.entries.items _ _ lt c.index.ensures no_entry)
    ∙ ap (option_map (λ b. (entry_at t.entries.items b).place)) c.in-Some.ensures
