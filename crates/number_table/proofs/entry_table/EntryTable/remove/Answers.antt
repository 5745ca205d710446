-- The entry is found, and the last of its bucket is put in its place.
use Rattle.std.proofs.Common.{◌∙◌, refl, sym, ap, arith}
use Rattle.std.proofs.lemmas.List.{get_or_read}
use Rattle.number_table.specs.Entries.{no_entry, entry_at}
use Rattle.number_table.proofs.EntriesOfANumber.{found_some, found_lt}
use Rattle.number_table.proofs.EntryIsTaken.{taken_keeps, taken_removes}
use Rattle.number_table.proofs.entry_table.EntryTable.remove.Goals as goal

pub index_mut-requires : goal.index_mut-requires
index_mut-requires c =
    let t = c.args.self.now in
    omega (arith, t.entries.ok.0, found_lt t c.args.number c.in-Some.entry (sym c.in-Some.ensures))

pub invariant_of-self : goal.invariant_of-self
invariant_of-self c =
    let t = c.args.self.now in
    record {
      ok =
          taken_keeps t c.free_top.new.self c.args.number c.bucket-bucket.result c.in-Some.entry _ c.index.result.now
          (record {
            some = found_some t c.args.number c.in-Some.entry (sym c.in-Some.ensures);
            bucket = c.bucket-bucket.ensures;
            found = sym c.in-Some.ensures;
            is_last =
                get_or_read t.entries.items _ _ (omega (arith, c.top-top.ensures.within, t.ok.as_many)) c.index.ensures no_entry
                ∙ ap (entry_at t.entries.items) c.top-top.ensures.top;
            moves = c.free_top.ensures.moves;
          });
    }

pub returns-in-Some : goal.returns-in-Some
returns-in-Some c =
    let t = c.args.self.now in
    taken_removes t c.free_top.new.self c.args.number c.bucket-bucket.result c.in-Some.entry _ c.index.result.now
    (record {
      some = found_some t c.args.number c.in-Some.entry (sym c.in-Some.ensures);
      bucket = c.bucket-bucket.ensures;
      found = sym c.in-Some.ensures;
      is_last =
          get_or_read t.entries.items _ _ (omega (arith, c.top-top.ensures.within, t.ok.as_many)) c.index.ensures no_entry
          ∙ ap (entry_at t.entries.items) c.top-top.ensures.top;
      moves = c.free_top.ensures.moves;
    })
    _ refl refl refl refl
