-- A free entry becomes that of the key.
use Rattle.std.proofs.Common.{refl, rules}
use Rattle.number_table.proofs.EntryIsPut.{put_keeps, put_inserts}
use Rattle.number_table.proofs.entry_table.EntryTable.insert.Goals as goal

pub invariant_of-self : goal.invariant_of-self
invariant_of-self c =
    record {
      ok =
          put_keeps c.args.self.now c.move_top-entry.new.self c.args.number c.bucket-bucket.result c.move_top-entry.result c.args.place
          (record {
            some = search rules;
            bucket = c.bucket-bucket.ensures;
            fresh = c.requires.new;
            moves = c.move_top-entry.ensures.moves;
            within = c.move_top-entry.ensures.within;
          });
    }

pub returns : goal.returns
returns c =
    put_inserts c.args.self.now c.move_top-entry.new.self c.args.number c.bucket-bucket.result c.move_top-entry.result c.args.place
    (record {
      some = search rules;
      bucket = c.bucket-bucket.ensures;
      fresh = c.requires.new;
      moves = c.move_top-entry.ensures.moves;
      within = c.move_top-entry.ensures.within;
    })
    _ refl refl refl refl
