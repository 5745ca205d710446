-- The entry of a text says the text, and where it has no room the text has none.
use Rattle.std.proofs.Common.{refl, ap}
use Rattle.jk_model.specs.declared.class_file.PoolEntry.TheVariants as entries
use Rattle.jkasm.specs.Constants.{Utf8}
use Rattle.jkasm.proofs.ConstantsByEntries.{pool_text_is_utf8, utf8_entry_of}
use Rattle.jkasm.proofs.LastPut.{takes_by_put}
use Rattle.jkasm.proofs.NoRoomInFullPool.{no_room_in_full}
use Rattle.jkasm.proofs.pool.PoolBuilder.utf8.Goals as goal

pub put-requires-clause-good : goal.put-requires-clause-good
put-requires-clause-good c = rw c.in-Ok.ensures.items (pool_text_is_utf8 c.args.bytes.now c.requires)

pub returns-clause-takes : goal.returns-clause-takes
returns-clause-takes c =
    let entry = utf8_entry_of c.args.self.now _ c.args.bytes.now (ap entries.Utf8 c.in-Ok.ensures.items) refl in
    takes_by_put _ _ _ (Utf8 c.args.bytes.now) entry c.put.result c.put.ensures.puts

pub returns-clause-full : goal.returns-clause-full
returns-clause-full c =
    let entry = utf8_entry_of c.args.self.now _ c.args.bytes.now (ap entries.Utf8 c.in-Ok.ensures.items) refl in
    λ e. no_room_in_full _ _ _ (c.put.ensures.full e) entry
