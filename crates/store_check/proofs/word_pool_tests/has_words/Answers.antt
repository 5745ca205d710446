-- Both words were cleared, and a store keeps what can be read.
use Rattle.std.proofs.Common.{◌+◌, arith, refl}
use Rattle.word_pool.proofs.ReadAfterWriting.{clear_reads, store_keeps}
use Rattle.store_check.proofs.word_pool_tests.has_words.Goals as goal

pub load-requires : goal.load-requires
load-requires c = store_keeps c.clear.new.self c.store.new.self c.args.at c.args.at 7 c.store.ensures
    (clear_reads c.args.pool.now c.clear.new.self c.args.at 2 (c.args.at + 2) c.args.at c.clear.ensures refl c.requires.0 (omega arith) (omega arith))

pub load-requires-then-load-eq7 : goal.load-requires-then-load-eq7
load-requires-then-load-eq7 c = store_keeps c.clear.new.self c.store.new.self c.args.at (c.args.at + 1) 7 c.store.ensures
    (clear_reads c.args.pool.now c.clear.new.self c.args.at 2 (c.args.at + 2) (c.args.at + 1) c.clear.ensures refl c.requires.0 (omega arith) (omega arith))
