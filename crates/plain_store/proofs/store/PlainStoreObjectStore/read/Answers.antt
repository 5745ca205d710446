-- The domain's heap is found.
use Rattle.plain_store.proofs.StoreChanges.{item_in, live_in, there_by_item}
use Rattle.plain_store.proofs.store.PlainStoreObjectStore.read.Goals as goal

pub heap-requires : goal.heap-requires
heap-requires c = there_by_item c.args.self.now.heaps.items c.args.d c.args._t.now c.args.a c.args.i c.requires

pub read-requires : goal.read-requires
read-requires c = item_in c.args.self.now.heaps.items c.args.d c.heap.result.now c.heap.ensures c.args._t.now c.args.a c.args.i c.requires

pub returns : goal.returns
returns c = λ object live. c.read.ensures object (live_in c.args.self.now.heaps.items c.args.d c.heap.result.now c.heap.ensures c.args.a object live)
